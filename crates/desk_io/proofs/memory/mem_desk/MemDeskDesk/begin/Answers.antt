use Rattle.std.proofs.Common.{◌≡◌, List, sym, subst}
use Rattle.std.specs.Prelude.{All}
use Rattle.desk_io.specs.Entries.{Entry}
use Rattle.desk_io.proofs.memory.mem_desk.MemDeskDesk.begin.Goals as goal

pub begin-requires : goal.begin-requires
begin-requires c =
    let size = c.args.self.now.readers.size in
    c.in-Some.ensures.fits size (subst (λ (es : List Entry). All (λ f. f.size ≡ size) es) (sym c.deref.ensures.value) c.args.self.now.sized)
