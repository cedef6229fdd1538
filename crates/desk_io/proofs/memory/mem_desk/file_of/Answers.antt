use Rattle.std.proofs.Common.{◌≡◌, ◌∙◌, ap, sym}
use Rattle.desk_io.specs.Entries.{Entry, files_of}
use Rattle.desk_io.proofs.EntriesLemmas.{files_of-first, files_of-missing}
use Rattle.desk_io.proofs.memory.mem_desk.file_of.Goals as goal

pub returns-in_err-i-clause-held : goal.returns-in_err-i-clause-held
returns-in_err-i-clause-held c = rw c.from_residual.ensures (files_of-missing c.args.files.now c.args.name.now c.in_err-i.ensures)

pub returns-clause-held : goal.returns-clause-held
returns-clause-held c =
    let held : files_of c.args.files.now c.args.name.now ≡ c.index-files-i.result.held =
    files_of-first c.args.files.now c.in_ok-i.i c.args.name.now c.index-files-i.result c.in_ok-i.ensures ∙ ap (λ (e : Entry). e.held) (sym c.index-files-i.is) in
    rw held c.bytes.ensures.held
