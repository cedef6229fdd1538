use Rattle.std.proofs.Common.{◌≡◌, ℕ, List, ◌++◌, ap, sym, subst, ◌∙◌, None}
use Rattle.std.specs.Prelude.{◌==◌, All, length, map}
use Rattle.desk_io.specs.declared.memory.failing.Call.{Call}
use Rattle.desk_io.specs.Entries.{Entry, Block, Readings, entry_of, missing_of, files_of}
use Rattle.desk_io.proofs.EntriesLemmas.{files_of-all, names-all, sized-all}
use Rattle.desk_io.proofs.memory.mem_desk.MemDesk.new.Goals as goal

pub invariant_of-result-clause-sized : goal.invariant_of-result-clause-sized
invariant_of-result-clause-sized c =
    let size = c.longest-size.result in
    let files = c.args.files.items in
    let names = c.args.may_create.items in
    let readers : c.in_ok-readers.readers.size ≡ size = ap (λ (r : Readings). r.size) c.in_ok-readers.ensures in
    subst (λ (es : List Entry). All (λ f. f.size ≡ c.in_ok-readers.readers.size) es) (sym c.in_ok-files.ensures)
    (subst (λ (n : ℕ). All (λ f. f.size ≡ n) (map (entry_of size) files ++ map (missing_of size) names)) (sym readers) (sized-all size files names))

pub returns-clause-state : goal.returns-clause-state
returns-clause-state c =
    let size = c.longest-size.result in
    let files = c.args.files.items in
    let names = c.args.may_create.items in
    λ k. record {
      files = λ n. (ap (λ (es : List Entry). files_of es n) c.in_ok-files.ensures ∙ files_of-all size files names n) k;
      may_create = (ap (map (λ (e : Entry). e.name)) c.in_ok-files.ensures ∙ names-all size files names) k;
      left = ap (λ (r : Readings). r.left) c.in_ok-readers.ensures k;
      out = ap (λ (b : Block). b.bytes) c.in_ok-out.ensures k;
      created = None;
      room = c.args.capacity;
      plain = ap (λ (calls : List (Call × ℕ)). length calls == 0) c.new-3.ensures k;
    }
