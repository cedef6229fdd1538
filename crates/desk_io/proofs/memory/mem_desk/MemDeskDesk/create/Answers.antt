use Rattle.std.proofs.Common.{List, Bool, ap, subst, inl, inr}
use Rattle.desk_io.specs.MemDesk.{state_of}
use Rattle.desk_io.specs.Entries.{Entry, IsFirst, IsMissing}
use Rattle.desk_io.proofs.EntriesLemmas.{created_at, files_of-missing, missing_names, first_names}
use Rattle.desk_io.proofs.memory.mem_desk.MemDeskDesk.create.Goals as goal
use Rattle.desk_io.proofs.memory.mem_desk.MemDeskDesk.create.Goals.{in_default-via-in-Some+else-not-fails, in_default-via-in_default}

pub returns-in-Some-clause-created : goal.returns-in-Some-clause-created
returns-in-Some-clause-created c =
    let files = c.args.self.now.files.items in
    let first : IsFirst files c.in-Some.i c.args.name.now = subst (λ (es : List Entry). IsFirst es c.in-Some.i c.args.name.now) c.deref.ensures.value c.in-Some.ensures in
    let made = created_at files c.in-Some.i c.args.name.now c.empty.new.self c.index_mut-file.result.now first c.index_mut-file.ensures.value c.empty.ensures in
    λ k. record {
      files = made.files k;
      may_create = made.names k;
      left = c.args.self.now.readers.left;
      out = c.args.self.now.out.bytes;
      created = made.created k;
      room = c.args.self.now.room;
      plain = c.count-fails.ensures.plain k;
    }

pub returns-in-Some-clause-allowed : goal.returns-in-Some-clause-allowed
returns-in-Some-clause-allowed c =
    let files = c.args.self.now.files.items in
    let first : IsFirst files c.in-Some.i c.args.name.now = subst (λ (es : List Entry). IsFirst es c.in-Some.i c.args.name.now) c.deref.ensures.value c.in-Some.ensures in
    inr (first_names files c.in-Some.i c.args.name.now first)

pub returns-in_default-clause-fails : goal.returns-in_default-clause-fails
returns-in_default-clause-fails c = elim c.in_default.branch [
  | in_default-via-in-Some+else-not-fails w ↦ inl (c.count-fails.ensures.due.0 w.if-not-fails.false)
  | in_default-via-in_default w ↦
      let missing : IsMissing c.args.self.now.files.items c.args.name.now = subst (λ (es : List Entry). IsMissing es c.args.name.now) c.deref.ensures.value w.in_default.ensures in
      inr (files_of-missing c.args.self.now.files.items c.args.name.now missing, missing_names c.args.self.now.files.items c.args.name.now missing)
]

pub returns-in_default-clause-failed : goal.returns-in_default-clause-failed
returns-in_default-clause-failed c = ap (λ (plain : Bool). record (state_of c.args.self.now) { plain = plain }) c.count-fails.ensures.plain
