-- After a run the output begins with what stood there before.
use Rattle.std.proofs.Common.{◌≡◌, inl, inr, ℕ, ◌++◌, ◌∙◌, List, [], Result, Ok, Err, take, sym, refl}
use Rattle.std.proofs.lemmas.List.{append-nil}
use Rattle.desk_io.specs.State.{DeskState}
use Rattle.request_reading.specs.declared.status.Status.{Status}
use Rattle.request_reading.specs.declared.status.Status.TheVariants.{Yes, No, Unknown, Usage, ConfigRefused, CertRefused, ReadFault, WriteFault, Memory as MemoryWanting, TooLarge, ScriptRefused}
use Rattle.request_reading.specs.declared.early.Early.{Early}
use Rattle.request_reading.specs.declared.early.Early.TheVariants.{Refused, Read, Memory}
use Rattle.request_reading.specs.declared.reading.Asked.{Asked}
use Rattle.request_reading.specs.declared.reading.Asked.TheVariants as asked
use Rattle.request_reading.specs.Answers.{asked_of}
use Rattle.command_run.specs.Putting.{CameTo, uncreated, in_cert, in_text}
use Rattle.command_run.specs.Printing.{Prints, PrintsPart}
use Rattle.command_run.specs.Running.{Runs}

-- the output has the old one at its front
abbrev pub Grown : List ℕ → List ℕ → Type 0
Grown old new = (text : List ℕ) × (new ≡ old ++ text)

prints_grow : (what : Result Asked Early) (old new : DeskState) (status : Status) → Prints what old new status → Grown old.out new.out
prints_grow (Ok (asked.Question f q)) old new status p = (p.answer.text, p.printed.out)
prints_grow (Ok (asked.Search s)) old new status (inl found) = (found.reply.answer.text, found.put.out)
prints_grow (Ok (asked.Search s)) old new status (inr large) = (_, large.printed.out)
prints_grow (Ok (asked.Edits e)) old new status p = (_, p.out)
prints_grow (Ok (asked.Checked a)) old new status p = (_, p.out)
prints_grow (Err (Refused a)) old new status p = (_, p.out)
prints_grow (Err Read) old new status p = absurd p
prints_grow (Err Memory) old new status p = absurd p

same_grows : (old new : List ℕ) → new ≡ old → Grown old new
same_grows old new is = ([], is ∙ sym (append-nil old))

came_grows : (path : List ℕ) (cert text : List ℕ) (old new : DeskState) → CameTo path cert text old new → Grown old.out new.out
came_grows path cert text old new (uncreated files out why) = same_grows old.out new.out out
came_grows path cert text old new (in_cert n short files out why) = same_grows old.out new.out out
came_grows path cert text old new (in_text n short files out why) = (take n text, out)

part_grows : (what : Result Asked Early) (old new : DeskState) → PrintsPart what old new → Grown old.out new.out
part_grows (Ok (asked.Question f q)) old new p = (_, p.printed.out)
part_grows (Ok (asked.Search s)) old new (inl found) = came_grows s.path _ found.reply.answer.text old new found.came
part_grows (Ok (asked.Search s)) old new (inr large) = (_, large.printed.out)
part_grows (Ok (asked.Edits e)) old new p = (_, p.out)
part_grows (Ok (asked.Checked a)) old new p = (_, p.out)
part_grows (Err (Refused a)) old new p = (_, p.out)
part_grows (Err Read) old new p = absurd p
part_grows (Err Memory) old new p = absurd p

pub run_grows : (words : List (List ℕ)) (old new : DeskState) (status : Status) → Runs words old new status → Grown old.out new.out
run_grows words old new Yes ran = prints_grow (asked_of words old.files) old new Yes (ran.answered refl)
run_grows words old new No ran = prints_grow (asked_of words old.files) old new No (ran.answered refl)
run_grows words old new Unknown ran = prints_grow (asked_of words old.files) old new Unknown (ran.answered refl)
run_grows words old new Usage ran = prints_grow (asked_of words old.files) old new Usage (ran.answered refl)
run_grows words old new ConfigRefused ran = prints_grow (asked_of words old.files) old new ConfigRefused (ran.answered refl)
run_grows words old new CertRefused ran = prints_grow (asked_of words old.files) old new CertRefused (ran.answered refl)
run_grows words old new TooLarge ran = prints_grow (asked_of words old.files) old new TooLarge (ran.answered refl)
run_grows words old new ScriptRefused ran = prints_grow (asked_of words old.files) old new ScriptRefused (ran.answered refl)
run_grows words old new ReadFault ran = same_grows old.out new.out (ran.silent (inl refl))
run_grows words old new MemoryWanting ran = same_grows old.out new.out (ran.silent (inr refl))
run_grows words old new WriteFault ran = part_grows (asked_of words old.files) old new (ran.part refl)
