-- Reading comes first: what is printed is the same beside what was there before it.
use Rattle.std.proofs.Common.{◌≡◌, ◌⊎◌, ◌<◌, ◌++◌, ℕ, true, refl, List, take, Contains, Result, Ok, Err, IsTrue, inl, inr, sym, ◌∙◌, ap, subst}
use Rattle.std.specs.Str.{bytes_eq}
use Rattle.std.proofs.lemmas.Bool.{cases_Bool}
use Rattle.desk_io.specs.State.{Files, DeskState, OnlyReads, with_file}
use Rattle.printed_lines.specs.Lines.{Text}
use Rattle.request_reading.specs.declared.reply.Reply.{Reply as Answer}
use Rattle.request_reading.specs.declared.status.Status.{Status}
use Rattle.request_reading.specs.declared.status.Status.TheVariants.{WriteFault, Memory as Wanting}
use Rattle.request_reading.specs.Status.{is_answer}
use Rattle.command_run.specs.Headline.{IsCertOf, MayChange}
use Rattle.command_run.specs.Edits.{edits_answer}
use Rattle.command_run.specs.Meanings.{cert_of, meaning_of}
use Rattle.command_run.specs.Replies.{too_large_answer}
use Rattle.command_run.specs.Sought.{request}
use Rattle.request_reading.specs.declared.early.Early.{Early}
use Rattle.request_reading.specs.declared.early.Early.TheVariants.{Refused}
use Rattle.request_reading.specs.declared.reading.Asked.{Asked}
use Rattle.request_reading.specs.declared.reading.Asked.TheVariants as asked
use Rattle.command_run.specs.Putting.{IsBarred, PutsBoth, CameTo, uncreated, in_cert, in_text}
use Rattle.command_run.specs.Printing.{PrintsAnswer, PrintsAnswerPart, PrintsAsked, Prints, PrintsAskedPart, PrintsPart}

files_kept : (old mid : DeskState) → OnlyReads old mid → mid.files ≡ old.files
files_kept old mid only = ap (λ (s : DeskState). s.files) only

out_kept : (old mid : DeskState) → OnlyReads old mid → mid.out ≡ old.out
out_kept old mid only = ap (λ (s : DeskState). s.out) only

room_kept : (old mid : DeskState) → OnlyReads old mid → mid.room ≡ old.room
room_kept old mid only = ap (λ (s : DeskState). s.room) only

answer_after : (a : Answer) (old mid new : DeskState) (st : Status) → OnlyReads old mid → PrintsAnswer a mid new st → PrintsAnswer a old new st
answer_after a old mid new st only p = record {
  status_is = p.status_is;
  out = p.out ∙ ap (λ (o : List ℕ). o ++ a.text) (out_kept old mid only);
  files = p.files ∙ files_kept old mid only;
}

less_after : (n : ℕ) (old mid : DeskState) → OnlyReads old mid → mid.room < n → old.room < n
less_after n old mid only less = subst (λ (r : ℕ). r < n) (room_kept old mid only) less

plain_kept : (old mid : DeskState) → OnlyReads old mid → IsTrue old.plain → IsTrue mid.plain
plain_kept old mid only plain = subst IsTrue (sym (ap (λ (s : DeskState). s.plain) only)) plain

part_after : (a : Answer) (old mid new : DeskState) → OnlyReads old mid → PrintsAnswerPart a mid new → PrintsAnswerPart a old new
part_after a old mid new only p = record {
  count = p.count;
  short = p.short;
  out = p.out ∙ ap (λ (o : List ℕ). o ++ take p.count a.text) (out_kept old mid only);
  files = p.files ∙ files_kept old mid only;
  room = λ plain. less_after _ old mid only (p.room (plain_kept old mid only plain));
}

both_after : (path : List ℕ) (cert : Text) (a : Answer) (old mid new : DeskState) (st : Status) → OnlyReads old mid → PutsBoth path cert a mid new st → PutsBoth path cert a old new st
both_after path cert a old mid new st only p = record {
  status_is = p.status_is;
  out = p.out ∙ ap (λ (o : List ℕ). o ++ a.text) (out_kept old mid only);
  files = p.files ∙ ap (with_file path cert) (files_kept old mid only);
}

barred_after : (path : List ℕ) (old mid : DeskState) → OnlyReads old mid → IsBarred path mid → IsBarred path old
barred_after path old mid only b = record {
  missing = sym (ap (λ (f : Files). f path) (files_kept old mid only)) ∙ b.missing;
  never = subst (λ (names : List (List ℕ)). Contains names path → ⊥) (ap (λ (s : DeskState). s.may_create) only) b.never;
}

came_after : (path : List ℕ) (cert text : Text) (old mid new : DeskState) → OnlyReads old mid → CameTo path cert text mid new → CameTo path cert text old new
came_after path cert text old mid new only (uncreated f o why) =
    uncreated (f ∙ files_kept old mid only) (o ∙ out_kept old mid only) (λ plain. barred_after path old mid only (why (plain_kept old mid only plain)))
came_after path cert text old mid new only (in_cert n short f o why) =
    in_cert n short (f ∙ ap (with_file path (take n cert)) (files_kept old mid only)) (o ∙ out_kept old mid only) (λ plain. less_after _ old mid only (why (plain_kept old mid only plain)))
came_after path cert text old mid new only (in_text n short f o why) =
    in_text n short (f ∙ ap (with_file path cert) (files_kept old mid only)) (o ∙ ap (λ (x : List ℕ). x ++ take n text) (out_kept old mid only)) (λ plain. less_after _ old mid only (why (plain_kept old mid only plain)))

-- ---- what is asked

pub asked_after : (a : Asked) (old mid new : DeskState) (st : Status) → OnlyReads old mid → PrintsAsked a mid new st → PrintsAsked a old new st
asked_after (asked.Question f q) old mid new st only p = record { answer = p.answer; is = p.is; printed = answer_after p.answer old mid new st only p.printed }
asked_after (asked.Search s) old mid new st only (inl p) = inl (record { reply = p.reply; put = both_after s.path _ p.reply.answer old mid new st only p.put })
asked_after (asked.Search s) old mid new st only (inr p) = inr (record { vars = p.vars; many = p.many; printed = answer_after (too_large_answer p.vars) old mid new st only p.printed })
asked_after (asked.Edits e) old mid new st only p = answer_after (edits_answer e) old mid new st only p
asked_after (asked.Checked a) old mid new st only p = answer_after a old mid new st only p

asked_part_after : (a : Asked) (old mid new : DeskState) → OnlyReads old mid → PrintsAskedPart a mid new → PrintsAskedPart a old new
asked_part_after (asked.Question f q) old mid new only p = record { answer = p.answer; is = p.is; printed = part_after p.answer old mid new only p.printed }
asked_part_after (asked.Search s) old mid new only (inl p) = inl (record { reply = p.reply; came = came_after s.path _ p.reply.answer.text old mid new only p.came })
asked_part_after (asked.Search s) old mid new only (inr p) = inr (record { vars = p.vars; many = p.many; printed = part_after (too_large_answer p.vars) old mid new only p.printed })
asked_part_after (asked.Edits e) old mid new only p = part_after (edits_answer e) old mid new only p
asked_part_after (asked.Checked a) old mid new only p = part_after a old mid new only p

-- ---- what comes of the words

pub prints_ok : (r : Result Asked Early) (a : Asked) (old mid new : DeskState) (st : Status) → r ≡ Ok a → OnlyReads old mid → PrintsAsked a mid new st → Prints r old new st
prints_ok r a old mid new st is only p = subst (λ (x : Result Asked Early). Prints x old new st) (sym is) (asked_after a old mid new st only p)

pub prints_refused : (r : Result Asked Early) (a : Answer) (old mid new : DeskState) (st : Status) → r ≡ Err (Refused a) → OnlyReads old mid → PrintsAnswer a mid new st → Prints r old new st
prints_refused r a old mid new st is only p = subst (λ (x : Result Asked Early). Prints x old new st) (sym is) (answer_after a old mid new st only p)

pub part_ok : (r : Result Asked Early) (a : Asked) (old mid new : DeskState) → r ≡ Ok a → OnlyReads old mid → PrintsAskedPart a mid new → PrintsPart r old new
part_ok r a old mid new is only p = subst (λ (x : Result Asked Early). PrintsPart x old new) (sym is) (asked_part_after a old mid new only p)

pub part_refused : (r : Result Asked Early) (a : Answer) (old mid new : DeskState) → r ≡ Err (Refused a) → OnlyReads old mid → PrintsAnswerPart a mid new → PrintsPart r old new
part_refused r a old mid new is only p = subst (λ (x : Result Asked Early). PrintsPart x old new) (sym is) (part_after a old mid new only p)

-- ---- no other file changes

other_file : (path name : List ℕ) (bytes : Text) (files : Files) → (bytes_eq path name ≡ true → ⊥) → with_file name bytes files path ≡ files path
other_file path name bytes files other = elim (cases_Bool (bytes_eq path name)) [
  | inl e ↦ absurd (other e)
  | inr e ↦ rw e refl
]

at_path : (path : List ℕ) (files now : Files) → now ≡ files → now path ≡ files path
at_path path files now e = ap (λ (f : Files). f path) e

printed_files : (a : Asked) (old new : DeskState) (st : Status) (path : List ℕ) → (IsCertOf path a → ⊥) → PrintsAsked a old new st → new.files path ≡ old.files path
printed_files (asked.Question f q) old new st path other p = at_path path old.files new.files p.printed.files
printed_files (asked.Search s) old new st path other (inl p) = at_path path (with_file s.path (cert_of (meaning_of s.goal) (request s) p.reply.found) old.files) new.files p.put.files ∙ other_file path s.path (cert_of (meaning_of s.goal) (request s) p.reply.found) old.files other
printed_files (asked.Search s) old new st path other (inr p) = at_path path old.files new.files p.printed.files
printed_files (asked.Edits e) old new st path other p = at_path path old.files new.files p.files
printed_files (asked.Checked a) old new st path other p = at_path path old.files new.files p.files

came_files : (name : List ℕ) (cert text : Text) (old new : DeskState) (path : List ℕ) → (bytes_eq path name ≡ true → ⊥) → CameTo name cert text old new → new.files path ≡ old.files path
came_files name cert text old new path other (uncreated f o why) = at_path path old.files new.files f
came_files name cert text old new path other (in_cert n short f o why) = at_path path (with_file name (take n cert) old.files) new.files f ∙ other_file path name (take n cert) old.files other
came_files name cert text old new path other (in_text n short f o why) = at_path path (with_file name cert old.files) new.files f ∙ other_file path name cert old.files other

part_files : (a : Asked) (old new : DeskState) (path : List ℕ) → (IsCertOf path a → ⊥) → PrintsAskedPart a old new → new.files path ≡ old.files path
part_files (asked.Question f q) old new path other p = at_path path old.files new.files p.printed.files
part_files (asked.Search s) old new path other (inl p) = came_files s.path _ p.reply.answer.text old new path other p.came
part_files (asked.Search s) old new path other (inr p) = at_path path old.files new.files p.printed.files
part_files (asked.Edits e) old new path other p = at_path path old.files new.files p.files
part_files (asked.Checked a) old new path other p = at_path path old.files new.files p.files

-- how an answer to what is asked ends
pub record Ended (a : Asked) (old new : DeskState) (st : Status) : Type 0 where
  pub answered : IsTrue (is_answer st) → PrintsAsked a old new st
  pub part : st ≡ WriteFault → PrintsAskedPart a old new
  pub silent : st ≡ Wanting → new ≡ old
  pub ends : IsTrue (is_answer st) ⊎ ((st ≡ WriteFault) ⊎ (st ≡ Wanting))

ended_files : (a : Asked) (old new : DeskState) (st : Status) (path : List ℕ) → (IsCertOf path a → ⊥) → Ended a old new st → new.files path ≡ old.files path
ended_files a old new st path other e = elim e.ends [
  | inl is ↦ printed_files a old new st path other (e.answered is)
  | inr failed ↦ elim failed [
    | inl written ↦ part_files a old new path other (e.part written)
    | inr wanting ↦ ap (λ (s : DeskState). s.files path) (e.silent wanting)
  ]
]

pub files_ok : (r : Result Asked Early) (a : Asked) (old mid new : DeskState) (st : Status) (path : List ℕ) → r ≡ Ok a → OnlyReads old mid → (MayChange path r → ⊥) → Ended a mid new st → new.files path ≡ old.files path
files_ok r a old mid new st path is only other e =
    ended_files a mid new st path (subst (λ (x : Result Asked Early). MayChange path x → ⊥) is other) e ∙ at_path path old.files mid.files (files_kept old mid only)

-- how a refusal ends
pub record EndedEarly (a : Answer) (old new : DeskState) (st : Status) : Type 0 where
  pub answered : IsTrue (is_answer st) → PrintsAnswer a old new st
  pub part : st ≡ WriteFault → PrintsAnswerPart a old new
  pub ends : (st ≡ a.status) ⊎ (st ≡ WriteFault)

pub files_refused : (a : Answer) (old mid new : DeskState) (st : Status) (path : List ℕ) → OnlyReads old mid → IsTrue (is_answer a.status) → EndedEarly a mid new st → new.files path ≡ old.files path
files_refused a old mid new st path only is e = elim e.ends [
  | inl same ↦ at_path path mid.files new.files ((e.answered (subst (λ (x : Status). IsTrue (is_answer x)) (sym same) is)).files) ∙ at_path path old.files mid.files (files_kept old mid only)
  | inr written ↦ at_path path mid.files new.files ((e.part written).files) ∙ at_path path old.files mid.files (files_kept old mid only)
]
