-- The answer is that a formula is too large exactly where there is one.
use Rattle.std.proofs.Common.{◌≡◌, ◌↔◌, ◌<◌, ◌≤◌, ℕ, inl, inr, true, false, nat_le, if◌then◌else◌, arith, List, Result, Ok, Err, IfErr, IsTrue, refl, sym, ◌∙◌, ap, subst}
use Rattle.std.proofs.lemmas.Bool.{cases_Bool, leb-true, leb-false}
use Rattle.fbas_model.specs.Nodes.{Table}
use Rattle.fbas_model.specs.Systems.{System}
use Rattle.desk_io.specs.State.{DeskState}
use Rattle.clause_encoder.specs.declared.limits.TheConstants.{MOST_VARS}
use Rattle.printed_lines.specs.Lines.{Text}
use Rattle.request_reading.specs.declared.status.Status.{Status}
use Rattle.request_reading.specs.declared.status.Status.TheVariants.{Yes, No, Unknown, TooLarge, ScriptRefused}
use Rattle.request_reading.specs.declared.reply.Reply.{Reply as Answer}
use Rattle.request_reading.specs.declared.early.Early.{Early}
use Rattle.request_reading.specs.declared.early.Early.TheVariants.{Refused, Read, Memory}
use Rattle.request_reading.specs.Reading.{is_refusal, IsRefusal}
use Rattle.request_reading.specs.declared.question.Question.{Question}
use Rattle.request_reading.specs.declared.question.Question.TheVariants.{Show, Closure, Greatest, Available, Blocks, Export, Vblocks}
use Rattle.request_reading.specs.declared.question.Origin.{Origin}
use Rattle.request_reading.specs.declared.reading.Asked.{Asked}
use Rattle.request_reading.specs.declared.reading.Asked.TheVariants as asked
use Rattle.request_reading.specs.declared.searches.Search.{Search}
use Rattle.whatif_session.specs.Scripts.{states_of}
use Rattle.whatif_session.specs.declared.faults.ScriptFault.{ScriptFault}
use Rattle.request_reading.specs.Formulas.{version_of}
use Rattle.command_run.specs.Edits.{states_answer, edits_answer}
use Rattle.command_run.specs.QuestionAnswers.{Answers, AnswersExport, export_answer}
use Rattle.command_run.specs.Replies.{IsLarge}
use Rattle.command_run.specs.Sought.{part, deleted}
use Rattle.command_run.proofs.Replied.{reply_told, told_small}
use Rattle.command_run.specs.Printing.{PrintsSearch, Prints, PrintsAsked, IsLargeQuestion, IsLargeAsked, IsTooLarge}

abbrev IsSmall : Status → Type 0
IsSmall status = status ≡ TooLarge → ⊥

yes_small : IsSmall Yes
yes_small e = cc

no_small : IsSmall No
no_small e = cc

unknown_small : IsSmall Unknown
unknown_small e = cc

small_as : (a b : Answer) → a ≡ b → IsSmall b.status → IsSmall a.status
small_as a b is small e = small (sym (ap (λ (x : Answer). x.status) is) ∙ e)

-- ---- the answer to a question

never : (a : Answer) (status : Status) (text : Text) → a ≡ record { status = status; text = text } → IsSmall status → (a.status ≡ TooLarge) ↔ ⊥
never a status text is small = (small_as a (record { status = status; text = text }) is small, λ none. absurd none)

by_size : (n : ℕ) (text more : Text) (a : Answer) → a ≡ (if nat_le n MOST_VARS then record { status = Yes; text = text } else record { status = TooLarge; text = more }) → (a.status ≡ TooLarge) ↔ (MOST_VARS < n)
by_size n text more a is = elim (cases_Bool (nat_le n MOST_VARS)) [
  | inl e ↦
      let said : a ≡ record { status = Yes; text = text } = is ∙ rw e refl in
      let low : n ≤ MOST_VARS = leb-true n MOST_VARS e in
      (λ large. absurd (small_as a (record { status = Yes; text = text }) said yes_small large), λ less. absurd (omega arith))
  | inr e ↦
      let said : a ≡ record { status = TooLarge; text = more } = is ∙ rw e refl in
      let high : MOST_VARS < n = leb-false n MOST_VARS e in
      (λ large. omega arith, λ less. ap (λ (x : Answer). x.status) said)
]

export_large : (f : System) (origin : Origin) (b : Table) (a : Answer) → AnswersExport f origin b a → (a.status ≡ TooLarge) ↔ IsLarge (version_of origin.formula) f b
export_large f origin b a is = by_size _ _ _ a (is.said ∙ ap (export_answer f origin b) is.counted)

answer_large : (f : System) (q : Question) (a : Answer) → Answers f q a → (a.status ≡ TooLarge) ↔ IsLargeQuestion f q
answer_large f Show a is = never a Yes _ is yes_small
answer_large f (Closure v) a is = never a Yes _ is.said yes_small
answer_large f (Greatest b) a is = never a Yes _ is.said yes_small
answer_large f (Available s) a (inl is) = never a Yes _ is.said yes_small
answer_large f (Available s) a (inr is) = never a No _ is.said no_small
answer_large f (Blocks s b) a (inl is) = never a Yes _ is.said yes_small
answer_large f (Blocks s b) a (inr is) = never a No _ is.said no_small
answer_large f (Export origin b) a is = export_large f origin b a is
answer_large f (Vblocks v s) a (inl is) = never a Yes _ is.1 yes_small
answer_large f (Vblocks v s) a (inr is) = never a No _ is.1 no_small

-- ---- the answer to edits

states_small : (set : Text) (r : Result (List System) ScriptFault) → ((states_answer set r).status ≡ TooLarge) ↔ ⊥
states_small set (Ok states) = never (states_answer set (Ok states)) Yes _ refl yes_small
states_small set (Err fault) = never (states_answer set (Err fault)) ScriptRefused _ refl (λ e. cc)

-- ---- what is printed

by_status : (P : Type 0) (wanted status : Status) → status ≡ wanted → (wanted ≡ TooLarge) ↔ P → (status ≡ TooLarge) ↔ P
by_status P wanted status is same = (λ large. same.0 (sym is ∙ large), λ p. is ∙ same.1 p)

search_large : (s : Search) (old new : DeskState) (status : Status) → PrintsSearch s old new status → (status ≡ TooLarge) ↔ IsLargeAsked (asked.Search s)
search_large s old new status (inl p) =
    let r = p.reply in
    (λ large. absurd (told_small r.answer.status (reply_told s.goal (part s) (deleted s) s.budget r.found r.answer r.is) (sym p.put.status_is ∙ large)), λ many. absurd (r.small many.0 many.1))
search_large s old new status (inr p) = (λ large. (p.vars, p.many), λ many. p.printed.status_is)

asked_large : (a : Asked) (old new : DeskState) (status : Status) → PrintsAsked a old new status → (status ≡ TooLarge) ↔ IsLargeAsked a
asked_large (asked.Question f q) old new status p = by_status _ p.answer.status status p.printed.status_is (answer_large f q p.answer p.is)
asked_large (asked.Search s) old new status p = search_large s old new status p
asked_large (asked.Edits e) old new status p = by_status _ (edits_answer e).status status p.status_is (states_small e.set (states_of e.system e.script))
asked_large (asked.Checked a) old new status p = by_status _ a.status status p.status_is (λ e. e, λ e. e)

pub refusal_small : (refused : Status) → IsTrue (is_refusal refused) → IsSmall refused
refusal_small refused is e =
    let k : IsTrue (is_refusal TooLarge) = subst (λ (x : Status). IsTrue (is_refusal x)) e is in
    absurd (let f : false ≡ true = k in cc)

pub too_large_of : (r : Result Asked Early) (old new : DeskState) (status : Status) → IfErr r IsRefusal → Prints r old new status → (status ≡ TooLarge) ↔ IsTooLarge r
too_large_of (Ok a) old new status refused p = asked_large a old new status p
too_large_of (Err (Refused a)) old new status refused p = by_status _ a.status status p.status_is (refusal_small a.status refused, λ none. absurd none)
too_large_of (Err Read) old new status refused p = absurd p
too_large_of (Err Memory) old new status refused p = absurd p
