-- Logs that keep within their bounds, and the lemmas that are live after them.
use Rattle.std.proofs.Common.{◌≡◌, ◌⊎◌, ℕ, ◌+◌, ◌*◌, ◌≤◌, true, cond, not, List, [], ◌∷◌, ◌++◌, ⊎_elim, inl, inr, refl, sym, ap, ◌∙◌, subst, arith, length, length-append, Some, None}
use Rattle.std.specs.Prelude.{◌==◌, All, filter}
use Rattle.std.proofs.lemmas.Bool.{eqb-true, cases_Bool, false≢true, or_cases, or_right}
use Rattle.std.proofs.lemmas.List.Elements.{All-head, All-tail}
use Rattle.lrat_model.specs.Literal.{Literal}
use Rattle.lrat_model.specs.Clauses.{clause_at, has_id, without}
use Rattle.lrat_model.specs.Steps.{ProofStep, Addition, Deletion, Database, after_step, progress_of}
use Rattle.lrat_model.specs.Runs.{Run}
use Rattle.lrat_model.specs.declared.step.Progress.TheVariants.{Going, Refuted}
use Rattle.lrat_model.proofs.Runs.{clause_at-more, clause_at-filter}
use Rattle.cdcl_core.specs.Log.{AreLemmas, AreBounded, IsBounded, IsBoundedLog, HasNoEmptyLemma, EndsEmpty, live_after, live_from, count_after, count_from, units}
use Rattle.cdcl_core.proofs.Parts.{has_id-push}
use Rattle.cdcl_core.proofs.Runs.{not_empty}

-- ---- one step more, and more steps

pub live_from-append : (live : List ℕ) (steps more : List ProofStep) → live_from live (steps ++ more) ≡ live_from (live_from live steps) more
live_from-append live [] more = refl
live_from-append live (step ∷ steps) more = live_from-append (live_after live step) steps more

pub count_from-append : (count : ℕ) (steps more : List ProofStep) → count_from count (steps ++ more) ≡ count_from (count_from count steps) more
count_from-append count [] more = refl
count_from-append count (step ∷ steps) more = count_from-append (count_after count step) steps more

pub bounded_push : (vars : ℕ) (live : List ℕ) (count : ℕ) (steps : List ProofStep) (step : ProofStep) → AreBounded vars live count steps → IsBounded vars (live_from live steps) (count_from count steps) step → AreBounded vars live count (steps ++ step ∷ [])
bounded_push vars live count [] step are last = (last, tt)
bounded_push vars live count (s ∷ steps) step are last = (are.0, bounded_push vars (live_after live s) (count_after count s) steps step are.1 last)

pub bounded_later : (vars : ℕ) (live : List ℕ) (count : ℕ) (steps more : List ProofStep) → AreBounded vars live count (steps ++ more) → AreBounded vars (live_from live steps) (count_from count steps) more
bounded_later vars live count [] more are = are
bounded_later vars live count (s ∷ steps) more are = bounded_later vars (live_after live s) (count_after count s) steps more are.1

pub units-append : (steps more : List ProofStep) → units (steps ++ more) ≡ units steps + units more
units-append [] more = omega arith
units-append (Addition id lits hints ∷ steps) more = omega (arith, units-append steps more)
units-append (Deletion id ids ∷ steps) more = units-append steps more

-- ---- a log is short

short_from : (vars : ℕ) (live : List ℕ) (count : ℕ) (steps : List ProofStep) → AreBounded vars live count steps → HasNoEmptyLemma steps → length steps + length (live_from live steps) ≤ 2 * units steps + length live
short_from vars live count [] are opens = omega arith
short_from vars live count (Addition id [] hints ∷ steps) are opens = let h : Refuted ≡ Going = All-head (λ step. progress_of step ≡ Going) (Addition id [] hints) steps opens in cc
short_from vars live count (Addition id (l ∷ ls) hints ∷ steps) are opens =
    let one : units (Addition id (l ∷ ls) hints ∷ steps) ≡ 1 + units steps = ap {B = ℕ} (λ b. cond b 0 1 + units steps) (not_empty (l ∷ ls) (omega arith)) in
    omega (arith, one, short_from vars (live ++ id ∷ []) count steps are.1 (All-tail (λ step. progress_of step ≡ Going) (Addition id (l ∷ ls) hints) steps opens), length-append live (id ∷ []))
short_from vars live count (Deletion id ids ∷ steps) are opens =
    omega (arith, short_from vars (filter (λ k. not (has_id ids k)) live) (count + 1) steps are.1 (All-tail (λ step. progress_of step ≡ Going) (Deletion id ids) steps opens), are.0.0.least, are.0.0.fewer)

bounded_before : (vars : ℕ) (live : List ℕ) (count : ℕ) (steps more : List ProofStep) → AreBounded vars live count (steps ++ more) → AreBounded vars live count steps
bounded_before vars live count [] more are = tt
bounded_before vars live count (s ∷ steps) more are = (are.0, bounded_before vars (live_after live s) (count_after count s) steps more are.1)

pub short_open : (vars : ℕ) (log : List ProofStep) → IsBoundedLog vars log → HasNoEmptyLemma log → length log ≤ 2 * units log + 1
short_open vars log bounded opens = omega (arith, short_from vars [] 0 log bounded opens)

pub short_ended : (vars : ℕ) (log : List ProofStep) → IsBoundedLog vars log → EndsEmpty log → length log ≤ 2 * units log + 1
short_ended vars log bounded (before, last, is, ends, opens) =
    let front : AreBounded vars [] 0 before = bounded_before vars [] 0 before (last ∷ []) (subst (λ (ls : List ProofStep). AreBounded vars [] 0 ls) is bounded) in
    let short = short_from vars [] 0 before front opens in
    let long : length log ≡ length before + 1 = ap (λ (ls : List ProofStep). length ls) is ∙ length-append before (last ∷ []) in
    let more : units log ≡ units before + units (last ∷ []) = ap units is ∙ units-append before (last ∷ []) in
    omega (arith, short, long, more)

-- ---- what stays held

pub kept_filter : (gone live : List ℕ) (k : ℕ) → has_id (filter (λ j. not (has_id gone j)) live) k ≡ true → has_id live k ≡ true
kept_filter gone [] k h = h
kept_filter gone (x ∷ live) k h = elim (cases_Bool (not (has_id gone x))) [
  | inl stays ↦
      let here : has_id (x ∷ filter (λ j. not (has_id gone j)) live) k ≡ true = subst (λ b. has_id (cond b (x ∷ filter (λ j. not (has_id gone j)) live) (filter (λ j. not (has_id gone j)) live)) k ≡ true) stays h in
      ⊎_elim (λ first. rw first refl) (λ later. or_right (x == k) (has_id live k) (kept_filter gone live k later)) (or_cases (x == k) (has_id (filter (λ j. not (has_id gone j)) live) k) here)
  | inr goes ↦ or_right (x == k) (has_id live k) (kept_filter gone live k (subst (λ b. has_id (cond b (x ∷ filter (λ j. not (has_id gone j)) live) (filter (λ j. not (has_id gone j)) live)) k ≡ true) goes h))
]

pub named_in : (P : ℕ → Type 0) (ids : List ℕ) (k : ℕ) → All P ids → has_id ids k ≡ true → P k
named_in P [] k all h = absurd (false≢true h)
named_in P (x ∷ ids) k all h = ⊎_elim (λ same. subst P (eqb-true x k same) (All-head P x ids all)) (λ later. named_in P ids k (All-tail P x ids all) later) (or_cases (x == k) (has_id ids k) h)

-- what is held is held after these steps, or is one of the live lemmas
pub others_kept : (vars : ℕ) (live : List ℕ) (count : ℕ) (old new : Database) (steps : List ProofStep) → Run vars old steps new → AreLemmas vars old steps → AreBounded vars live count steps
    → (k : ℕ) (clause : List Literal) → k ≤ old.last → clause_at old.held k ≡ Some clause → (clause_at new.held k ≡ Some clause) ⊎ (has_id live k ≡ true)
others_kept vars live count old new [] run lemmas are k clause low at = inl (ap (λ (d : Database). clause_at d.held k) run ∙ at)
others_kept vars live count old new (Addition id [] hs ∷ steps) run lemmas are k clause low at =
    others_kept vars live count (after_step old (Addition id [] hs)) new steps run.1 lemmas.1 are.1 k clause (omega (arith, low, lemmas.0.next)) (clause_at-more old.held id [] k clause at)
others_kept vars live count old new (Addition id (l ∷ ls) hs ∷ steps) run lemmas are k clause low at =
    ⊎_elim (λ held. inl held)
    (λ among. ⊎_elim (λ was. inr was) (λ same. absurd (omega (arith, eqb-true id k same, low, lemmas.0.next))) (or_cases (has_id live k) (id == k) (sym (has_id-push live id k) ∙ among)))
    (others_kept vars (live ++ id ∷ []) count (after_step old (Addition id (l ∷ ls) hs)) new steps run.1 lemmas.1 are.1 k clause (omega (arith, low, lemmas.0.next)) (clause_at-more old.held id (l ∷ ls) k clause at))
others_kept vars live count old new (Deletion id ids ∷ steps) run lemmas are k clause low at = elim (cases_Bool (has_id ids k)) [
  | inl goes ↦ inr (named_in (λ j. has_id live j ≡ true) ids k are.0.0.named goes)
  | inr stays ↦
      let there : clause_at (without old.held ids) k ≡ Some clause = clause_at-filter (λ j. not (has_id ids j)) old.held k ∙ ap (λ b. cond (not b) (clause_at old.held k) None) stays ∙ at in
      ⊎_elim (λ held. inl held) (λ among. inr (kept_filter ids live k among))
      (others_kept vars (filter (λ j. not (has_id ids j)) live) (count + 1) (after_step old (Deletion id ids)) new steps run.1 lemmas.1 are.1 k clause low there)
]
