-- Steps that are written are taken.
use Rattle.std.proofs.Common.{◌≡◌, ℕ, ◌+◌, ◌<◌, List, [], ◌∷◌, ◌++◌, length, map, Bool, false, ◌&&◌, ◌==◌, None, Ok, cond, inl, inr, refl, sym, ◌∙◌, ap, subst, arith, codes}
use Rattle.std.specs.List.{AllByRecursion}
use Rattle.std.specs.Str.{bytes_eq}
use Rattle.std.proofs.lemmas.Bool.{cases_Bool, ne_eqb}
use Rattle.std.proofs.lemmas.Slice.Eq.{bytes_eq-Decides}
use Rattle.lrat_model.specs.Literal.{Literal}
use Rattle.lrat_model.specs.Clauses.{Held}
use Rattle.lrat_model.specs.Steps.{ProofStep, Addition, Deletion, Database, step_fault, after_step, progress_of, progress_at}
use Rattle.lrat_model.specs.Runs.{Run}
use Rattle.lrat_model.specs.Rules.{step_fault_by}
use Rattle.lrat_model.specs.declared.step.Rule.TheVariants.{Rat}
use Rattle.lrat_model.proofs.RatRuns.{rat_takes, rup_is_the_first_rule}
use Rattle.lrat_model.specs.Lemmas.{IsNew}
use Rattle.lrat_model.specs.declared.step.Progress.TheVariants.{Going as going, Refuted}
use Rattle.lrat_model.proofs.News.{useful_is_new}
use Rattle.lrat_checker.specs.Checking.{Checking}
use Rattle.lrat_text.specs.Lines.{step_in}
use Rattle.lrat_text.specs.Texts.{line_of}
use Rattle.cdcl_core.specs.Log.{AreLemmas, units}
use Rattle.fbas_model.specs.Systems.{System}
use Rattle.certificate_file.specs.Acceptance.{extent, take_line}
use Rattle.reach_kinds.specs.Bodies.{is_covered, adds_covered, asks_steps, counted}
use Rattle.enumeration_journal.specs.declared.kinds.ListKind.{ListKind}
use Rattle.enumeration_journal.specs.declared.kinds.ListKind.TheVariants.{Whole, Partial as Part}
use Rattle.certificate_file.specs.declared.given.Given.{Given}
use Rattle.certificate_file.specs.declared.places.Aim.{Aim}
use Rattle.certificate_file.specs.declared.places.Aim.TheVariants as aim
use Rattle.certificate_file.specs.declared.places.Header.{Header}
use Rattle.certificate_file.specs.declared.places.Conclusion.TheVariants.{Refutation, Partial}
use Rattle.certificate_file.specs.declared.places.Place.TheVariants.{AtSteps, AtEnd}
use Rattle.certificate_file.specs.declared.places.State.TheVariants.{Going, Done}
use Rattle.reach_kinds.proofs.CoverLaws.{covered-to}
use Rattle.cert_writer.specs.Texts.{Text}
use Rattle.cert_writer.proofs.Joined.{Takes}

-- the line of the step reads back as the step
abbrev pub IsRead : ProofStep → Type 0
IsRead step = step_in (line_of step) ≡ Ok step

abbrev pub IsGoing : ProofStep → Type 0
IsGoing step = progress_of step ≡ going

-- no step's line is `end`
pub not_end : (step : ProofStep) → IsRead step → bytes_eq (line_of step) (codes "end") ≡ false
not_end step read = elim (cases_Bool (bytes_eq (line_of step) (codes "end"))) [
  | inr e ↦ e
  | inl e ↦
      let same : line_of step ≡ codes "end" = (bytes_eq-Decides (line_of step) (codes "end")).0 e in
      let k = subst (λ (text : Text). step_in text ≡ Ok step) same read in
      absurd cc
]

-- what the solver logs is taken where RAT hints are taken too
pub taken_by_rat : (vars : ℕ) (old : Database) (step : ProofStep) → step_fault vars old step ≡ None → step_fault_by Rat vars old step ≡ None
taken_by_rat vars old step none = rat_takes vars old step (rup_is_the_first_rule vars old step ∙ none)

-- a lemma that is new is not covered
pub new_uncovered : (held : Held) (id : ℕ) (lits : List Literal) → IsNew held lits → is_covered held id lits ≡ false
new_uncovered held id lits new = elim (cases_Bool (is_covered held id lits)) [
  | inr e ↦ e
  | inl e ↦ let c = covered-to held id lits e in absurd (new c.0 c.1 c.3 c.4)
]

-- a deletion adds nothing that could be old
pub never_old : (kind : ListKind) → (asks_steps kind && false) ≡ false
never_old Whole = refl
never_old Part = refl

pub going_long : (lits : List Literal) → progress_at lits ≡ going → (0 < length lits) × ((length lits == 0) ≡ false)
going_long [] e = absurd cc
going_long (l ∷ lits) e = (omega arith, ne_eqb (length (l ∷ lits)) 0 (λ k. omega arith))

-- ---- steps over the formula

step_taken : (f : System) (given : Given) (to : Aim) (h : Header) (vars : ℕ) (old : Database) (n l : ℕ) (step : ProofStep) → IsRead step → IsGoing step → step_fault vars old step ≡ None → (asks_steps (extent to) && adds_covered old.held step) ≡ false
    → take_line f given (AtSteps to h (record { rule = Rat; vars = vars; database = old }) n) l (line_of step) ≡ Ok (Going (AtSteps to h (record { rule = Rat; vars = vars; database = after_step old step }) (counted n step)))
unfolding take_line
step_taken f given aim.Refutation h vars old n l step read on fault fresh =
    let goes : progress_of step ≡ going = on in
    rw (not_end step read, read, taken_by_rat vars old step fault, goes) refl
step_taken f given aim.Partial h vars old n l step read on fault fresh =
    let goes : progress_of step ≡ going = on in
    rw (not_end step read, read, goes, taken_by_rat vars old step fault, fresh, goes) refl

-- the units after a log
abbrev pub units_after : ℕ → List ProofStep → ℕ
units_after n [] = n
units_after n (step ∷ log) = units_after (counted n step) log

pub takes_steps : (f : System) (given : Given) (to : Aim) (h : Header) (vars : ℕ) (old new : Database) (n l : ℕ) (log : List ProofStep) → AllByRecursion IsRead log → AllByRecursion IsGoing log → Run vars old log new → AreLemmas vars old log
    → Takes f given l (Going (AtSteps to h (record { rule = Rat; vars = vars; database = old }) n)) (map line_of log) (Going (AtSteps to h (record { rule = Rat; vars = vars; database = new }) (units_after n log)))
takes_steps f given to h vars old new n l [] reads on run lemmas = rw run refl
takes_steps f given to h vars old new n l (Deletion id ids ∷ log) reads on run lemmas =
    let next = after_step old (Deletion id ids) in (
      Going (AtSteps to h (record { rule = Rat; vars = vars; database = next }) n),
      step_taken f given to h vars old n l (Deletion id ids) reads.0 on.0 run.0 (never_old (extent to)),
      takes_steps f given to h vars next new n (l + 1) log reads.1 on.1 run.1 lemmas.1,
    )
takes_steps f given to h vars old new n l (Addition id lits hints ∷ log) reads on run lemmas =
    let next = after_step old (Addition id lits hints) in
    let useful = new_uncovered old.held id lits (useful_is_new old.held lits (lemmas.0.useful (going_long lits on.0).0)) in
    let fresh : (asks_steps (extent to) && is_covered old.held id lits) ≡ false = ap (λ (b : Bool). asks_steps (extent to) && b) useful ∙ never_old (extent to) in (
      Going (AtSteps to h (record { rule = Rat; vars = vars; database = next }) (n + 1)),
      step_taken f given to h vars old n l (Addition id lits hints) reads.0 on.0 run.0 fresh,
      takes_steps f given to h vars next new (n + 1) (l + 1) log reads.1 on.1 run.1 lemmas.1,
    )

-- they are those of the log
pub units_of_log : (n : ℕ) (log : List ProofStep) → AllByRecursion IsGoing log → units_after n log ≡ n + units log
units_of_log n [] on = let e : n ≡ n + 0 = omega arith in e
units_of_log n (Deletion id ids ∷ log) on = units_of_log n log on.1
units_of_log n (Addition id lits hints ∷ log) on =
    let long = going_long lits on.0 in
    let count : n + units (Addition id lits hints ∷ log) ≡ n + 1 + units log = ap (λ (b : Bool). n + (cond b 0 1 + units log)) long.1 ∙ (omega arith) in
    units_of_log (n + 1) log on.1 ∙ sym count

-- the empty lemma, which ends a refutation
last_taken : (f : System) (given : Given) (h : Header) (c : Checking) (n l : ℕ) (step : ProofStep) → IsRead step → step_fault_by c.rule c.vars c.database step ≡ None → progress_of step ≡ Refuted → take_line f given (AtSteps aim.Refutation h c n) l (line_of step) ≡ Ok (Going (AtEnd (record { header = h; answer = Refutation })))
unfolding take_line
last_taken f given h c n l step read fault is = rw (not_end step read, read, fault, is) refl

pub takes_last : (f : System) (given : Given) (h : Header) (c : Checking) (n l : ℕ) (step : ProofStep) → IsRead step → step_fault_by c.rule c.vars c.database step ≡ None → progress_of step ≡ Refuted → Takes f given l (Going (AtSteps aim.Refutation h c n)) (line_of step ∷ codes "end" ∷ []) (Done (record { header = h; answer = Refutation }))
unfolding take_line
takes_last f given h c n l step read fault is = (
  Going (AtEnd (record { header = h; answer = Refutation })),
  last_taken f given h c n l step read fault is,
  (Done (record { header = h; answer = Refutation }), refl, refl),
)

pub takes_end : (f : System) (given : Given) (h : Header) (c : Checking) (n l : ℕ) → Takes f given l (Going (AtSteps aim.Partial h c n)) (codes "end" ∷ []) (Done (record { header = h; answer = Partial n }))
unfolding take_line
takes_end f given h c n l = (Done (record { header = h; answer = Partial n }), refl, refl)

-- a run of a log and one more step
pub run_split : (vars : ℕ) (old new : Database) (log : List ProofStep) (last : ProofStep) → Run vars old (log ++ last ∷ []) new → (middle : Database) × Run vars old log middle × (step_fault vars middle last ≡ None)
run_split vars old new [] last run = (old, refl, run.0)
run_split vars old new (step ∷ log) last run = let rest = run_split vars (after_step old step) new log last run.1 in (rest.0, (run.0, rest.1), rest.2)

-- the lemmas before the last step
pub lemmas_before : (vars : ℕ) (old : Database) (log : List ProofStep) (last : ProofStep) → AreLemmas vars old (log ++ last ∷ []) → AreLemmas vars old log
lemmas_before vars old [] last lemmas = tt
lemmas_before vars old (Addition id lits hints ∷ log) last lemmas = (lemmas.0, lemmas_before vars (after_step old (Addition id lits hints)) log last lemmas.1)
lemmas_before vars old (Deletion id ids ∷ log) last lemmas = (lemmas.0, lemmas_before vars (after_step old (Deletion id ids)) log last lemmas.1)
