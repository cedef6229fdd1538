-- Where an assignment makes the clause of each listed set true, no journal comes to the empty lemma.
use Rattle.std.proofs.Common.{◌≡◌, ℕ, Bool, true, false, List, [], ◌∷◌, ◌++◌, refl, sym, subst, ⊎_elim, Contains}
use Rattle.fbas_model.specs.Nodes.{Table}
use Rattle.lrat_model.specs.Literal.{Literal, clause_true}
use Rattle.lrat_model.specs.Clauses.{Held, with_clause, Satisfies}
use Rattle.lrat_model.specs.Steps.{Database, after_step}
use Rattle.lrat_model.specs.declared.step.Progress.TheVariants.{Refuted}
use Rattle.lrat_model.proofs.Runs.{clause_at-with_clause, Satisfies-step, refuted}
use Rattle.enumeration_journal.specs.Kinds.{is_sought}
use Rattle.enumeration_journal.specs.Journals.{JournalLine, SetLine, StepLine, Rules, after_line, JournalRun, line_progress, IsWholeJournal, put_if, sets_in}
use Rattle.enumeration_journal.specs.declared.kinds.ListKind.{ListKind}
use Rattle.enumeration_journal.specs.declared.kinds.ListKind.TheVariants.{Whole}
use Rattle.enumeration_journal.specs.declared.kinds.Listed.{Listed}
use Rattle.enumeration_journal.proofs.Elements.{first_in, later_in}

pub satisfies_more : (v : ℕ → Bool) (held : Held) (id : ℕ) (clause : List Literal) → Satisfies v held → clause_true v clause ≡ true → Satisfies v (with_clause held id clause)
satisfies_more v held id clause solves holds k found e =
    ⊎_elim (λ was. solves k found was) (λ new. subst (λ (c : List Literal). clause_true v c ≡ true) (sym new) holds) (clause_at-with_clause held id clause k found e)

-- the clause of each listed set is true in the assignment
abbrev pub AreTrue : (ℕ → Bool) → Rules → List JournalLine → Type 0
AreTrue a r [] = Unit {0}
AreTrue a r (SetLine which id set ∷ lines) = (clause_true a (r.clause which set) ≡ true) × AreTrue a r lines
AreTrue a r (StepLine step ∷ lines) = AreTrue a r lines

never_refuted : (a : ℕ → Bool) (r : Rules) (kind : ListKind) (old : Database) (before : List JournalLine) (last : JournalLine) (new : Database)
    → JournalRun r kind old (before ++ last ∷ []) new → line_progress last ≡ Refuted → AreTrue a r (before ++ last ∷ []) → Satisfies a old.held → ⊥
never_refuted a r kind old [] (SetLine which id u) new run ends trues solves = cc
never_refuted a r kind old [] (StepLine step) new run ends trues solves = refuted r.vars old [] step (after_step old step) (run.0, refl) ends a solves
never_refuted a r kind old (SetLine which id u ∷ before) last new run ends trues solves = never_refuted a r kind (after_line r old (SetLine which id u)) before last new run.2 ends trues.1 (satisfies_more a old.held id (r.clause which u) solves trues.0)
never_refuted a r kind old (StepLine step ∷ before) last new run ends trues solves = never_refuted a r kind (after_step old step) before last new run.2 ends trues (Satisfies-step a r.vars old step run.0 solves)

-- in a whole journal no assignment satisfies the clauses of all its sets, by whatever rules it goes
pub no_whole_journal : (a : ℕ → Bool) (r : Rules) (journal : List JournalLine) → IsWholeJournal r journal → Satisfies a r.start.held → AreTrue a r journal → ⊥
no_whole_journal a r journal whole solves trues =
    let e = whole.ends in
    never_refuted a r Whole r.start e.before e.last whole.after (subst (λ (ls : List JournalLine). JournalRun r Whole r.start ls whole.after) e.is whole.run) e.ends (subst (λ (ls : List JournalLine). AreTrue a r ls) e.is trues) solves

-- ---- a set that no line of its kind has

put_here : (b : Bool) (t s : Table) (sets : List Table) → b ≡ true → t ≡ s → Contains (put_if b t sets) s
put_here true t s sets on same = subst (λ (x : Table). Contains (t ∷ sets) x) same (first_in t sets)
put_here false t s sets on same = absurd cc

put_later : (b : Bool) (t s : Table) (sets : List Table) → Contains sets s → Contains (put_if b t sets) s
put_later true t s sets there = later_in t sets s there
put_later false t s sets there = there

-- where the clause of each right set is true but for s of kind w, and no line has that
pub true_without : (a : ℕ → Bool) (r : Rules) (w : Listed) (s : Table) → ((which : Listed) (t : Table) → r.IsRight which t → (is_sought w which ≡ true → t ≡ s → ⊥) → clause_true a (r.clause which t) ≡ true)
    → (kind : ListKind) (old : Database) (lines : List JournalLine) (new : Database) → JournalRun r kind old lines new → (Contains (sets_in w lines) s → ⊥) → AreTrue a r lines
true_without a r w s each kind old [] new run absent = tt
true_without a r w s each kind old (SetLine which id t ∷ lines) new run absent = (
  each which t run.0.1 (λ on same. absent (put_here (is_sought w which) t s (sets_in w lines) on same)),
  true_without a r w s each kind (after_line r old (SetLine which id t)) lines new run.2 (λ c. absent (put_later (is_sought w which) t s (sets_in w lines) c)),
)
true_without a r w s each kind old (StepLine step ∷ lines) new run absent = true_without a r w s each kind (after_step old step) lines new run.2 absent
