-- Where whatever has a model is listed or has a listed part: a whole journal lists a part of each set with a model. No monotony is asked of what is sought.
use Rattle.std.proofs.Common.{◌≡◌, ℕ, Bool, true, false, List, [], ◌∷◌, subst, ◌⊎◌, inl, inr, Contains}
use Rattle.fbas_model.specs.Nodes.{Table, members, ◌⊆◌}
use Rattle.lrat_model.specs.Literal.{clause_true}
use Rattle.lrat_model.specs.Clauses.{Satisfies}
use Rattle.lrat_model.specs.Steps.{Database, after_step}
use Rattle.enumeration_journal.specs.Journals.{JournalLine, SetLine, StepLine, Rules, after_line, JournalRun, IsWholeJournal, sets_in}
use Rattle.enumeration_journal.specs.declared.kinds.ListKind.{ListKind}
use Rattle.enumeration_journal.specs.declared.kinds.ListKind.TheVariants.{Whole}
use Rattle.enumeration_journal.specs.declared.kinds.Listed.{Listed}
use Rattle.enumeration_journal.specs.declared.kinds.Listed.TheVariants as listed
use Rattle.enumeration_journal.proofs.Comparing.{within_or_not}
use Rattle.enumeration_journal.proofs.Elements.{nothing_in, first_in, later_in, cons_cases}
use Rattle.enumeration_journal.proofs.Refuting.{AreTrue, no_whole_journal}

-- ---- a journal of found sets

-- by the rules found sets alone are listed
abbrev pub ListsFound : Rules → Type 0
ListsFound r = (which : Listed) (t : Table) → r.IsRight which t → which ≡ listed.Smaller

-- a listed set inside s
abbrev pub HasPart : Rules → List JournalLine → Table → Type 0
HasPart r lines s = (t : Table) × Contains (sets_in listed.Smaller lines) t × r.IsRight listed.Smaller t × (members t ⊆ members s)

-- the clause of each right set that s lacks a group of is true
abbrev pub IsModelFor : (ℕ → Bool) → Rules → Table → Type 0
IsModelFor a r s = (t : Table) → r.IsRight listed.Smaller t → (w : ℕ) → members t w ≡ true → members s w ≡ false → clause_true a (r.clause listed.Smaller t) ≡ true

module _ (r : Rules) (found : ListsFound r) (s : Table) (a : ℕ → Bool) (model : IsModelFor a r s) where
  true_or_part : (kind : ListKind) (old : Database) (lines : List JournalLine) (new : Database) → JournalRun r kind old lines new → AreTrue a r lines ⊎ HasPart r lines s
  true_or_part kind old [] new run = inl tt
  true_or_part kind old (SetLine listed.Smaller id t ∷ lines) new run = elim (within_or_not t s) [
    | inl inside ↦ inr (t, first_in t (sets_in listed.Smaller lines), run.0.1, inside)
    | inr lacks ↦ elim (true_or_part kind (after_line r old (SetLine listed.Smaller id t)) lines new run.2) [
      | inl trues ↦ inl (model t run.0.1 lacks.0 lacks.1 lacks.2, trues)
      | inr one ↦ inr (one.0, later_in t (sets_in listed.Smaller lines) one.0 one.1, one.2, one.3)
    ]
  ]
  true_or_part kind old (SetLine listed.Quorum id t ∷ lines) new run = absurd (let e = found listed.Quorum t run.0.1 in cc)
  true_or_part kind old (SetLine listed.Blocking id t ∷ lines) new run = absurd (let e = found listed.Blocking t run.0.1 in cc)
  true_or_part kind old (StepLine step ∷ lines) new run = true_or_part kind (after_step old step) lines new run.2

  pub has_part : Satisfies a r.start.held → (journal : List JournalLine) → IsWholeJournal r journal → HasPart r journal s
  has_part solves journal whole = elim (true_or_part Whole r.start journal whole.after whole.run) [
    | inl trues ↦ absurd (no_whole_journal a r journal whole solves trues)
    | inr one ↦ one
  ]

pub listed_right : (r : Rules) → ListsFound r → (kind : ListKind) (old : Database) (lines : List JournalLine) (new : Database) → JournalRun r kind old lines new → (t : Table) → Contains (sets_in listed.Smaller lines) t → r.IsRight listed.Smaller t
listed_right r found kind old [] new run t there = absurd (nothing_in t there)
listed_right r found kind old (SetLine listed.Smaller id x ∷ lines) new run t there = elim (cons_cases x (sets_in listed.Smaller lines) t there) [
  | inl same ↦ subst (r.IsRight listed.Smaller) same run.0.1
  | inr later ↦ listed_right r found kind (after_line r old (SetLine listed.Smaller id x)) lines new run.2 t later
]
listed_right r found kind old (SetLine listed.Quorum id x ∷ lines) new run t there = absurd (let e = found listed.Quorum x run.0.1 in cc)
listed_right r found kind old (SetLine listed.Blocking id x ∷ lines) new run t there = absurd (let e = found listed.Blocking x run.0.1 in cc)
listed_right r found kind old (StepLine step ∷ lines) new run t there = listed_right r found kind (after_step old step) lines new run.2 t there
