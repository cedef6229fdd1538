-- A journal that runs to the empty lemma has each minimal blocking set of groups: one that it lacks would leave every clause true.
use Rattle.std.proofs.Common.{◌≡◌, true, not, ◌&&◌, List, [], ◌∷◌, length, refl, sym, ap, ◌∙◌, inl, inr, Contains}
use Rattle.std.specs.Prelude.{All}
use Rattle.std.proofs.lemmas.Bool.{and_parts}
use Rattle.std.proofs.lemmas.List.Elements.{All-nil, All-cons, All-contains}
use Rattle.fbas_model.specs.Nodes.{Nodes, Table, members, ◌⊆◌}
use Rattle.fbas_model.specs.Fbas.{Fbas}
use Rattle.lrat_model.specs.Literal.{clause_true}
use Rattle.lrat_model.specs.Steps.{Database, after_step}
use Rattle.enumeration_journal.specs.Kinds.{is_sought}
use Rattle.enumeration_journal.specs.Numbering.{assignment_of}
use Rattle.enumeration_journal.specs.Journals.{JournalLine, SetLine, StepLine, nothing_held, after_line, JournalRun, IsWholeJournal, sets_in}
use Rattle.enumeration_journal.specs.declared.kinds.ListKind.{ListKind}
use Rattle.enumeration_journal.specs.declared.kinds.ListKind.TheVariants.{Whole}
use Rattle.enumeration_journal.specs.declared.kinds.Listed.{Listed}
use Rattle.enumeration_journal.specs.declared.kinds.Listed.TheVariants.{Quorum, Blocking, Smaller}
use Rattle.enumeration_journal.proofs.Greatest.{IsGreatest}
use Rattle.enumeration_journal.proofs.Comparing.{within_or_not, contains_or_not}
use Rattle.enumeration_journal.proofs.Duality.{quorum_within, same_nodes}
use Rattle.enumeration_journal.proofs.ClauseTruth.{sought_clause_true, other_clause_true}
use Rattle.enumeration_journal.proofs.Refuting.{no_whole_journal, true_without}
use Rattle.group_journal.specs.Groups.{joined, touching, GroupsBlockMinimally, AreMinimalGroupBlocks}
use Rattle.group_journal.specs.Rules.{IsGroupLine, group_clause, group_list_of}
use Rattle.group_journal.proofs.Touched.{length-touching, touches_more, touched_by}

module _ (f : Fbas) (b : Nodes) (g : Table) (groups : List Table) (greatest : IsGreatest f b g) where
  -- a minimal set inside another is that one
  same_groups : (s t : Table) → GroupsBlockMinimally f b g groups s → GroupsBlockMinimally f b g groups t → members t ⊆ members s → t ≡ s
  same_groups s t is other inside = same_nodes t s (other.places ∙ sym is.places) inside (is.minimal.least t other.places inside other.minimal.blocks)

  -- the assignment of a minimal set makes true the clause of each other listed set
  group_true : (s : Table) → GroupsBlockMinimally f b g groups s → (which : Listed) (t : Table) → IsGroupLine f b g groups which t → (is_sought Blocking which ≡ true → t ≡ s → ⊥)
      → clause_true (assignment_of (touching groups g) s) (group_clause groups (touching groups g) which t) ≡ true
  group_true s is Quorum u right differ =
      let m = is.minimal.blocks.meets (members u) right.1 in
      let r = touched_by groups s u m.0 (and_parts (joined groups s m.0) (not (b m.0)) m.1).0 m.2 in
      let in_g = touches_more groups u g (quorum_within f b g (members u) greatest right.1) r.0 r.2 in
      other_clause_true Blocking tt (touching groups g) s (touching groups u) r.0 (is.places ∙ sym (length-touching groups g)) in_g r.1 r.2
  group_true s is Blocking t right differ = elim (within_or_not t s) [
    | inl inside ↦ absurd (differ refl (same_groups s t is right inside))
    | inr lacks ↦ sought_clause_true Blocking (touching groups g) s t lacks.0 (is.places ∙ sym (length-touching groups g)) (right.useful lacks.0 lacks.1) lacks.2 lacks.1
  ]
  group_true s is Smaller t right differ = absurd right

  listed_minimal : (kind : ListKind) (old : Database) (lines : List JournalLine) (new : Database) → JournalRun (group_list_of f b g groups) kind old lines new → All (GroupsBlockMinimally f b g groups) (sets_in Blocking lines)
  listed_minimal kind old [] new run = All-nil (GroupsBlockMinimally f b g groups)
  listed_minimal kind old (SetLine Quorum id t ∷ lines) new run = listed_minimal kind (after_line (group_list_of f b g groups) old (SetLine Quorum id t)) lines new run.2
  listed_minimal kind old (SetLine Blocking id t ∷ lines) new run = All-cons (GroupsBlockMinimally f b g groups) t (sets_in Blocking lines) run.0.1 (listed_minimal kind (after_line (group_list_of f b g groups) old (SetLine Blocking id t)) lines new run.2)
  listed_minimal kind old (SetLine Smaller id t ∷ lines) new run = absurd run.0.1
  listed_minimal kind old (StepLine step ∷ lines) new run = listed_minimal kind (after_step old step) lines new run.2

  pub whole_has_groups : (journal : List JournalLine) → IsWholeJournal (group_list_of f b g groups) journal → AreMinimalGroupBlocks f b g groups (sets_in Blocking journal)
  whole_has_groups journal whole s = (
    λ there. All-contains (GroupsBlockMinimally f b g groups) (sets_in Blocking journal) s (listed_minimal Whole nothing_held journal whole.after whole.run) there,
    λ is. elim (contains_or_not (sets_in Blocking journal) s) [
      | inl there ↦ there
      | inr absent ↦ absurd (no_whole_journal (assignment_of (touching groups g) s) (group_list_of f b g groups) journal whole (λ id found at. cc)
          (true_without (assignment_of (touching groups g) s) (group_list_of f b g groups) Blocking s (group_true s is) Whole nothing_held journal whole.after whole.run absent))
    ],
  )
