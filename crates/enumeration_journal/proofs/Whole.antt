-- A journal that runs to the empty lemma has each minimal set of both kinds: one that it lacks would leave every clause true.
use Rattle.std.proofs.Common.{◌≡◌, true, false, not, ◌&&◌, List, [], ◌∷◌, length, refl, sym, ap, ◌∙◌, subst, inl, inr, Contains}
use Rattle.std.specs.Prelude.{All}
use Rattle.std.proofs.lemmas.Bool.{and_parts, and_from, both_ways, false_from_ne_true, not_from_false}
use Rattle.std.proofs.lemmas.List.Elements.{All-nil, All-cons, All-contains}
use Rattle.fbas_model.specs.Nodes.{Nodes, Table, members, ◌∖◌}
use Rattle.fbas_model.specs.Fbas.{Fbas, all_nodes}
use Rattle.fbas_model.specs.Restriction.{table_from}
use Rattle.fbas_model.proofs.Tables.{length-table_from}
use Rattle.lrat_model.specs.Literal.{clause_true}
use Rattle.lrat_model.specs.Steps.{Database, after_step}
use Rattle.greatest_quorum.proofs.GreatestLaws.{table_of}
use Rattle.enumeration_journal.specs.Kinds.{other, is_sought}
use Rattle.enumeration_journal.specs.Numbering.{assignment_of, clause_for}
use Rattle.enumeration_journal.specs.Journals.{JournalLine, SetLine, StepLine, nothing_held, list_of, IsListedFor, RightFor, after_line, JournalRun, IsWholeJournal, put_if, sets_in}
use Rattle.enumeration_journal.specs.Lists.{IsMinimalSet, AreMinimalSets}
use Rattle.enumeration_journal.specs.declared.kinds.ListKind.{ListKind}
use Rattle.enumeration_journal.specs.declared.kinds.ListKind.TheVariants.{Whole}
use Rattle.enumeration_journal.specs.declared.kinds.Listed.{Listed}
use Rattle.enumeration_journal.proofs.Greatest.{IsGreatest}
use Rattle.enumeration_journal.proofs.Comparing.{within_or_not, contains_or_not}
use Rattle.enumeration_journal.proofs.Duality.{meets, is_of, minimal_within, same_minimal, role_of, lists_of, lists_of_other, sought_itself, sought_same}
use Rattle.enumeration_journal.proofs.ClauseTruth.{sought_clause_true, other_clause_true}
use Rattle.enumeration_journal.proofs.Refuting.{no_whole_journal, true_without}

module _ (k : Listed) (f : Fbas) (b : Nodes) (g : Table) (greatest : IsGreatest f b g) where
  -- ---- the assignment of a sought set that is not listed

  -- it makes true the clause of each other listed set
  sought_true : (s : Table) → IsMinimalSet k f b s → (which : Listed) (t : Table) → IsListedFor k f b g which t → (is_sought k which ≡ true → t ≡ s → ⊥) → clause_true (assignment_of g s) (clause_for k g which t) ≡ true
  sought_true s is which t right differ =
      let lists = lists_of k f b (members s) is.1 in
      let fits : length s ≡ length g = is.0 ∙ sym greatest.places in
      elim (role_of k which lists f b g t right.1) [
        | inl sought ↦ elim (within_or_not t s) [
          | inl inside ↦ absurd (differ (ap (is_sought k) sought.0 ∙ sought_itself k) (same_minimal k f b s t is right.0 (is_of k f b (members t) sought.1) inside))
          | inr lacks ↦ subst (λ (w : Listed). clause_true (assignment_of g s) (clause_for k g w t) ≡ true) (sym sought.0)
              (sought_clause_true k g s t lacks.0 fits (minimal_within k f b g (members t) greatest sought.1 lacks.0 lacks.1) lacks.2 lacks.1)
        ]
        | inr against ↦
            let m = meets k f b (members s) (members t) (is_of k f b (members s) is.1) against.1 in
            subst (λ (w : Listed). clause_true (assignment_of g s) (clause_for k g w t) ≡ true) (sym against.0) (other_clause_true k lists g s t m.0 fits (against.2 m.0 m.2) m.1 m.2)
      ]

  -- ---- the assignment that leaves out a set of the other kind

  rest : Table → Table
  rest s = table_from 0 (length f) (members g ∖ members s)

  rest_fits : (s : Table) → length (rest s) ≡ length g
  unfolding rest
  rest_fits s = length-table_from 0 (length f) (members g ∖ members s) ∙ sym greatest.places

  rest_is : (s : Table) → members (rest s) ≡ (members g ∖ members s)
  unfolding rest
  rest_is s = table_of f (members g ∖ members s) (λ v here. let in_g = (and_parts (members g v) (not (members s v)) here).0 in (and_parts (all_nodes f v) (not (b v)) (greatest.greatest.within v in_g)).0)

  other_true : (s : Table) → IsMinimalSet (other k) f b s → (which : Listed) (t : Table) → IsListedFor k f b g which t → (is_sought (other k) which ≡ true → t ≡ s → ⊥) → clause_true (assignment_of g (rest s)) (clause_for k g which t) ≡ true
  other_true s is which t right differ = elim (role_of k which (lists_of_other k f b (members s) is.1) f b g t right.1) [
    | inl sought ↦
        let m = meets k f b (members t) (members s) (is_of k f b (members t) sought.1) (is_of (other k) f b (members s) is.1) in
        let missing : members (rest s) m.0 ≡ false = ap (λ (u : Nodes). u m.0) (rest_is s) ∙ false_from_ne_true (members g m.0 && not (members s m.0)) (λ h.
        both_ways (not (members s m.0)) (ap not m.2) (and_parts (members g m.0) (not (members s m.0)) h).1) in
        subst (λ (w : Listed). clause_true (assignment_of g (rest s)) (clause_for k g w t) ≡ true) (sym sought.0)
        (sought_clause_true k g (rest s) t m.0 (rest_fits s) (minimal_within k f b g (members t) greatest sought.1 m.0 m.1) missing m.1)
    | inr against ↦ elim (within_or_not t s) [
      | inl inside ↦ absurd (differ (ap (is_sought (other k)) against.0 ∙ sought_itself (other k)) (same_minimal (other k) f b s t is right.0 against.1 inside))
      | inr lacks ↦
          let in_g = against.2 lacks.0 lacks.1 in
          let chosen : members (rest s) lacks.0 ≡ true = ap (λ (u : Nodes). u lacks.0) (rest_is s) ∙ and_from (members g lacks.0) (not (members s lacks.0)) in_g (not_from_false (members s lacks.0) lacks.2) in
          subst (λ (w : Listed). clause_true (assignment_of g (rest s)) (clause_for k g w t) ≡ true) (sym against.0) (other_clause_true k (lists_of_other k f b (members s) is.1) g (rest s) t lacks.0 (rest_fits s) in_g chosen lacks.1)
    ]
  ]

  -- ---- the laws

  put_one : (which : Listed) (t : Table) (sets : List Table) → IsListedFor k f b g which t → All (IsMinimalSet k f b) sets → All (IsMinimalSet k f b) (put_if (is_sought k which) t sets)
  put_one which t sets right all =
      elim (is_sought k which) as (λ x. is_sought k which ≡ x → RightFor x which f b g t → All (IsMinimalSet k f b) (put_if x t sets)) [
        | true ↦ λ on is. All-cons (IsMinimalSet k f b) t sets (subst (λ (w : Listed). IsMinimalSet w f b t) (sought_same k which on) (right.0, is)) all
        | false ↦ λ off is. all
      ] refl right.1

  pub listed_minimal : (kind : ListKind) (old : Database) (lines : List JournalLine) (new : Database) → JournalRun (list_of k f b g) kind old lines new → All (IsMinimalSet k f b) (sets_in k lines)
  listed_minimal kind old [] new run = All-nil (IsMinimalSet k f b)
  listed_minimal kind old (SetLine which id t ∷ lines) new run = put_one which t (sets_in k lines) run.0.1 (listed_minimal kind (after_line (list_of k f b g) old (SetLine which id t)) lines new run.2)
  listed_minimal kind old (StepLine step ∷ lines) new run = listed_minimal kind (after_step old step) lines new run.2

  pub whole_has_each : (journal : List JournalLine) → IsWholeJournal (list_of k f b g) journal → AreMinimalSets k f b (sets_in k journal)
  whole_has_each journal whole s = (
    λ there. All-contains (IsMinimalSet k f b) (sets_in k journal) s (listed_minimal Whole nothing_held journal whole.after whole.run) there,
    λ is. elim (contains_or_not (sets_in k journal) s) [
      | inl there ↦ there
      | inr absent ↦ absurd (no_whole_journal (assignment_of g s) (list_of k f b g) journal whole (λ id found at. cc)
          (true_without (assignment_of g s) (list_of k f b g) k s (sought_true s is) Whole nothing_held journal whole.after whole.run absent))
    ],
  )

  pub whole_has_others : (journal : List JournalLine) → IsWholeJournal (list_of k f b g) journal → (s : Table) → IsMinimalSet (other k) f b s → Contains (sets_in (other k) journal) s
  whole_has_others journal whole s is = elim (contains_or_not (sets_in (other k) journal) s) [
    | inl there ↦ there
    | inr absent ↦ absurd (no_whole_journal (assignment_of g (rest s)) (list_of k f b g) journal whole (λ id found at. cc)
        (true_without (assignment_of g (rest s)) (list_of k f b g) (other k) s (other_true s is) Whole nothing_held journal whole.after whole.run absent))
  ]
