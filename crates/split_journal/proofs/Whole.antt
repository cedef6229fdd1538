-- The least sets of a whole journal are the minimal splitting sets.
use Rattle.std.proofs.Common.{◌≡◌, ℕ, ◌≤◌, Bool, true, not, List, length, refl, sym, ap, ◌∙◌, subst, arith, Contains}
use Rattle.fbas_model.specs.Nodes.{Table, members, size}
use Rattle.fbas_model.specs.Fbas.{Fbas}
use Rattle.fbas_model.proofs.Kept.{rank_lt}
use Rattle.lrat_model.specs.Literal.{Minus, literal_true}
use Rattle.lrat_model.proofs.Runs.{Satisfies-numbered}
use Rattle.clause_encoder.specs.declared.version.Version.{Version}
use Rattle.enumeration_journal.specs.Journals.{JournalLine, IsWholeJournal, sets_in}
use Rattle.enumeration_journal.specs.Numbering.{variable_in, assignment_of}
use Rattle.enumeration_journal.specs.declared.kinds.ListKind.TheVariants.{Whole}
use Rattle.enumeration_journal.specs.declared.kinds.Listed.TheVariants as listed
use Rattle.enumeration_journal.proofs.ClauseTruth.{true_where, assigned}
use Rattle.enumeration_journal.proofs.Places.{from_zero}
use Rattle.enumeration_journal.proofs.Duality.{same_nodes}
use Rattle.group_journal.specs.Groups.{touching}
use Rattle.group_journal.proofs.Touched.{length-touching}
use Rattle.split_journal.specs.Splitting.{GroupsSplit, AreMinimalSplits}
use Rattle.split_journal.specs.Minimal.{minimal_among}
use Rattle.split_journal.specs.Formula.{split_clauses}
use Rattle.split_journal.specs.Rules.{split_of}
use Rattle.split_journal.proofs.Left.{IsLeft}
use Rattle.split_journal.specs.Meaning.{AreGroups, IsMarking, TellsSplit}
use Rattle.split_journal.proofs.Fills.{split_fills}
use Rattle.split_journal.proofs.Covered.{ListsFound, HasPart, IsModelFor, has_part, listed_right}
use Rattle.split_journal.proofs.Minimal.{minimal_has, minimal_is}

module _ (version : Version) (f : Fbas) (b left : Table) (groups : List Table) (is : IsLeft f b left) (are : AreGroups f groups) where
  lists_found : ListsFound (split_of version f b left groups)
  lists_found listed.Smaller t right = refl
  lists_found listed.Quorum t right = absurd right
  lists_found listed.Blocking t right = absurd right

  -- a splitting set has an assignment in which just its groups' variables are true
  pub model_of : (s : Table) (base : ℕ → Bool) (first : ℕ) → size (touching groups left) ≤ first → IsMarking base (touching groups left) s → (split : GroupsSplit f (members b) groups s) → TellsSplit version f b first left groups base split.0 split.1
  model_of s base first few marking split = split_fills version f b first left groups base s split.0 split.1 is are few marking split.2

  -- the clause of a set of which s lacks a group
  clause_holds : (a : ℕ → Bool) (s : Table) → IsMarking a (touching groups left) s → IsModelFor a (split_of version f b left groups) s
  clause_holds a s marking t right w here missing =
      true_where a (λ v. Minus (variable_in (touching groups left) v)) 0 t w here
      (subst (λ (x : ℕ). literal_true a (Minus (variable_in (touching groups left) x)) ≡ true) (sym (from_zero w)) (ap not (marking w (right.useful w here) ∙ missing)))

  -- each splitting set has a listed part
  pub listed_part : (journal : List JournalLine) → IsWholeJournal (split_of version f b left groups) journal → (s : Table) → length s ≡ length groups → GroupsSplit f (members b) groups s → HasPart (split_of version f b left groups) journal s
  listed_part journal whole s places split =
      let touched = touching groups left in
      let base = assignment_of touched s in
      let marking : IsMarking base touched s = (λ i at. assigned touched s i (places ∙ sym (length-touching groups left)) at) in
      let all = model_of s base (size touched) (omega arith) marking split in
      let marked : IsMarking all.assignment touched s = (λ i at. sym (all.before (variable_in touched i) (omega (arith, rank_lt touched i at))) ∙ marking i at) in
      has_part (split_of version f b left groups) lists_found s all.assignment (clause_holds all.assignment s marked)
      (Satisfies-numbered all.assignment 1 (split_clauses version f b (size touched) left groups) all.holds) journal whole

  pub whole_has_splits : (journal : List JournalLine) → IsWholeJournal (split_of version f b left groups) journal → AreMinimalSplits f (members b) groups (minimal_among (sets_in listed.Smaller journal))
  whole_has_splits journal whole s = (
    λ there.
        let r = minimal_has (sets_in listed.Smaller journal) s there in
        let right = listed_right (split_of version f b left groups) lists_found Whole (split_of version f b left groups).start journal whole.after whole.run s r.0 in
        record {
          places = right.places;
          splits = right.splits;
          least = λ other places inside split.
              let one = listed_part journal whole other places split in
              let back = r.1 one.0 one.1 (λ v here. inside v (one.3 v here)) in
              λ v here. one.3 v (back v here);
        },
    λ minimal.
        let one = listed_part journal whole s minimal.places minimal.splits in
        let back = minimal.least one.0 one.2.places one.3 one.2.splits in
        let same : one.0 ≡ s = same_nodes one.0 s (one.2.places ∙ sym minimal.places) one.3 back in
        minimal_is (sets_in listed.Smaller journal) s (
          subst (λ (t : Table). Contains (sets_in listed.Smaller journal) t) same one.1,
          λ t in_sets inside.
              let right = listed_right (split_of version f b left groups) lists_found Whole (split_of version f b left groups).start journal whole.after whole.run t in_sets in
              minimal.least t right.places inside right.splits,
        ),
  )
