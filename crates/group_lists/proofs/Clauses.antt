-- The clause of a quorum outside a model's groups, or of a set of groups inside them, is false in the model.
use Rattle.std.proofs.Common.{◌≡◌, ℕ, Bool, true, false, not, ◌&&◌, List, subst}
use Rattle.std.proofs.lemmas.Bool.{and_parts, false≢true}
use Rattle.fbas_model.specs.Nodes.{Nodes, Table, members, ◌∈◌, ◌⊆◌, ◌∖◌}
use Rattle.fbas_model.specs.Fbas.{Fbas, Quorum as IsQuorum, IsGreatestQuorum, all_nodes}
use Rattle.lrat_model.specs.Literal.{clause_true}
use Rattle.enumeration_journal.specs.declared.kinds.Listed.TheVariants.{Quorum, Blocking}
use Rattle.enumeration_journal.proofs.Greatest.{IsGreatest}
use Rattle.enumeration_journal.proofs.Duality.{quorum_within}
use Rattle.blocking_lists.specs.Search.{IsModelSet}
use Rattle.blocking_lists.proofs.Turns.{quorum_out, blocking_out}
use Rattle.group_journal.specs.Groups.{joined, touching}
use Rattle.group_journal.specs.Rules.{group_clause}
use Rattle.group_journal.proofs.Touched.{touches_more, met_by}

-- no node of a quorum outside the members of the groups is one of them
pub apart_from_groups : (f : Fbas) (b : Nodes) (s out u v : Nodes) → IsGreatestQuorum f b (all_nodes f ∖ s) out → u ⊆ out → v ⊆ u → (w : ℕ) → w ∈ v → w ∈ s → ⊥
apart_from_groups f b s out u v greatest within inside w here there =
    let left = and_parts (all_nodes f w && not (s w)) (not (b w)) (greatest.within w (within w (inside w here))) in
    false≢true (sym_not w there (and_parts (all_nodes f w) (not (s w)) left.0).1)
  where
    sym_not : (w : ℕ) → s w ≡ true → not (s w) ≡ true → false ≡ true
    sym_not w here gone = subst (λ (x : Bool). not x ≡ true) here gone

-- a quorum touches no more groups than the greatest
pub touched_within : (f : Fbas) (b : Nodes) (g u : Table) (groups : List Table) → IsGreatest f b g → IsQuorum f b (members u) → members (touching groups u) ⊆ members (touching groups g)
touched_within f b g u groups greatest q = touches_more groups u g (quorum_within f b g (members u) greatest q)

pub group_quorum_out : (f : Fbas) (b : Nodes) (g m u : Table) (groups : List Table) (a : ℕ → Bool) → IsGreatest f b g → IsModelSet Blocking (touching groups g) a m → IsQuorum f b (members u)
    → ((v : ℕ) → v ∈ members u → v ∈ joined groups m → ⊥) → clause_true a (group_clause groups (touching groups g) Quorum u) ≡ false
group_quorum_out f b g m u groups a greatest model q apart =
    quorum_out Blocking tt (touching groups g) a m (touching groups u) model (touched_within f b g u groups greatest q) (λ i touched marked. let r = met_by groups m u i marked touched in apart r.0 r.1 r.2)

pub group_block_out : (g m s : Table) (groups : List Table) (a : ℕ → Bool) → IsModelSet Blocking (touching groups g) a m → members s ⊆ members m → clause_true a (group_clause groups (touching groups g) Blocking s) ≡ false
group_block_out g m s groups a model inside = blocking_out Blocking (touching groups g) a m s model inside
