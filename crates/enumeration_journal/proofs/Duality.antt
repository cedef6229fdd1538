-- Quorums and blocking sets, each by what the other is.
use Rattle.std.proofs.Common.{◌≡◌, true, not, ◌&&◌, length, refl, sym, ◌∙◌, inl, inr, ◌⊎◌}
use Rattle.std.proofs.lemmas.Bool.{and_parts, and_from, cases_Bool, both_ways, false_from_ne_true}
use Rattle.fbas_model.specs.Nodes.{Nodes, Table, members, ◌⊆◌, Meets}
use Rattle.fbas_model.specs.Fbas.{Fbas, Quorum, Blocks, BlocksMinimally, all_nodes}
use Rattle.fbas_model.proofs.Tables.{table_ext}
use Rattle.enumeration_journal.specs.Kinds.{other, is_sought, HasLists, Is, IsMinimal}
use Rattle.enumeration_journal.specs.Journals.{RightFor}
use Rattle.enumeration_journal.specs.Lists.{IsMinimalSet}
use Rattle.enumeration_journal.specs.declared.kinds.Listed.{Listed}
use Rattle.enumeration_journal.specs.declared.kinds.Listed.TheVariants.{Quorum as quorum, Blocking as blocking, Smaller as smaller}
use Rattle.enumeration_journal.proofs.Greatest.{IsGreatest}

-- each set of a kind shares a node with each of the other
pub meets : (k : Listed) (f : Fbas) (b s u : Nodes) → Is k f b s → Is (other k) f b u → Meets s u
meets quorum f b s u is there = let m = there.meets s is in (m.0, m.2, m.1)
meets blocking f b s u is there = is.meets u there
meets smaller f b s u is there = absurd is

pub is_of : (k : Listed) (f : Fbas) (b s : Nodes) → IsMinimal k f b s → Is k f b s
is_of quorum f b s is = is.quorum
is_of blocking f b s is = is.blocks
is_of smaller f b s is = absurd is

pub minimal_of : (k : Listed) (f : Fbas) (b s t : Nodes) → IsMinimal k f b s → t ⊆ s → Is k f b t → s ⊆ t
minimal_of quorum f b s t is inside one = is.least t inside one
minimal_of blocking f b s t is inside one = is.least t inside one
minimal_of smaller f b s t is inside one = absurd is

-- each quorum lies inside the greatest
pub quorum_within : (f : Fbas) (b : Nodes) (g : Table) (u : Nodes) → IsGreatest f b g → Quorum f b u → u ⊆ members g
quorum_within f b g u greatest q = greatest.greatest.greatest u q (λ v here. (and_parts (all_nodes f v) (not (b v)) (q.left v here)).0)

-- and so does each minimal blocking set
pub block_within : (f : Fbas) (b : Nodes) (g : Table) (s : Nodes) → IsGreatest f b g → BlocksMinimally f b s → s ⊆ members g
block_within f b g s greatest is =
    let cut : Nodes = λ v. s v && members g v in
    let inside : cut ⊆ s = λ v here. (and_parts (s v) (members g v) here).0 in
    let blocks : Blocks f b cut = record {
      left = λ v here. is.blocks.left v (inside v here);
      meets = λ u q. let m = is.blocks.meets u q in (m.0, and_from (s m.0) (members g m.0) m.1 (quorum_within f b g u greatest q m.0 m.2), m.2);
    } in
    λ v here. (and_parts (s v) (members g v) (is.least cut inside blocks v here)).1

pub minimal_within : (k : Listed) (f : Fbas) (b : Nodes) (g : Table) (s : Nodes) → IsGreatest f b g → IsMinimal k f b s → s ⊆ members g
minimal_within quorum f b g s greatest is = quorum_within f b g s greatest is.quorum
minimal_within blocking f b g s greatest is = block_within f b g s greatest is
minimal_within smaller f b g s greatest is = absurd is

pub same_nodes : (s t : Table) → length s ≡ length t → members s ⊆ members t → members t ⊆ members s → s ≡ t
same_nodes s t e there back = table_ext s t e (λ v. elim (cases_Bool (members s v)) [
  | inl here ↦ here ∙ sym (there v here)
  | inr gone ↦ gone ∙ sym (false_from_ne_true (members t v) (λ in_t. both_ways (members s v) gone (back v in_t)))
])

-- a set of the kind inside a minimal one is that one
pub same_minimal : (k : Listed) (f : Fbas) (b : Nodes) (s t : Table) → IsMinimalSet k f b s → length t ≡ length f → Is k f b (members t) → members t ⊆ members s → t ≡ s
same_minimal k f b s t is places one inside = same_nodes t s (places ∙ sym is.0) inside (minimal_of k f b (members s) (members t) is.1 inside one)

-- a listed set is a minimal one of the sought kind, or one of the other kind
pub role_of : (k which : Listed) → HasLists k → (f : Fbas) (b : Nodes) (g t : Table) → RightFor (is_sought k which) which f b g t → ((which ≡ k) × IsMinimal k f b (members t)) ⊎ ((which ≡ other k) × Is (other k) f b (members t) × (members t ⊆ members g))
role_of quorum quorum lists f b g t right = inl (refl, right)
role_of quorum blocking lists f b g t right = inr (refl, right.0, right.1)
role_of quorum smaller lists f b g t right = absurd right.0
role_of blocking quorum lists f b g t right = inr (refl, right.0, right.1)
role_of blocking blocking lists f b g t right = inl (refl, right)
role_of blocking smaller lists f b g t right = absurd right.0
role_of smaller which lists f b g t right = absurd lists

-- there are lists of a kind that has a minimal set
pub lists_of : (k : Listed) (f : Fbas) (b s : Nodes) → IsMinimal k f b s → HasLists k
lists_of quorum f b s is = tt
lists_of blocking f b s is = tt
lists_of smaller f b s is = is

pub lists_of_other : (k : Listed) (f : Fbas) (b s : Nodes) → IsMinimal (other k) f b s → HasLists k
lists_of_other quorum f b s is = tt
lists_of_other blocking f b s is = tt
lists_of_other smaller f b s is = is

pub sought_itself : (k : Listed) → is_sought k k ≡ true
sought_itself quorum = refl
sought_itself blocking = refl
sought_itself smaller = refl

pub sought_same : (k which : Listed) → is_sought k which ≡ true → which ≡ k
sought_same quorum quorum on = refl
sought_same quorum blocking on = absurd cc
sought_same quorum smaller on = absurd cc
sought_same blocking quorum on = absurd cc
sought_same blocking blocking on = refl
sought_same blocking smaller on = absurd cc
sought_same smaller quorum on = absurd cc
sought_same smaller blocking on = absurd cc
sought_same smaller smaller on = refl

-- each listed set lies in the greatest quorum
pub right_within : (k which : Listed) (f : Fbas) (b : Nodes) (g t : Table) → IsGreatest f b g → RightFor (is_sought k which) which f b g t → members t ⊆ members g
right_within quorum quorum f b g t greatest right = minimal_within quorum f b g (members t) greatest right
right_within quorum blocking f b g t greatest right = right.1
right_within quorum smaller f b g t greatest right = right.1
right_within blocking quorum f b g t greatest right = right.1
right_within blocking blocking f b g t greatest right = minimal_within blocking f b g (members t) greatest right
right_within blocking smaller f b g t greatest right = right.1
right_within smaller quorum f b g t greatest right = right.1
right_within smaller blocking f b g t greatest right = right.1
right_within smaller smaller f b g t greatest right = absurd right
