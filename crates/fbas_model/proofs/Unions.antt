-- The union of two quorums is a quorum (Mazières 2015), so that the quorums inside a set have a greatest among them.
use Rattle.std.proofs.Common.{ℕ, inl, inr}
use Rattle.std.proofs.lemmas.Bool.{or_cases, or_left, or_right}
use Rattle.fbas_model.specs.Nodes.{Nodes, ◌⊆◌, ◌∪◌}
use Rattle.fbas_model.specs.Fbas.{Fbas, HasSliceWithin, Quorum}

-- a slice inside a set is inside a larger one
pub slice_wider : (f : Fbas) (b w u : Nodes) (v : ℕ) → w ⊆ u → HasSliceWithin f b v w → HasSliceWithin f b v u
slice_wider f b w u v h s = (s.0, s.1, λ x at. h x (s.2 x at))

pub quorum_union : (f : Fbas) (b u w : Nodes) → Quorum f b u → Quorum f b w → Quorum f b (u ∪ w)
quorum_union f b u w p q = record {
  inhabited = (p.inhabited.0, or_left (u p.inhabited.0) (w p.inhabited.0) p.inhabited.1);
  left = λ v h. elim (or_cases (u v) (w v) h) [ inl e ↦ p.left v e | inr e ↦ q.left v e ];
  slices = λ v h. elim (or_cases (u v) (w v) h) [
    | inl e ↦ slice_wider f b u (u ∪ w) v (λ x at. or_left (u x) (w x) at) (p.slices v e)
    | inr e ↦ slice_wider f b w (u ∪ w) v (λ x at. or_right (u x) (w x) at) (q.slices v e)
  ];
}
