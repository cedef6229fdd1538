-- The entries and the unset nodes of a system, summed node by node.
use Rattle.std.proofs.Common.{◌≡◌, ℕ, ◌+◌, ◌≤◌, ◌<◌, refl, sym, ◌∙◌, ap, arith, length, take, [], ◌∷◌, Option, Some, None}
use Rattle.std.specs.Prelude.{sum_by, count_by, slice_index_or, is_none, if◌then◌else◌}
use Rattle.std.proofs.lemmas.List.Sums.{sum_by-cons, sum_by_more, sum_by-take-le}
use Rattle.fbas_model.specs.Trees.{QuorumSet}
use Rattle.fbas_model.specs.QuorumSets.{all_entries}
use Rattle.fbas_model.specs.Fbas.{Fbas}
use Rattle.fbas_model.specs.Systems.{entries_in, unset_in}

abbrev pub entries_at : Option QuorumSet → ℕ
entries_at None = 0
entries_at (Some q) = all_entries q

pub entries_in-sum : (sets : Fbas) → entries_in sets ≡ sum_by entries_at sets
entries_in-sum [] = refl
entries_in-sum (None ∷ sets) = omega (arith, entries_in-sum sets, sum_by-cons entries_at None sets)
entries_in-sum (Some q ∷ sets) = omega (arith, entries_in-sum sets, sum_by-cons entries_at (Some q) sets)

pub entries_more : (sets : Fbas) (i : ℕ) (o : Option QuorumSet) → i < length sets → o ≡ slice_index_or sets i o → sum_by entries_at (take (i + 1) sets) ≡ sum_by entries_at (take i sets) + entries_at o
entries_more sets i o h e = sum_by_more entries_at sets i o h ∙ ap (λ (x : Option QuorumSet). sum_by entries_at (take i sets) + entries_at x) (sym e)

-- what is counted with one more node is no more than all
pub entries_within : (sets : Fbas) (i : ℕ) (o : Option QuorumSet) → i < length sets → o ≡ slice_index_or sets i o → sum_by entries_at (take i sets) + entries_at o ≤ entries_in sets
entries_within sets i o h e = omega (arith, entries_in-sum sets, entries_more sets i o h e, sum_by-take-le entries_at sets (i + 1))

pub unset_in-count : (sets : Fbas) → unset_in sets ≡ count_by is_none sets
unset_in-count [] = refl
unset_in-count (None ∷ sets) = omega (arith, unset_in-count sets, sum_by-cons (λ (o : Option QuorumSet). if is_none o then 1 else 0) None sets)
unset_in-count (Some q ∷ sets) = omega (arith, unset_in-count sets, sum_by-cons (λ (o : Option QuorumSet). if is_none o then 1 else 0) (Some q) sets)
