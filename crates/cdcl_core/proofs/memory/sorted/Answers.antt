use Rattle.std.proofs.Common.{ℕ, ◌++◌, sym, ap, ◌∙◌, List}
use Rattle.std.specs.Prelude.{◌==◌}
use Rattle.std.proofs.lemmas.List.Sorted.{IsNonDecreasingBy-from_sort, list_any-IsPermutation}
use Rattle.lrat_model.specs.Clauses.{has_id}
use Rattle.cdcl_core.proofs.memory.sorted.Goals as goal

pub returns-clause-sorted : goal.returns-clause-sorted
returns-clause-sorted c = IsNonDecreasingBy-from_sort (λ (k : ℕ). k) c.sort_unstable.new.self.items c.sort_unstable.ensures.sorted

pub returns-clause-same : goal.returns-clause-same
returns-clause-same c = λ k. sym (list_any-IsPermutation (λ (j : ℕ). j == k) c.extend_from_slice.new.self.items c.sort_unstable.new.self.items c.sort_unstable.ensures.permutation) ∙ ap (λ (ls : List ℕ). has_id ls k) (c.in_ok-extend_from_slice.ensures.items ∙ ap (λ (ls : List ℕ). ls ++ c.args.ids.now) c.new-copy.ensures.items)
