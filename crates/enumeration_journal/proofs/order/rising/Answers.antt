use Rattle.std.proofs.Common.{◌≡◌, refl, sym, subst, rules, List, length, Contains}
use Rattle.std.specs.List.{dedup}
use Rattle.std.specs.List.Sorted.{IsStrictlySortedBy}
use Rattle.std.specs.Prelude.{IsSorted, ◌↔◌}
use Rattle.std.specs.Ordering.{is_lt, eq_by_cmp}
use Rattle.std.proofs.lemmas.Cmp.{nat_list_cmp_total}
use Rattle.std.proofs.lemmas.Fn.{dedup_same, always_returns_same}
use Rattle.std.proofs.lemmas.List.Kept.{IsStrictlySortedBy-dedup}
use Rattle.std.proofs.lemmas.List.Sorted.{ranks_by}
use Rattle.fbas_model.specs.Nodes.{Table, listed_from, set_cmp}
use Rattle.std.proofs.lemmas.List.Elements.{All-contains}
use Rattle.enumeration_journal.proofs.OrderLaws.{is_ordered}
use Rattle.enumeration_journal.proofs.NameOrder.{set_cmp_total, same_sets}
use Rattle.enumeration_journal.proofs.order.rising.Goals as goal

pub returns-clause-rising : goal.returns-clause-rising
returns-clause-rising w c =
    let sorted = c.sort_unstable_by.new.self.items in
    let up : IsSorted set_cmp sorted = c.sort_unstable_by.ensures.sorted (λ x y. is_lt (set_cmp x y)) (ranks_by nat_list_cmp_total (listed_from 0)) (always_returns_same _ _ _ (λ a r f' k. search rules)) in
    let is : c.dedup_by.new.self.items ≡ dedup (eq_by_cmp set_cmp) sorted = dedup_same _ (eq_by_cmp set_cmp) _ (λ x y b f' x' y' k. search rules) sorted c.dedup_by.new.self.items c.dedup_by.ensures.filtered in
    subst (λ (xs : List Table). IsStrictlySortedBy set_cmp xs) (sym is) (IsStrictlySortedBy-dedup set_cmp_total (λ x y. refl) sorted up)

pub returns-clause-same : goal.returns-clause-same
returns-clause-same w c = λ n places s.
    let sorted = c.sort_unstable_by.new.self.items in
    let is : c.dedup_by.new.self.items ≡ dedup (eq_by_cmp set_cmp) sorted = dedup_same _ (eq_by_cmp set_cmp) _ (λ x y b f' x' y' k. search rules) sorted c.dedup_by.new.self.items c.dedup_by.ensures.filtered in
    subst (λ (xs : List Table). Contains xs s ↔ Contains c.args.sets.items s) (sym is) (same_sets c.args.sets.items sorted c.sort_unstable_by.ensures.permutation n places s)

pub returns-clause-ordered : goal.returns-clause-ordered
returns-clause-ordered w c = λ n places.
    is_ordered n c.dedup_by.new.self.items c.args.sets.items (λ x there. All-contains (λ (s : Table). length s ≡ n) c.args.sets.items x places there) (returns-clause-rising w c) (returns-clause-same w c n places)
