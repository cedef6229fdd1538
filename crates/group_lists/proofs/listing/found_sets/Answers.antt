use Rattle.std.proofs.Common.{◌≡◌, ◌∙◌, ap, subst, ℕ, List, length, Ok}
use Rattle.std.specs.Prelude.{All, Contains, ◌↔◌}
use Rattle.fbas_model.specs.Nodes.{Table}
use Rattle.enumeration_journal.specs.declared.kinds.Listed.TheVariants.{Blocking}
use Rattle.blocking_lists.specs.Lines.{listed_in}
use Rattle.group_lists.proofs.listing.found_sets.Goals as goal

pub returns-then-branch-clause-whole : goal.returns-then-branch-clause-whole
returns-then-branch-clause-whole c =
    let sets_are = c.in_ok-sets.ensures ∙ ap (listed_in Blocking) c.deref.ensures.value in
    let same = subst (λ (xs : List Table). (n : ℕ) → All (λ s. length s ≡ n) xs → (s : Table) → Contains c.rising-ordered.result.items s ↔ Contains xs s) sets_are c.rising-ordered.ensures.same in
    (c.in_ok-run.ensures.whole (ap Ok c.if-branch.true), (c.rising-ordered.ensures.rising, same))
