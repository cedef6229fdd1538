use Rattle.std.proofs.Common.{◌≡◌, List, length, slice_get, Some, None, refl, sym, ap, ◌∙◌}
use Rattle.std.specs.Prelude.{◌-◌}
use Rattle.fbas_model.specs.Nodes.{Table}
use Rattle.least_journal.specs.Least.{last_of}
use Rattle.reach_kinds.proofs.Falling.{last_at}
use Rattle.reach_kinds.proofs.list_sets.is_smaller_if.Goals as goal

pub returns-in-Some : goal.returns-in-Some
returns-in-Some c =
    let sets : List Table = c.args.listing.now.sets in
    let at : last_of None sets ≡ Some c.in-Some.last.now = sym (last_at sets) ∙ sym (ap (λ (ss : List Table). slice_get ss (length ss - 1)) c.as_slice.ensures) ∙ sym c.in-Some.ensures.value in
    rw (c.if-not-asked.false, at) (rw (c.count.ensures, c.count-in-Some.ensures) refl)
