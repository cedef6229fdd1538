use Rattle.std.proofs.Common.{sym, ap, ap₂, ◌∙◌}
use Rattle.fbas_model.specs.Trees.{quorum_set}
use Rattle.fbas_model.specs.Lists.{entries_of}
use Rattle.whatif_session.specs.Changes.{validators_after}
use Rattle.whatif_session.proofs.ChangeLists.{changed-lists}
use Rattle.whatif_session.proofs.change.changed_here.Goals as goal

pub returns : goal.returns
returns c =
    let q = c.set.inside in
    let nodes = c.in_ok-validators_after.ensures ∙ ap (validators_after c.args.change) c.deref.ensures.value in
    let inners = c.in_ok-copies.ensures ∙ c.deref-2.ensures.value in
    rw (← c.set.view_is) (ap₂ quorum_set c.threshold_after.ensures (ap₂ entries_of nodes inners) ∙ sym (changed-lists c.args.change q.threshold q.validators.items q.inner.items))
