use Rattle.std.proofs.Common.{◌∙◌, sym}
use Rattle.fbas_core.proofs.Sums.{unset_in-count}
use Rattle.fbas_core.proofs.System.unset.Goals as goal

pub returns : goal.returns
returns c =
    let count = rw c.deref.ensures.value at c.count_unset.ensures in
    rw (← c.self.view_is) (count ∙ sym (unset_in-count c.self.inside.sets.items))
