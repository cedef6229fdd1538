use Rattle.std.proofs.Common.{◌≡◌, ◌<◌, length, arith, ◌∙◌, ap, Some}
use Rattle.fbas_model.proofs.Slices.{at_place}
use Rattle.fbas_model.specs.QuorumSets.{all_entries}
use Rattle.fbas_core.proofs.Sums.{entries_at, entries_within}
use Rattle.fbas_core.proofs.System.quorum_set.Goals as goal

pub returns-in-Some-clause-small : goal.returns-in-Some-clause-small
returns-in-Some-clause-small c =
    let sets = c.self.inside.sets.items in
    let low : c.args.v < length sets = rw (← c.self.view_is) at c.requires in
    let within = entries_within sets c.args.v c.index.result.now low c.index.ensures in
    let same : entries_at c.index.result.now ≡ all_entries c.in-Some.quorum_set = ap entries_at c.in-Some.is in
    omega (arith, within, same, c.self.invariant.0.entries)

pub returns-in-None-clause-set : goal.returns-in-None-clause-set
returns-in-None-clause-set c =
    let sets = c.self.inside.sets.items in
    rw (← c.self.view_is) (at_place sets c.args.v c.index.result.now (rw (← c.self.view_is) at c.requires) c.index.ensures ∙ ap Some c.in-None.is)
