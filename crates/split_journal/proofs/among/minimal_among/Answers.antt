use Rattle.std.proofs.Common.{◌≤◌, not, length, arith}
use Rattle.split_journal.specs.Minimal.{has_proper_part, minimal_among}
use Rattle.split_journal.proofs.Minimal.{kept_all, minimal_exact}
use Rattle.split_journal.proofs.among.minimal_among.Goals as goal

pub returns-clause-computed : goal.returns-clause-computed
returns-clause-computed w c =
    let sets = c.args.sets.now in
    let past : length sets ≤ c.loop-place.place = omega (arith, c.loop-place-test.false) in
    kept_all (λ s. not (has_proper_part sets s)) sets c.loop-place.minimal.items (minimal_among sets) c.loop-place.place past c.loop-place.invariant

pub returns-clause-exact : goal.returns-clause-exact
returns-clause-exact w c = minimal_exact c.args.sets.now c.loop-place.minimal.items (returns-clause-computed w c)
