use Rattle.std.proofs.Common.{◌≤◌, arith}
use Rattle.command_run.proofs.commands.units_of.Goals as goal

pub returns-clause-few : goal.returns-clause-few
returns-clause-few c =
    let few : c.args.over.now.search.now.budget ≤ 4000000000 = c.requires.fits.few in
    let same = c.of.ensures in
    omega arith
