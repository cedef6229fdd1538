use Rattle.std.proofs.Common.{IsSome, subst}
use Rattle.std.proofs.lemmas.Bool.{false≢true}
use Rattle.command_run.proofs.commands.OrgBlockingFoundFound.find.Goals as goal

pub unreachable-requires : goal.unreachable-requires
unreachable-requires c = false≢true (subst IsSome c.in-None.is (c.requires.over.fits.orgs.needed c.requires.asked))
