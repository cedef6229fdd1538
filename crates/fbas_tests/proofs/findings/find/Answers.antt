use Rattle.quorum_set.proofs.Places.{few_entries}
use Rattle.fbas_tests.proofs.findings.find.Goals as goal

pub findings-requires : goal.findings-requires
findings-requires c = few_entries c.args.quorum_set.now c.requires
