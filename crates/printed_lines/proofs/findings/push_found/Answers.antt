use Rattle.std.proofs.Common.{arith}
use Rattle.quorum_set.proofs.Places.{few_entries}
use Rattle.printed_lines.proofs.findings.push_found.Goals as goal

pub findings-requires : goal.findings-requires
findings-requires c = few_entries c.args.set.now (omega (arith, c.requires))
