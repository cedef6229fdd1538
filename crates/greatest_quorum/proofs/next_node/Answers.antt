use Rattle.std.proofs.Common.{arith}
use Rattle.fbas_model.proofs.Sizes.{member_lt}
use Rattle.greatest_quorum.proofs.next_node.Goals as goal

pub has_few_entries-requires : goal.has_few_entries-requires
has_few_entries-requires c = let low = member_lt c.args.again.now c.in-Some.v c.in-Some.ensures.1 in omega (arith, low, c.requires)
