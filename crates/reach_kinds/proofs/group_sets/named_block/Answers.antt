use Rattle.std.proofs.Common.{sym}
use Rattle.reach_kinds.proofs.GroupKnown.{texts_inside}
use Rattle.reach_kinds.proofs.group_sets.named_block.Goals as goal

pub returns-clause-inside : goal.returns-clause-inside
returns-clause-inside c = (texts_inside c.args.over.now c.args.line c.args.texts.now c.in_ok-set.set c.requires.places (sym c.in_ok-set.ensures.value)).1
