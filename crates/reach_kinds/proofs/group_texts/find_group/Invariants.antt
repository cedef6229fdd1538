use Rattle.std.proofs.Common.{◌-◌}
use Rattle.node_json.specs.Groups.{texts_of}
use Rattle.reach_kinds.proofs.GroupTexts.{Between}
use Rattle.reach_kinds.proofs.group_texts.find_group.Given as goal

abbrev pub invariant-loop-low : goal.invariant-loop-low
invariant-loop-low l = Between (texts_of l.groups) l.text l.low l.high

abbrev pub decreases-loop-low : goal.decreases-loop-low
decreases-loop-low l = l.high - l.low
