use Rattle.std.proofs.Common.{◌≡◌, ◌++◌, take}
use Rattle.node_json.specs.Groups.{texts_of}
use Rattle.printed_lines.specs.Lines.{set_lines}
use Rattle.printed_lines.proofs.groups.push_group_sets.Given as goal

abbrev pub invariant-loop-set : goal.invariant-loop-set
invariant-loop-set l = l.text.items ≡ l.fn.text.items ++ set_lines (texts_of l.groups) (take l.set-index l.sets)
