use Rattle.std.proofs.Common.{◌≡◌, ◌++◌, take}
use Rattle.printed_lines.specs.Lines.{set_lines}
use Rattle.printed_lines.proofs.words.push_sets.Given as goal

abbrev pub invariant-loop-set : goal.invariant-loop-set
invariant-loop-set l = l.text.items ≡ l.fn.text.items ++ set_lines l.system.names (take l.set-index l.sets)
