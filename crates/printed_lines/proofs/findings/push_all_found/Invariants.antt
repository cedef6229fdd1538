use Rattle.std.proofs.Common.{◌≡◌, ◌++◌, drop}
use Rattle.printed_lines.specs.Lines.{found_lines}
use Rattle.printed_lines.proofs.findings.push_all_found.Given as goal

abbrev pub invariant-loop-node : goal.invariant-loop-node
invariant-loop-node l = l.text.items ++ found_lines l.system.names l.node (drop l.node l.system.sets) ≡ l.fn.text.items ++ found_lines l.system.names 0 l.system.sets
