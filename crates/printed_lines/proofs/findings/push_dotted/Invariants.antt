use Rattle.std.proofs.Common.{◌≡◌, ◌++◌, drop}
use Rattle.printed_lines.specs.Lines.{dotted}
use Rattle.printed_lines.proofs.findings.push_dotted.Given as goal

abbrev pub invariant-loop-at : goal.invariant-loop-at
invariant-loop-at l = l.text.items ++ dotted (drop l.at-index l.path) ≡ l.fn.text.items ++ dotted l.path
