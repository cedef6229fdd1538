use Rattle.std.proofs.Common.{◌≡◌, ◌++◌, drop}
use Rattle.quorum_set.specs.Findings.{found_all}
use Rattle.printed_lines.specs.Lines.{finding_lines}
use Rattle.printed_lines.proofs.findings.push_findings.Given as goal

abbrev pub invariant-loop-finding : goal.invariant-loop-finding
invariant-loop-finding l = l.text.items ++ finding_lines l.names l.node (found_all (drop l.finding-index l.findings)) ≡ l.fn.text.items ++ finding_lines l.names l.node (found_all l.findings)
