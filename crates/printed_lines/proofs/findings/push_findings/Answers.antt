use Rattle.std.proofs.Common.{◌≡◌, ◌++◌, ◌∷◌, ◌+◌, List, drop, ap, sym, ◌∙◌}
use Rattle.std.proofs.lemmas.List.{at_drop_more}
use Rattle.quorum_set.specs.Findings.{found, found_all}
use Rattle.quorum_set.specs.declared.findings.Finding.{Finding}
use Rattle.printed_lines.specs.Lines.{finding_line, finding_lines}
use Rattle.printed_lines.proofs.Lists.{grown}
use Rattle.printed_lines.proofs.findings.push_findings.Goals as goal

pub loop-finding-preserved : goal.loop-finding-preserved
loop-finding-preserved c =
    let names = c.args.names.now in
    let v = c.args.node in
    let findings = c.args.findings.now in
    let i = c.loop-finding.finding-index in
    let x = c.finding-item.result in
    let lines = λ (fs : List Finding). finding_lines names v (found_all fs) in
    let later = lines (drop (i + 1) findings) in
    let step : lines (drop i findings) ≡ finding_line names v (found x) ++ later = at_drop_more lines findings i x c.loop-finding-test.true ∙ ap (λ (y : Finding). lines (y ∷ drop (i + 1) findings)) (sym c.finding-item.is) in
    rw c.in_ok-push_finding.ensures (grown c.loop-finding.text.items (finding_line names v (found x)) later (lines (drop i findings)) (c.args.text.now.items ++ lines findings) step c.loop-finding.invariant)
