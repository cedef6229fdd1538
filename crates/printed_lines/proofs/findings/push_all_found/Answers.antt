use Rattle.std.proofs.Common.{◌≡◌, ◌++◌, ◌+◌, ℕ, List, drop, ap, sym, ◌∙◌, Some, None}
use Rattle.quorum_set.specs.Findings.{findings_of}
use Rattle.printed_lines.specs.Lines.{finding_lines, found_lines}
use Rattle.printed_lines.proofs.Lists.{grown, drop_read}
use Rattle.printed_lines.proofs.findings.push_all_found.Goals as goal
use Rattle.printed_lines.proofs.findings.push_all_found.Goals.{in-Some+in_ok-push_found, in_default}

pub loop-node-preserved : goal.loop-node-preserved
loop-node-preserved c =
    let names = c.args.system.now.names in
    let sets = c.args.system.now.sets in
    let v = c.loop-node.node in
    let later = found_lines names (v + 1) (drop (v + 1) sets) in
    let whole = c.args.text.now.items ++ found_lines names 0 sets in
    elim c.match-quorum_set.branch [
      | in-Some+in_ok-push_found w ↦
          let q = w.in-Some.set.now in
          let step : found_lines names v (drop v sets) ≡ finding_lines names v (findings_of q) ++ later = ap (found_lines names v) (drop_read sets v (Some q) w.in-Some.ensures.set) in
          let told : w.push_found.new.text.items ≡ c.loop-node.text.items ++ finding_lines names v (findings_of q) = rw w.names.ensures.names at w.in_ok-push_found.ensures in
          rw (w.text-is, told) (grown c.loop-node.text.items (finding_lines names v (findings_of q)) later (found_lines names v (drop v sets)) whole step c.loop-node.invariant)
      | in_default w ↦
          let step : found_lines names v (drop v sets) ≡ later = ap (found_lines names v) (drop_read sets v None w.in_default.ensures.set) in
          rw w.text-is (ap (λ (t : List ℕ). c.loop-node.text.items ++ t) (sym step) ∙ c.loop-node.invariant)
    ]
