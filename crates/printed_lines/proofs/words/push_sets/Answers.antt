use Rattle.std.proofs.Common.{◌++◌, List, ℕ, take, codes, sym, ◌∙◌, ap}
use Rattle.std.proofs.lemmas.List.{append_assoc}
use Rattle.printed_lines.specs.Lines.{line, list, set_lines}
use Rattle.printed_lines.proofs.Sets.{lines_more}
use Rattle.printed_lines.proofs.words.push_sets.Goals as goal

pub loop-set-preserved : goal.loop-set-preserved
loop-set-preserved c =
    let names = c.args.system.now.names in
    let sets = c.args.sets.now in
    let i = c.loop-set.set-index in
    let set = c.set-item.result in
    let before : List ℕ = set_lines names (take i sets) in
    let more = lines_more names sets i set c.loop-set-test.true c.set-item.is in
    c.in_ok-push_list.ensures ∙ ap (λ (t : List ℕ). t ++ line (list (codes "set") names set)) c.loop-set.invariant
    ∙ append_assoc c.args.text.now.items before (line (list (codes "set") names set)) ∙ ap (λ (t : List ℕ). c.args.text.now.items ++ t) (sym more)
