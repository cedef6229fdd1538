use Rattle.std.proofs.Common.{None, sym, ap, ◌++◌, ◌∷◌, [], ◌∙◌, arith, map}
use Rattle.std.proofs.lemmas.List.{take_all}
use Rattle.node_json.proofs.Placing.{none_more}
use Rattle.node_json.proofs.system.no_sets.Goals as goal

pub loop-at-preserved : goal.loop-at-preserved
loop-at-preserved c = c.in_ok-push.ensures.items ∙ ap (λ xs. xs ++ None ∷ []) c.loop-at.invariant ∙ sym (none_more c.args.names.now c.loop-at._at None (omega (arith, c.len-n.ensures)))

pub returns : goal.returns
returns c = c.loop-at.invariant ∙ ap (map (λ _. None)) (take_all c.loop-at._at c.args.names.now (omega (arith, c.len-n.ensures)))
