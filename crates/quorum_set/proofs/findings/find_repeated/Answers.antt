use Rattle.std.proofs.Common.{◌≡◌, ℕ, ◌+◌, ◌<◌, ◌∙◌, ap, length, slice_index_or, ◌++◌, ◌∷◌, [], List}
use Rattle.std.proofs.lemmas.List.{get_or_default, map_push}
use Rattle.std.proofs.lemmas.Result.{err_from_is_err_and}
use Rattle.quorum_set.specs.Findings.{found, found_all, repeated}
use Rattle.quorum_set.proofs.FindingLaws.{holds_first, times_more, told_more, told_same}
use Rattle.quorum_set.specs.declared.findings.Finding.TheVariants.{Repeated}
use Rattle.quorum_set.proofs.findings.find_repeated.Goals as goal
use Rattle.quorum_set.proofs.findings.find_repeated.Goals.{then-branch-eq2+in_ok-path+in_ok-push, else-branch-eq2}

pub returns-in_err-count_more-clause-err : goal.returns-in_err-count_more-clause-err
returns-in_err-count_more-clause-err c =
    let p = err_from_is_err_and c.from_residual.result c.from_residual.ensures.1 in
    rw p.1 (holds_first _ _ _ _ c.loop-node.invariant.told)

pub returns-in_err-path-clause-err : goal.returns-in_err-path-clause-err
returns-in_err-path-clause-err c =
    let p = err_from_is_err_and c.from_residual-in_err-path.result c.from_residual-in_err-path.ensures.1 in
    rw p.1 (holds_first _ _ _ _ c.loop-node.invariant.told)

pub returns-in_err-push-clause-err : goal.returns-in_err-push-clause-err
returns-in_err-push-clause-err c =
    let p = err_from_is_err_and c.from_residual-in_err-push.result c.from_residual-in_err-push.ensures.1 in
    rw (p.1, c.in_err-push.ensures.items) (holds_first _ _ _ _ c.loop-node.invariant.told)

pub loop-node-preserved : goal.loop-node-preserved
loop-node-preserved c =
    let ws = c.args.nodes.now in
    let i = c.loop-node.node-index in
    let w = slice_index_or ws i 0 in
    let within : i < length ws = c.loop-node-test.true in
    let here : w ≡ slice_index_or ws i w = get_or_default ws i 0 w within in
    let n = c.in_ok-count_more.field-0 in
    let counted = c.in_ok-count_more.ensures.count ∙ ap (λ (m : ℕ). m + 1) (c.loop-node.invariant.counted w) in
    let now = found_all c.loop-node.into.items in
    record {
      counted = λ q. times_more ws i q _ _ within (c.loop-node.invariant.counted q) (c.in_ok-count_more.ensures.counted q);
      told = elim c.if-branch-eq2.branch [
        | then-branch-eq2+in_ok-path+in_ok-push b ↦
            rw b.into-is (told_more _ _ c.args.path.now ws i w within here n now (found_all b.push.new.self.items) c.loop-node.invariant.told counted b.if-branch-eq2.true (ap found_all b.in_ok-push.ensures.items ∙ map_push found c.loop-node.into.items (Repeated b.in_ok-path.path w) ∙ ap (λ (path : List ℕ). now ++ repeated path w ∷ []) b.in_ok-path.ensures.items))
        | else-branch-eq2 b ↦ rw b.into-is (told_same _ _ c.args.path.now ws i w within here n now c.loop-node.invariant.told counted b.if-branch-eq2.false)
      ];
    }
