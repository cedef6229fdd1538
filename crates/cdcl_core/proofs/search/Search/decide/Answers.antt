use Rattle.std.proofs.Common.{◌∙◌, arith}
use Rattle.cdcl_core.specs.Guides.{IsGuide}
use Rattle.cdcl_core.specs.Trail.{IsVariable}
use Rattle.cdcl_core.proofs.Moves.{searching_pushed}
use Rattle.cdcl_core.proofs.Trails.{open_count-push}
use Rattle.cdcl_core.proofs.States.{state_decide}
use Rattle.cdcl_core.proofs.OpenCounts.{open_literal}
use Rattle.cdcl_core.proofs.search.Search.decide.Goals as goal

pub returns-in_ok-push-in-Some-clause-searching : goal.returns-in_ok-push-in-Some-clause-searching
returns-in_ok-push-in-Some-clause-searching c =
    let s = c.args.self.now in
    let was = c.requires.searching in
    let trues = s.assignment.trues in
    let l = c.literal-l.result in
    let some = c.in-Some.ensures.some in
    let free = open_literal trues l c.in-Some.x c.literal-l.ensures some.2 some.3 in
    let range : IsVariable s.vars l = (omega (arith, c.literal-l.ensures, some.0), omega (arith, c.literal-l.ensures, some.1, was.guide.ordered)) in
    let guide : IsGuide s.vars (record s.guide { order = c.best_open.new.self }) = record { ordered = c.best_open.ensures.vars ∙ was.guide.ordered; marked = was.guide.marked } in
    searching_pushed s.clauses s _ c.make_true.new.self _ l 0 was guide c.make_true.ensures.vars c.make_true.ensures.trues c.in_ok-push-in-Some.ensures.items (state_decide s.vars s.clauses trues s.reasons.items was.state c.requires.fixpoint l range free.0 free.1) (λ _. c.requires.kept)

pub returns-in_ok-push-in-Some-clause-fewer : goal.returns-in_ok-push-in-Some-clause-fewer
returns-in_ok-push-in-Some-clause-fewer c = λ _.
    let s = c.args.self.now in
    let some = c.in-Some.ensures.some in
    let range : IsVariable s.vars c.literal-l.result = (omega (arith, c.literal-l.ensures, some.0), omega (arith, c.literal-l.ensures, some.1, c.requires.searching.guide.ordered)) in
    let free = open_literal s.assignment.trues c.literal-l.result c.in-Some.x c.literal-l.ensures some.2 some.3 in
    rw c.make_true.ensures.trues (open_count-push s.assignment.trues c.literal-l.result s.vars range free.0 free.1)
