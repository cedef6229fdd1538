use Rattle.std.proofs.Common.{◌≡◌, ◌∙◌, ◌+◌, ◌*◌, ◌-◌, ◌<◌, ℕ, suc, sym, ap, subst, arith, Ok}
use Rattle.search_heuristics.specs.Open.{open_count}
use Rattle.cdcl_core.proofs.OpenCounts.{less_cuts}
use Rattle.cdcl_core.proofs.Same.{holding_same}
use Rattle.cdcl_core.proofs.search.Search.descend.Goals as goal

pub propagate-requires-clause-room : goal.propagate-requires-clause-room
propagate-requires-clause-room c = omega (arith, c.requires.room, c.turns.invariant.same.last)

pub propagate-requires-clause-holding : goal.propagate-requires-clause-holding
propagate-requires-clause-holding c = holding_same c.args.self.now c.turns.self c.turns.invariant.same c.requires.holding

pub returns-then-not-is_decided-clause-full : goal.returns-then-not-is_decided-clause-full
returns-then-not-is_decided-clause-full c = λ _. c.in_ok-is_decided-in-Fixpoint.ensures.none (ap Ok c.if-not-is_decided.true)

pub turns-smaller-then-is_cut : goal.turns-smaller-then-is_cut
turns-smaller-then-is_cut c =
    let old = c.turns.self in
    let new = c.turn_back.new.self in
    let trues = new.assignment.trues in
    let left = c.in_ok-is_cut-in-Fixpoint.ensures.left (ap Ok c.if-is_cut.true) in
    let vars : new.vars ≡ old.vars = c.turn_back.ensures.same.vars ∙ c.propagate.ensures.same.vars in
    subst (λ (n : ℕ). (c.turns.cuts - 1) * suc n + open_count trues n < c.turns.cuts * suc old.vars + open_count old.assignment.trues old.vars) (sym vars)
    (less_cuts old.assignment.trues trues old.vars (c.turns.cuts - 1) c.turns.cuts (omega (arith, left)))
