use Rattle.std.proofs.Common.{◌≡◌, ◌<◌, ◌++◌, [], List, length, sym, ap, ◌∙◌, subst, arith, append_assoc, Ok}
use Rattle.std.proofs.lemmas.List.{append-nil}
use Rattle.lrat_model.specs.Literal.{Literal}
use Rattle.cdcl_core.proofs.States.{state_on_variables}
use Rattle.cdcl_core.specs.declared.watches.Watch.{Watch}
use Rattle.cdcl_core.specs.Watches.{IsWatched, index_of}
use Rattle.cdcl_core.proofs.Queues.{at_head, inside_still, take_out, propagating_set, put_in, queued_next, kept_at_end}
use Rattle.cdcl_core.proofs.propagation.propagate.Goals as goal

pub take-list-requires : goal.take-list-requires
take-list-requires c =
    let s = c.loop-head in
    (at_head s.assignment.vars c.args.clauses.now s.lists s.assignment.trues c.trail.result.now c.trail-in-loop-head.result.now s.reasons.items s.head c.index-trail-head.result c.negated-l.result s.invariant.propagating (omega (arith, c.loop-head-test.true)) c.trail.ensures c.index-trail-head.is c.trail-in-loop-head.ensures c.negated-l.ensures).inside

pub visit_all-requires-clause-propagating : goal.visit_all-requires-clause-propagating
visit_all-requires-clause-propagating c =
    let s = c.loop-head in
    propagating_set s.assignment.vars c.args.clauses.now s.lists c.take-list.new.self s.assignment.trues s.reasons.items (index_of c.negated-l.result) [] c.take-list.ensures.rest s.invariant.propagating

pub visit_all-requires-clause-visiting : goal.visit_all-requires-clause-visiting
visit_all-requires-clause-visiting c =
    let s = c.loop-head in
    let at = at_head s.assignment.vars c.args.clauses.now s.lists s.assignment.trues c.trail.result.now c.trail-in-loop-head.result.now s.reasons.items s.head c.index-trail-head.result c.negated-l.result s.invariant.propagating (omega (arith, c.loop-head-test.true)) c.trail.ensures c.index-trail-head.is c.trail-in-loop-head.ensures c.negated-l.ensures in
    (s.head, take_out c.args.clauses.now s.pairs s.lists s.assignment.trues s.reasons.items s.head c.negated-l.result at.inside c.index-trail-head.result at.within at.first at.false_now (s.invariant.watched c.negated-l.result) s.invariant.queued c.take-list.new.self c.take-list.result.items c.take-list.ensures.rest c.take-list.ensures.list)

pub put-requires : goal.put-requires
put-requires c =
    let s = c.loop-head in
    let new = c.visit_all.new in
    let did = c.in_ok-found.ensures in
    let at = at_head s.assignment.vars c.args.clauses.now s.lists s.assignment.trues c.trail.result.now c.trail-in-loop-head.result.now s.reasons.items s.head c.index-trail-head.result c.negated-l.result s.invariant.propagating (omega (arith, c.loop-head-test.true)) c.trail.ensures c.index-trail-head.is c.trail-in-loop-head.ensures c.negated-l.ensures in
    inside_still (index_of c.negated-l.result) s.assignment.vars new.assignment.vars s.lists new.lists at.inside s.invariant.propagating.long did.vars did.propagating.long

pub returns-in-Some-clause-watched : goal.returns-in-Some-clause-watched
returns-in-Some-clause-watched c = λ k.
    let did = c.in_ok-found.ensures in
    let found = did.conflict c.in-Some.id (ap Ok c.in-Some.is) in
    let new = c.visit_all.new in
    let s = c.loop-head in
    let at = at_head s.assignment.vars c.args.clauses.now s.lists s.assignment.trues c.trail.result.now c.trail-in-loop-head.result.now s.reasons.items s.head c.index-trail-head.result c.negated-l.result s.invariant.propagating (omega (arith, c.loop-head-test.true)) c.trail.ensures c.index-trail-head.is c.trail-in-loop-head.ensures c.negated-l.ensures in
    subst (λ (xs : List (List Watch)). IsWatched c.args.clauses.now new.pairs xs k []) (sym c.put.ensures)
    (put_in c.args.clauses.now new.pairs new.lists new.assignment.trues new.reasons.items s.head c.negated-l.result (inside_still (index_of c.negated-l.result) s.assignment.vars new.assignment.vars s.lists new.lists at.inside s.invariant.propagating.long did.vars did.propagating.long) new.list.items found.1 found.2 k)

pub returns-in-Some-clause-propagating : goal.returns-in-Some-clause-propagating
returns-in-Some-clause-propagating c =
    let new = c.visit_all.new in
    propagating_set new.assignment.vars c.args.clauses.now new.lists c.put.new.self new.assignment.trues new.reasons.items (index_of c.negated-l.result) new.list.items c.put.ensures c.in_ok-found.ensures.propagating

pub returns-in-Some-clause-queued : goal.returns-in-Some-clause-queued
returns-in-Some-clause-queued c =
    let s = c.loop-head in
    let at = at_head s.assignment.vars c.args.clauses.now s.lists s.assignment.trues c.trail.result.now c.trail-in-loop-head.result.now s.reasons.items s.head c.index-trail-head.result c.negated-l.result s.invariant.propagating (omega (arith, c.loop-head-test.true)) c.trail.ensures c.index-trail-head.is c.trail-in-loop-head.ensures c.negated-l.ensures in
    c.in_ok-found.ensures.queued c.in-Some.id s.head (ap Ok c.in-Some.is) (take_out c.args.clauses.now s.pairs s.lists s.assignment.trues s.reasons.items s.head c.negated-l.result at.inside c.index-trail-head.result at.within at.first at.false_now (s.invariant.watched c.negated-l.result) s.invariant.queued c.take-list.new.self c.take-list.result.items c.take-list.ensures.rest c.take-list.ensures.list)

pub loop-head-smaller : goal.loop-head-smaller
loop-head-smaller c =
    let s = c.loop-head in
    let inv = s.invariant in
    omega (arith, (at_head s.assignment.vars c.args.clauses.now s.lists s.assignment.trues c.trail.result.now c.trail-in-loop-head.result.now s.reasons.items s.head c.index-trail-head.result c.negated-l.result s.invariant.propagating (omega (arith, c.loop-head-test.true)) c.trail.ensures c.index-trail-head.is c.trail-in-loop-head.ensures c.negated-l.ensures).within, inv.vars, (state_on_variables s.assignment.vars c.args.clauses.now s.assignment.trues s.reasons.items inv.propagating.state).1)

pub loop-head-preserved : goal.loop-head-preserved
loop-head-preserved c =
    let s = c.loop-head in
    let inv = s.invariant in
    let new = c.visit_all.new in
    let did = c.in_ok-found.ensures in
    let at = at_head s.assignment.vars c.args.clauses.now s.lists s.assignment.trues c.trail.result.now c.trail-in-loop-head.result.now s.reasons.items s.head c.index-trail-head.result c.negated-l.result s.invariant.propagating (omega (arith, c.loop-head-test.true)) c.trail.ensures c.index-trail-head.is c.trail-in-loop-head.ensures c.negated-l.ensures in
    let v = did.visited (ap Ok c.in_default.is) s.head (take_out c.args.clauses.now s.pairs s.lists s.assignment.trues s.reasons.items s.head c.negated-l.result at.inside c.index-trail-head.result at.within at.first at.false_now (s.invariant.watched c.negated-l.result) s.invariant.queued c.take-list.new.self c.take-list.result.items c.take-list.ensures.rest c.take-list.ensures.list) in
    record {
      vars = did.vars ∙ inv.vars;
      propagating = propagating_set new.assignment.vars c.args.clauses.now new.lists c.put.new.self new.assignment.trues new.reasons.items (index_of c.negated-l.result) new.list.items c.put.ensures did.propagating;
      longer = (inv.longer.0 ++ did.longer.0, did.longer.1 ∙ ap (λ (ls : List Literal). ls ++ did.longer.0) inv.longer.1 ∙ append_assoc c.args.assignment.now.trues inv.longer.0 did.longer.0);
      counted = λ p is. inv.counted p (did.counted p is);
      watched = λ k. subst (λ (xs : List (List Watch)). IsWatched c.args.clauses.now new.pairs xs k []) (sym c.put.ensures)
          (put_in c.args.clauses.now new.pairs new.lists new.assignment.trues new.reasons.items s.head c.negated-l.result (inside_still (index_of c.negated-l.result) s.assignment.vars new.assignment.vars s.lists new.lists at.inside s.invariant.propagating.long did.vars did.propagating.long) new.list.items (subst (λ (ws : List Watch). IsWatched c.args.clauses.now new.pairs new.lists c.negated-l.result ws) (append-nil new.list.items) v.watched) v.taken_out k);
      queued = queued_next c.args.clauses.now new.pairs new.lists new.assignment.trues new.reasons.items s.head c.negated-l.result new.list.items v;
    }

pub returns-clause-kept : goal.returns-clause-kept
returns-clause-kept c = λ _.
    let s = c.loop-head in
    kept_at_end c.args.clauses.now s.pairs s.assignment.trues s.reasons.items s.head s.invariant.queued (omega (arith, c.loop-head-test.false, ap (λ (ls : List Literal). length ls) c.trail.ensures))
