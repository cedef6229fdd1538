use Rattle.std.proofs.Common.{◌≡◌, ◌≢◌, ◌+◌, ◌<◌, sym, ap, subst, arith, inl, inr, Ok}
use Rattle.fbas_model.specs.Nodes.{members}
use Rattle.lrat_model.specs.Propagation.{Closes}
use Rattle.cdcl_core.specs.Solving.{Solving, assignment}
use Rattle.cdcl_core.specs.declared.run.Verdict.{Verdict}
use Rattle.blocking_lists.proofs.Models.{satisfied_is_open}
use Rattle.least_quorum.specs.Outcomes.{IsWanted}
use Rattle.least_quorum.specs.Search.{best_in}
use Rattle.least_quorum.proofs.Found.{room_left, unmoved}
use Rattle.least_quorum.proofs.Listings.{least_steps, least_refuted}
use Rattle.least_quorum.proofs.search.run.Goals as goal

not_refuted_spent : (v : Verdict) → v ≡ Verdict.Spent → v ≢ Verdict.Unsat
not_refuted_spent v e h = cc

not_refuted_sat : (v : Verdict) → v ≡ Verdict.Sat → v ≢ Verdict.Unsat
not_refuted_sat v e h = cc

pub solve-requires : goal.solve-requires
solve-requires c = record { room = room_left c.args.system.now.sets (members c.args.faulty.now) c.args.greatest.now c.args.budget.now c.lines.budget c.lines.listed.items c.lines.solver c.lines.invariant c.requires.small c.requires.room }

pub returns-in-Unsat-clause-whole : goal.returns-in-Unsat-clause-whole
returns-in-Unsat-clause-whole c = λ _.
    let now = c.in_ok-solve.ensures in
    least_refuted c.args.system.now.sets (members c.args.faulty.now) c.args.greatest.now c.args.budget.now c.lines.budget c.solve.new.budget c.lines.listed.items c.lines.solver c.solve.new.self c.lines.invariant now.log now.run now.lemmas now.units now.vars now.bounds now.short (now.unsat (ap Ok c.in-Unsat.is))

pub returns-in-Spent-clause-part : goal.returns-in-Spent-clause-part
returns-in-Spent-clause-part c = λ _.
    let now = c.in_ok-solve.ensures in
    let other = not_refuted_spent c.in_ok-solve.field-0 c.in-Spent.is in
    least_steps c.args.system.now.sets (members c.args.faulty.now) c.args.greatest.now c.args.budget.now c.lines.budget c.solve.new.budget c.lines.listed.items c.lines.solver c.solve.new.self c.lines.invariant now.log now.run now.lemmas now.units now.vars now.bounds now.short (now.open other) (now.room (λ e. other (cc))) now.kept

pub returns-in-Spent-clause-wanted : goal.returns-in-Spent-clause-wanted
returns-in-Spent-clause-wanted c = λ _. inl (c.in_ok-solve.ensures.due (ap Ok c.in-Spent.is))

pub returns-then-not-goes_on-clause-part : goal.returns-then-not-goes_on-clause-part
returns-then-not-goes_on-clause-part c = λ _.
    let f = c.args.system.now.sets in
    let b = members c.args.faulty.now in
    let g = c.args.greatest.now in
    let now = c.in_ok-solve.ensures in
    let other = not_refuted_sat c.in_ok-solve.field-0 c.in-Sat.is in
    let is = least_steps f b g c.args.budget.now c.lines.budget c.solve.new.budget c.lines.listed.items c.lines.solver c.solve.new.self c.lines.invariant now.log now.run now.lemmas now.units now.vars now.bounds now.short (now.open other) (now.room (λ e. other (cc))) now.kept in
    let stop = c.in_ok-goes_on-in-Sat.ensures.stops (ap Ok c.if-not-goes_on.true) in
    unmoved f b g c.args.budget.now c.solve.new.budget c.turn.new.budget c.lines.listed.items c.turn.new.listed.items c.solve.new.self c.turn.new.solver stop.0 stop.1 stop.2 stop.3 is

pub returns-then-not-goes_on-clause-unclosed : goal.returns-then-not-goes_on-clause-unclosed
returns-then-not-goes_on-clause-unclosed c = λ _.
    let stop = c.in_ok-goes_on-in-Sat.ensures.stops (ap Ok c.if-not-goes_on.true) in
    subst (λ (s : Solving). Closes s.database.held → ⊥) (sym stop.3) (satisfied_is_open (assignment c.solve.new.self) c.solve.new.self.database.held (c.in_ok-solve.ensures.sat (ap Ok c.in-Sat.is)))

pub returns-then-not-goes_on-clause-wanted : goal.returns-then-not-goes_on-clause-wanted
returns-then-not-goes_on-clause-wanted c = λ _.
    let stop = c.in_ok-goes_on-in-Sat.ensures.stops (ap Ok c.if-not-goes_on.true) in
    inr (subst (λ (s : Solving). IsWanted c.args.system.now.sets (members c.args.faulty.now) c.args.greatest.now s.database.held) (sym stop.3) (c.in_ok-goes_on-in-Sat.ensures.wanted (ap Ok c.if-not-goes_on.true)))

pub lines-smaller : goal.lines-smaller
lines-smaller c =
    let f = c.args.system.now.sets in
    let b = members c.args.faulty.now in
    let g = c.args.greatest.now in
    let now = c.in_ok-solve.ensures in
    let other = not_refuted_sat c.in_ok-solve.field-0 c.in-Sat.is in
    let is = least_steps f b g c.args.budget.now c.lines.budget c.solve.new.budget c.lines.listed.items c.lines.solver c.solve.new.self c.lines.invariant now.log now.run now.lemmas now.units now.vars now.bounds now.short (now.open other) (now.room (λ e. other (cc))) now.kept in
    let falls = c.in_ok-goes_on-in-Sat.ensures.falls (ap Ok c.if-not-goes_on.false) c.args.budget.now is in
    let less : c.turn.new.budget + best_in g c.turn.new.listed.items < c.lines.budget + best_in g c.lines.listed.items = omega (arith, falls, now.units) in
    less

pub lines-preserved : goal.lines-preserved
lines-preserved c =
    let f = c.args.system.now.sets in
    let b = members c.args.faulty.now in
    let g = c.args.greatest.now in
    let now = c.in_ok-solve.ensures in
    let other = not_refuted_sat c.in_ok-solve.field-0 c.in-Sat.is in
    let is = least_steps f b g c.args.budget.now c.lines.budget c.solve.new.budget c.lines.listed.items c.lines.solver c.solve.new.self c.lines.invariant now.log now.run now.lemmas now.units now.vars now.bounds now.short (now.open other) (now.room (λ e. other (cc))) now.kept in
    c.in_ok-goes_on-in-Sat.ensures.goes_on (ap Ok c.if-not-goes_on.false) c.args.budget.now is
