use Rattle.std.proofs.Common.{◌≡◌, ◌≢◌, ℕ, sym, ap, subst, arith, Ok}
use Rattle.node_json.specs.Groups.{tables_of}
use Rattle.cdcl_core.specs.Solving.{assignment}
use Rattle.cdcl_core.specs.declared.run.Verdict.{Verdict}
use Rattle.group_lists.specs.Search.{IsGroupListing}
use Rattle.blocking_lists.proofs.Models.{satisfied_is_open}
use Rattle.blocking_lists.proofs.Searches.{empty_stays}
use Rattle.group_lists.proofs.Listings.{group_steps, group_refuted}
use Rattle.group_lists.proofs.search.run.Goals as goal

not_refuted_spent : (v : Verdict) → v ≡ Verdict.Spent → v ≢ Verdict.Unsat
not_refuted_spent v e h = cc

not_refuted_sat : (v : Verdict) → v ≡ Verdict.Sat → v ≢ Verdict.Unsat
not_refuted_sat v e h = cc

pub returns-in-Unsat-clause-whole : goal.returns-in-Unsat-clause-whole
returns-in-Unsat-clause-whole c = λ _.
    let now = c.in_ok-solve.ensures in
    group_refuted c.args.searched.now.system.now.sets c.args.searched.now.faulty.now (tables_of c.args.searched.now.groups.now) c.args.budget.now c.lines.budget c.solve.new.budget c.lines.listed.items c.lines.solver c.solve.new.self c.lines.invariant now.log now.run now.lemmas now.units now.vars now.bounds now.short (now.unsat (ap Ok c.in-Unsat.is))

pub returns-in-Spent-clause-part : goal.returns-in-Spent-clause-part
returns-in-Spent-clause-part c = λ _.
    let now = c.in_ok-solve.ensures in
    let other = not_refuted_spent c.in_ok-solve.field-0 c.in-Spent.is in
    group_steps c.args.searched.now.system.now.sets c.args.searched.now.faulty.now (tables_of c.args.searched.now.groups.now) c.args.budget.now c.lines.budget c.solve.new.budget c.lines.listed.items c.lines.solver c.solve.new.self c.lines.invariant now.log now.run now.lemmas now.units now.vars now.bounds now.short (now.open other) (now.room (λ e. other (cc))) (empty_stays c.lines.solver c.solve.new.self now.kept)

pub returns-then-left-eq0-clause-part : goal.returns-then-left-eq0-clause-part
returns-then-left-eq0-clause-part c = λ _.
    let now = c.in_ok-solve.ensures in
    let other = not_refuted_sat c.in_ok-solve.field-0 c.in-Sat.is in
    group_steps c.args.searched.now.system.now.sets c.args.searched.now.faulty.now (tables_of c.args.searched.now.groups.now) c.args.budget.now c.lines.budget c.solve.new.budget c.lines.listed.items c.lines.solver c.solve.new.self c.lines.invariant now.log now.run now.lemmas now.units now.vars now.bounds now.short (now.open other) (now.room (λ e. other (cc))) (empty_stays c.lines.solver c.solve.new.self now.kept)

pub returns-then-left-eq0-clause-unclosed : goal.returns-then-left-eq0-clause-unclosed
returns-then-left-eq0-clause-unclosed c = λ _. satisfied_is_open (assignment c.solve.new.self) c.solve.new.self.database.held (c.in_ok-solve.ensures.sat (ap Ok c.in-Sat.is))

pub lines-preserved : goal.lines-preserved
lines-preserved c =
    let f = c.args.searched.now.system.now.sets in
    let b = c.args.searched.now.faulty.now in
    let gs = tables_of c.args.searched.now.groups.now in
    let total = c.args.budget.now in
    let now = c.in_ok-solve.ensures in
    let other = not_refuted_sat c.in_ok-solve.field-0 c.in-Sat.is in
    let is = group_steps f b gs total c.lines.budget c.solve.new.budget c.lines.listed.items c.lines.solver c.solve.new.self c.lines.invariant now.log now.run now.lemmas now.units now.vars now.bounds now.short (now.open other) (now.room (λ e. other (cc))) (empty_stays c.lines.solver c.solve.new.self now.kept) in
    c.in_ok-turn-in-Sat.ensures.goes_on total c.take.new.self (omega (arith, c.requires.room)) (subst (λ (n : ℕ). IsGroupListing f b gs total n c.lines.listed.items c.solve.new.self) (sym c.take.ensures) is)
