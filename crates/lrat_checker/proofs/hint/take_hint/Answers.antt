use Rattle.std.proofs.Common.{◌≡◌, ◌∷◌, sym, Some, w64, rules}
use mir.Val.{SFits}
use Rattle.std.proofs.lemmas.Int.{to_z-of_z}
use Rattle.lrat_checker.specs.Hints.{id_of}
use Rattle.lrat_checker.proofs.StatusLaws.{forced_there, forced_open}
use Rattle.lrat_checker.proofs.RangeLaws.{range_of, range_at}
use Rattle.lrat_checker.proofs.HintLaws.{takes_more, takes_none}
use Rattle.lrat_checker.proofs.hint.take_hint.Goals as goal

pub status-requires : goal.status-requires
status-requires c = range_at c.args.assignment.now.vars c.args.store.now.held c.in-Some.id c.in-Some-lits.clause.now c.requires (sym c.in-Some-lits.ensures)

pub force-requires-clause-range : goal.force-requires-clause-range
force-requires-clause-range c =
    range_of c.args.assignment.now.vars c.in-Some-lits.clause.now c.in-Forces.l (range_at c.args.assignment.now.vars c.args.store.now.held c.in-Some.id c.in-Some-lits.clause.now c.requires (sym c.in-Some-lits.ensures))
    (forced_there c.args.assignment.now.trues c.in-Some-lits.clause.now c.in-Forces.l (sym c.in-Forces.ensures))

pub force-requires-clause-consistent : goal.force-requires-clause-consistent
force-requires-clause-consistent c = forced_open c.args.assignment.now.trues c.in-Some-lits.clause.now c.in-Forces.l (sym c.in-Forces.ensures)

pub returns-in-Forces-clause-outcome : goal.returns-in-Forces-clause-outcome
returns-in-Forces-clause-outcome c =
    let old = c.args.assignment.now.trues in
    let fits : SFits w64 c.args.hint = search rules in
    let names : Some c.in-Some.id ≡ id_of c.args.hint = simp to_z-of_z at c.in-Some.ensures in (
      c.in-Forces.l ∷ old,
      takes_more c.args.store.now.held old c.args.place c.in-Some.id c.args.hint c.in-Some-lits.clause.now c.in-Forces.l names c.in-Some-lits.ensures c.in-Forces.ensures,
      c.force.ensures.trues,
    )

pub returns-in-Unresolved-clause-outcome : goal.returns-in-Unresolved-clause-outcome
returns-in-Unresolved-clause-outcome c =
    let fits : SFits w64 c.args.hint = search rules in
    let names : Some c.in-Some.id ≡ id_of c.args.hint = simp to_z-of_z at c.in-Some.ensures in
    takes_none c.args.store.now.held c.args.assignment.now.trues c.args.place c.in-Some.id c.args.hint c.in-Some-lits.clause.now names c.in-Some-lits.ensures c.in-Unresolved.ensures
