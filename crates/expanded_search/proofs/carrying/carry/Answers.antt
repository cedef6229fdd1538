use Rattle.std.proofs.Common.{◌≡◌, ◌<◌, ℕ, length, Ok, refl, ap, ◌∙◌, subst, arith, rules}
use Rattle.lrat_text.specs.Lent.{lent_step}
use Rattle.expanded_search.specs.Carriers.{GoesOn}
use Rattle.expanded_search.specs.declared.carrying.Led.TheVariants.{On}
use Rattle.expanded_search.proofs.CarryLaws.{starts, goes_past, refutes_at, spent_at}
use Rattle.expanded_search.proofs.carrying.carry.Goals as goal

pub loop-place-init : goal.loop-place-init
loop-place-init c =
    let f = c.args.carrier.now in
    starts f.vars f.checker.database c.args.written.now c.requires.out c.last-2.ensures.none_above c.args.budget c.args.log.now f refl refl c.requires.ready c.requires.nothing c.requires.lemmas

pub loop-place-preserved : goal.loop-place-preserved
loop-place-preserved c =
    let f = c.args.carrier.now in
    let w = c.args.written.now in
    let l = c.loop-place in
    let n = c.carry_step.new in
    let s = lent_step c.step.result in
    let is : c.in_ok-led.led ≡ On = search rules in
    let goes : GoesOn w.cells.items c.last-2.result c.last.result s l.carrier l.left n.carrier n.left = c.in_ok-led.ensures.on (ap Ok is) in
    let from : GoesOn w.cells.items w.store.last c.last.result s l.carrier l.left n.carrier n.left = subst (λ (k : ℕ). GoesOn w.cells.items k c.last.result s l.carrier l.left n.carrier n.left) c.last-2.ensures.value goes in
    let to : GoesOn w.cells.items w.store.last f.checker.database.last s l.carrier l.left n.carrier n.left = subst (λ (k : ℕ). GoesOn w.cells.items w.store.last k s l.carrier l.left n.carrier n.left) c.last.ensures.value from in
    let within : l.place < length c.args.log.now = omega arith in
    goes_past f.vars f.checker.database w c.requires.out c.last-2.ensures.none_above c.args.budget c.args.log.now l.place s within c.step.ensures l.carrier l.left l.invariant n.carrier n.left to

pub returns-then-ne-clause-refuted : goal.returns-then-ne-clause-refuted
returns-then-ne-clause-refuted c = λ e.
    let f = c.args.carrier.now in
    let l = c.loop-place in
    let within : l.place < length c.args.log.now = omega arith in
    refutes_at f.vars f.checker.database c.args.written.now c.requires.out c.last-2.ensures.none_above c.args.budget c.args.log.now l.place (lent_step c.step.result) within c.step.ensures l.carrier l.left l.invariant
    c.carry_step.new.carrier (c.carry_step.ensures.refuted (c.in_ok-led.was ∙ e)) c.requires.bounded

pub returns-then-ne-clause-spent : goal.returns-then-ne-clause-spent
returns-then-ne-clause-spent c = λ e.
    let f = c.args.carrier.now in
    let l = c.loop-place in
    let within : l.place < length c.args.log.now = omega arith in
    spent_at f.vars f.checker.database c.args.written.now c.requires.out c.last-2.ensures.none_above c.args.budget c.args.log.now l.place (lent_step c.step.result) within c.step.ensures l.carrier l.left l.invariant
    c.carry_step.new.carrier (c.carry_step.ensures.spent (c.in_ok-led.was ∙ e)) (c.carry_step.ensures.log (c.in_ok-led.was ∙ e)) c.requires.bounded
