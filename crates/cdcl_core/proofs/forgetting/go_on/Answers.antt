use Rattle.std.proofs.Common.{List, ℕ, Ok, ap, arith, refl, length}
use Rattle.cdcl_core.specs.declared.search.Search.{Search}
use Rattle.cdcl_core.specs.Searching.{HasLemma}
use Rattle.cdcl_core.proofs.Going.{further_on, learnt_further, learnt_nearer, nearer_after, no_further}
use Rattle.cdcl_core.proofs.Runs.{has_some}
use Rattle.cdcl_core.proofs.States.{state_on_variables}
use Rattle.cdcl_core.proofs.forgetting.go_on.Goals as goal

pub choose-requires-clause-few : goal.choose-requires-clause-few
choose-requires-clause-few c =
    let s = c.args.search.now in
    let state = c.requires.searching.state in
    let on = state_on_variables s.vars s.clauses s.assignment.trues s.reasons.items state in
    omega (arith, on.1, state.trail.long, ap (λ (ls : List ℕ). length ls) c.deref.ensures.value)

pub returns-in-Some-clause-further : goal.returns-in-Some-clause-further
returns-in-Some-clause-further c =
    let a = c.args.search.now in
    let left = c.args.left.now in
    further_on a (record a { memory = c.choose.new.self }) c.forget.new.search left left left (no_further a (record a { memory = c.choose.new.self }) left (record { vars = refl; last = refl; clauses = refl; log = refl }) c.requires.unrefuted.logging c.requires.unrefuted.still_open) (c.forget.ensures.further left)

pub returns-in-Some-clause-nearer : goal.returns-in-Some-clause-nearer
returns-in-Some-clause-nearer c =
    let a = c.args.search.now in
    nearer_after c.forget.result a (record a { memory = c.choose.new.self }) c.forget.new.search c.args.left.now c.args.left.now (record { vars = refl; last = refl; clauses = refl; log = refl; lemmas = c.choose.ensures.ids; deletions = c.choose.ensures.deletions }) (c.forget.ensures.nearer c.args.left.now)

pub returns-in_ok-learn-in-None-clause-further : goal.returns-in_ok-learn-in-None-clause-further
returns-in_ok-learn-in-None-clause-further c =
    let a = c.args.search.now in
    let m : Search = (record a { memory = c.choose.new.self }) in
    let made : HasLemma m c.learn.new.self c.args.lemma.now.lits.items c.args.lemma.now.hints.items = rw (c.deref-in-None.ensures.value, c.deref-in-None-2.ensures.value) at c.in_ok-learn-in-None.ensures.lemma in
    learnt_further a m c.learn.new.self c.restart.new.self c.args.lemma.now.lits.items c.args.lemma.now.hints.items (record { vars = refl; last = refl; clauses = refl; log = refl; lemmas = c.choose.ensures.ids; deletions = c.choose.ensures.deletions }) made c.restart.ensures.same c.requires.unrefuted c.requires.searching.state c.args.lemma.now.jump c.requires.backjump.learnt (has_some c.args.lemma.now.lits.items c.args.pair.first c.requires.backjump.asserting.first_in) (omega (arith, c.requires.room, c.requires.some)) (c.in_ok-gone.ensures.none (ap Ok c.in-None.is)) c.args.left.now c.requires.some

pub returns-in_ok-learn-in-None-clause-nearer : goal.returns-in_ok-learn-in-None-clause-nearer
returns-in_ok-learn-in-None-clause-nearer c =
    let a = c.args.search.now in
    let m : Search = (record a { memory = c.choose.new.self }) in
    let made : HasLemma m c.learn.new.self c.args.lemma.now.lits.items c.args.lemma.now.hints.items = rw (c.deref-in-None.ensures.value, c.deref-in-None-2.ensures.value) at c.in_ok-learn-in-None.ensures.lemma in
    learnt_nearer a m c.learn.new.self c.restart.new.self c.args.lemma.now.lits.items c.args.lemma.now.hints.items (record { vars = refl; last = refl; clauses = refl; log = refl; lemmas = c.choose.ensures.ids; deletions = c.choose.ensures.deletions }) made c.restart.ensures.same c.requires.unrefuted c.requires.searching.state c.args.lemma.now.jump c.requires.backjump.learnt (has_some c.args.lemma.now.lits.items c.args.pair.first c.requires.backjump.asserting.first_in) (omega (arith, c.requires.room, c.requires.some)) (c.in_ok-gone.ensures.none (ap Ok c.in-None.is)) c.args.left.now c.requires.some c.in_ok-learn-in-None.ensures.noted c.restart.ensures.searching
