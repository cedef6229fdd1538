use Rattle.std.proofs.Common.{◌≡◌, ◌++◌, ◌∷◌, [], ◌∙◌, false, List, ap, subst, sym, arith, refl, length}
use Rattle.std.specs.Prelude.{slice_set}
use Rattle.std.proofs.lemmas.List.{length-set}
use Rattle.lrat_model.specs.Clauses.{clause_at}
use Rattle.lrat_model.specs.Propagation.{status}
use Rattle.lrat_model.specs.declared.step.ClauseStatus.TheVariants.{Forces}
use Rattle.cdcl_core.proofs.States.{state_push}
use Rattle.cdcl_core.specs.declared.watches.Watch.{Watch}
use Rattle.cdcl_core.specs.Watches.{index_of, list_at, lits_at, id_at, IsVisiting}
use Rattle.cdcl_core.proofs.Visits.{sound_next, visiting_true, visiting_stale, visiting_moved, visiting_push, counted_set, index_within}
use Rattle.cdcl_core.proofs.Queues.{visiting_false}
use Rattle.lrat_model.proofs.Literals.{has-push, has-first}
use Rattle.cdcl_core.proofs.Forced.{forces_only, falsified_all}
use Rattle.cdcl_core.proofs.visit.visit.Goals as goal

pub look-requires-clause-range : goal.look-requires-clause-range
look-requires-clause-range c = λ m h. (c.requires.propagating.range (id_at c.args.clauses.now c.args.watch.place) (lits_at c.args.clauses.now c.args.watch.place) (c.requires.propagating.ids c.args.watch.place (sound_next c.requires.visiting).0).2 m h).1

pub look-requires-clause-sound : goal.look-requires-clause-sound
look-requires-clause-sound c = sound_next c.requires.visiting

pub look-requires-clause-long : goal.look-requires-clause-long
look-requires-clause-long c = c.requires.visiting.3.watched.long

pub look-requires-clause-false_now : goal.look-requires-clause-false_now
look-requires-clause-false_now c =
    let v = c.requires.visiting in
    visiting_false c.args.clauses.now c.args.pairs.now c.args.lists.now c.args.assignment.now.trues c.args.reasons.now.items v.0 c.args.l v.1 (c.args.watch ∷ v.2) v.3

pub look-requires-clause-inside : goal.look-requires-clause-inside
look-requires-clause-inside c = c.requires.visiting.3.watched.inside c.args.watch.place (sound_next c.requires.visiting).0

pub returns-in-Holds-clause-stays : goal.returns-in-Holds-clause-stays
returns-in-Holds-clause-stays c = λ b t is head done coming v.
    let own : c.in-Holds.blocker ≡ b = cc is in
    let own_third : c.in-Holds.third ≡ t = cc is in
    let seen = c.in-Holds.ensures in
    let made = visiting_true c.args.clauses.now c.args.pairs.now c.args.lists.now c.args.assignment.now.trues c.args.reasons.now.items head c.args.l done coming c.args.watch v c.in-Holds.blocker c.in-Holds.third seen.0 seen.1 seen.2 in
    rw (← own, ← own_third) made

pub returns-in-Stale-clause-goes : goal.returns-in-Stale-clause-goes
returns-in-Stale-clause-goes c = λ is head done coming v.
    visiting_stale c.args.clauses.now c.args.pairs.now c.args.lists.now c.args.assignment.now.trues c.args.reasons.now.items head c.args.l done coming c.args.watch v c.in-Stale.ensures

pub returns-in_ok-push-in-Moves-clause-goes : goal.returns-in_ok-push-in-Moves-clause-goes
returns-in_ok-push-in-Moves-clause-goes c = λ is head done coming v.
    let seen = c.in-Moves.ensures in
    let o = c.in-Moves.other in
    let m = c.in-Moves.free in
    let place = c.args.watch.place in
    subst (λ (ls : List (List Watch)). IsVisiting c.args.clauses.now (slice_set c.args.pairs.now place (record { first = o; second = m; is_counted = false })) ls c.args.assignment.now.trues c.args.reasons.now.items head c.args.l done coming) (sym c.in_ok-push-in-Moves.ensures)
    (visiting_moved c.args.clauses.now c.args.pairs.now c.args.lists.now c.args.assignment.now.trues c.args.reasons.now.items head c.args.l done coming c.args.watch v o m c.in-Moves.blocker c.in-Moves.third (visiting_false c.args.clauses.now c.args.pairs.now c.args.lists.now c.args.assignment.now.trues c.args.reasons.now.items head c.args.l done (c.args.watch ∷ coming) v)
    seen.0 seen.1 seen.2 seen.3 seen.4 seen.5 seen.6
    (index_within m c.args.assignment.now.vars (length c.args.lists.now) (c.requires.propagating.range (id_at c.args.clauses.now place) (lits_at c.args.clauses.now place) (c.requires.propagating.ids place (sound_next c.requires.visiting).0).2 m seen.2).1 c.requires.propagating.long))

pub returns-in_ok-push-in-Moves-clause-propagating : goal.returns-in_ok-push-in-Moves-clause-propagating
returns-in_ok-push-in-Moves-clause-propagating c =
    let p = c.requires.propagating in
    let m = c.in-Moves.free in
    let lists = c.args.lists.now in
    record {
      range = p.range;
      ids = p.ids;
      state = p.state;
      long = ap (λ (xs : List (List Watch)). length xs) c.in_ok-push-in-Moves.ensures ∙ length-set lists (index_of m) (list_at lists m ++ record { place = c.args.watch.place; blocker = c.in-Moves.blocker; third = c.in-Moves.third } ∷ []) ∙ p.long;
    }

pub returns-in_ok-push-in-Moves-clause-counted : goal.returns-in_ok-push-in-Moves-clause-counted
returns-in_ok-push-in-Moves-clause-counted c = counted_set c.args.pairs.now c.args.watch.place (record { first = c.in-Moves.other; second = c.in-Moves.free; is_counted = false }) (omega (arith, c.requires.visiting.3.watched.long, (sound_next c.requires.visiting).0)) refl

pub push-requires : goal.push-requires
push-requires c =
    let place = c.args.watch.place in
    let m = c.in-Moves.free in
    index_within m c.args.assignment.now.vars (length c.args.lists.now) (c.requires.propagating.range (id_at c.args.clauses.now place) (lits_at c.args.clauses.now place) (c.requires.propagating.ids place (sound_next c.requires.visiting).0).2 m c.in-Moves.ensures.2).1 c.requires.propagating.long

pub returns-in_ok-push-in-Forces-clause-propagating : goal.returns-in_ok-push-in-Forces-clause-propagating
returns-in_ok-push-in-Forces-clause-propagating c =
    let p = c.requires.propagating in
    let place = c.args.watch.place in
    let held = c.args.clauses.now in
    let lits = lits_at held place in
    let trues = c.args.assignment.now.trues in
    let o = c.in-Forces.forced in
    let seen = c.in-Forces.ensures in
    let ids = c.requires.propagating.ids place (sound_next c.requires.visiting).0 in
    let says : status trues lits ≡ Forces o = forces_only trues lits o seen.0 seen.2 seen.3 in
    let state = state_push c.args.assignment.now.vars held trues c.args.reasons.now.items c.requires.propagating.state (id_at held place) lits o ids.2 says seen.1 (c.requires.propagating.range (id_at held place) lits ids.2 o seen.0) ids.0 ids.1 in
    rw (c.make_true.ensures.vars, c.make_true.ensures.trues, c.in_ok-push-in-Forces.ensures.items, c.id-id.ensures) (record { range = p.range; ids = p.ids; state = state; long = p.long })

pub returns-in_ok-push-in-Forces-clause-stays : goal.returns-in_ok-push-in-Forces-clause-stays
returns-in_ok-push-in-Forces-clause-stays c = λ b t is head done coming v.
    let own : c.in-Forces.forced ≡ b = cc is in
    let own_third : c.in-Forces.third ≡ t = cc is in
    let place = c.args.watch.place in
    let held = c.args.clauses.now in
    let trues = c.args.assignment.now.trues in
    let o = c.in-Forces.forced in
    let seen = c.in-Forces.ensures in
    let ids = c.requires.propagating.ids place (sound_next c.requires.visiting).0 in
    let pushed = visiting_push held c.args.pairs.now c.args.lists.now trues c.args.reasons.now.items head c.args.l done (c.args.watch ∷ coming) v c.requires.propagating.state.trail.long o (id_at held place) (λ none. absurd (omega (arith, ids.0, none))) in
    let made = visiting_true held c.args.pairs.now c.args.lists.now (trues ++ o ∷ []) (c.args.reasons.now.items ++ id_at held place ∷ []) head c.args.l done coming c.args.watch pushed o c.in-Forces.third seen.0 (has-push trues o o ∙ has-first o trues) seen.4 in
    rw (c.make_true.ensures.trues, c.in_ok-push-in-Forces.ensures.items, c.id-id.ensures, ← own, ← own_third) made

pub id-requires : goal.id-requires
id-requires c = (sound_next c.requires.visiting).0

pub returns-in-Fails-clause-conflict : goal.returns-in-Fails-clause-conflict
returns-in-Fails-clause-conflict c = λ id is.
    let own : c.id.result ≡ id = cc is in
    let place = c.args.watch.place in
    let lits = lits_at c.args.clauses.now place in
    let trues = c.args.assignment.now.trues in
    let at = (c.requires.propagating.ids place (sound_next c.requires.visiting).0).2 in
    ((lits, ap (λ k. clause_at c.args.clauses.now k) (sym own ∙ c.id.ensures) ∙ at, falsified_all trues lits c.in-Fails.ensures), refl, refl, refl, refl)
