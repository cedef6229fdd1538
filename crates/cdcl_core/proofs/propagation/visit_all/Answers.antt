use Rattle.std.proofs.Common.{◌≡◌, ◌≤◌, ◌<◌, ◌+◌, ◌++◌, ◌∷◌, [], ℕ, List, take, drop, length, sym, ap, ◌∙◌, subst, arith, append_assoc}
use Rattle.std.specs.Global.{Vec}
use Rattle.std.proofs.lemmas.List.{drop_all, drop_more, drop-set-lt, take_more_set, length-set}
use Rattle.lrat_model.specs.Literal.{Literal}
use Rattle.cdcl_core.specs.Fixpoint.{IsConflict}
use Rattle.cdcl_core.specs.declared.watches.Watch.{Watch}
use Rattle.cdcl_core.specs.Watches.{IsVisiting}
use Rattle.cdcl_core.proofs.propagation.visit_all.Goals.{in-Stays, in-Goes}
use Rattle.cdcl_core.proofs.propagation.visit_all.Goals as goal

pub visit-requires-clause-visiting : goal.visit-requires-clause-visiting
visit-requires-clause-visiting c =
    let s = c.loop-i in
    let w = c.index-watch.result.now in
    let given = c.requires.visiting in
    let at : drop s.i s.list.items ≡ w ∷ drop (s.i + 1) s.list.items = drop_more s.list.items s.i w (omega (arith, c.loop-i-test.true, c.len.ensures, s.list.ok.0)) ∙ ap (λ (x : Watch). x ∷ drop (s.i + 1) s.list.items) (sym c.index-watch.ensures) in
    let now = subst (λ (ws : List Watch). IsVisiting c.args.clauses.now s.pairs s.lists s.assignment.trues s.reasons.items given.0 c.args.l (take s.kept s.list.items) ws) at (s.invariant.visiting given.0 given.1) in
    (given.0, take s.kept s.list.items, drop (s.i + 1) s.list.items, now)

pub loop-i-preserved : goal.loop-i-preserved
loop-i-preserved c =
    let held = c.args.clauses.now in
    let s = c.loop-i in
    let inv = s.invariant in
    let w = c.index-watch.result.now in
    let did = c.in_ok-blocker.ensures in
    let br = c.match-branch-2 in
    let done = take s.kept s.list.items in
    let coming = drop (s.i + 1) s.list.items in
    let at : drop s.i s.list.items ≡ w ∷ coming = drop_more s.list.items s.i w (omega (arith, c.loop-i-test.true, c.len.ensures, s.list.ok.0)) ∙ ap (λ (x : Watch). x ∷ coming) (sym c.index-watch.ensures) in
    let Begun = λ (head : ℕ). IsVisiting held c.args.pairs.now c.args.lists.now c.args.assignment.now.trues c.args.reasons.now.items head c.args.l [] c.args.list.now.items in
    let before : (head : ℕ) → Begun head → IsVisiting held s.pairs s.lists s.assignment.trues s.reasons.items head c.args.l done (w ∷ coming) =
    λ head begun. subst (λ (ws : List Watch). IsVisiting held s.pairs s.lists s.assignment.trues s.reasons.items head c.args.l done ws) at (inv.visiting head begun) in
    let Now = λ (head : ℕ) (done coming : List Watch). IsVisiting held c.visit.new.pairs c.visit.new.lists c.visit.new.assignment.trues c.visit.new.reasons.items head c.args.l done coming in
    let both : (br.kept ≤ s.i + 1) × (s.i + 1 ≤ length br.list.items) × ((head : ℕ) → Begun head → Now head (take br.kept br.list.items) (drop (s.i + 1) br.list.items)) = elim br.branch [
      | in-Stays b ↦
          let now : Watch = record { place = w.place; blocker = b.in-Stays.blocker; third = b.in-Stays.third } in
          let made : (head : ℕ) → Begun head → Now head (done ++ now ∷ []) coming = λ head begun. did.stays b.in-Stays.blocker b.in-Stays.third (cc b.in-Stays.is) head done coming (before head begun) in
          let room : s.kept < length s.list.items = omega (arith, inv.below, c.loop-i-test.true, c.len.ensures, s.list.ok.0) in
          let front : take br.kept br.list.items ≡ done ++ now ∷ [] = ap (λ k. take k br.list.items) b.kept-is ∙ ap (λ (v : Vec Watch). take (s.kept + 1) v.items) b.list-is ∙ take_more_set s.list.items s.kept now room in
          let rest : drop (s.i + 1) br.list.items ≡ coming = ap (λ (v : Vec Watch). drop (s.i + 1) v.items) b.list-is ∙ drop-set-lt (s.i + 1) s.list.items s.kept now (omega (arith, inv.below)) in (
            omega (arith, b.kept-is, inv.below),
            omega (arith, ap (λ (v : Vec Watch). length v.items) b.list-is, length-set s.list.items s.kept now, c.loop-i-test.true, c.len.ensures, s.list.ok.0),
            λ head begun. subst (λ (ws : List Watch). Now head ws (drop (s.i + 1) br.list.items)) (sym front) (subst (λ (ws : List Watch). Now head (done ++ now ∷ []) ws) (sym rest) (made head begun)),
          )
      | in-Goes b ↦
          let made : (head : ℕ) → Begun head → Now head done coming = λ head begun. did.goes (cc b.in-Goes.is) head done coming (before head begun) in
          let front : take br.kept br.list.items ≡ done = ap (λ k. take k br.list.items) b.kept-is ∙ ap (λ (v : Vec Watch). take s.kept v.items) b.list-is in
          let rest : drop (s.i + 1) br.list.items ≡ coming = ap (λ (v : Vec Watch). drop (s.i + 1) v.items) b.list-is in (
            omega (arith, b.kept-is, inv.below),
            omega (arith, ap (λ (v : Vec Watch). length v.items) b.list-is, c.loop-i-test.true, c.len.ensures, s.list.ok.0),
            λ head begun. subst (λ (ws : List Watch). Now head ws (drop (s.i + 1) br.list.items)) (sym front) (subst (λ (ws : List Watch). Now head done ws) (sym rest) (made head begun)),
          )
    ] in
    record {
      below = both.0;
      within = both.1;
      vars = did.vars ∙ inv.vars;
      propagating = did.propagating;
      longer = (inv.longer.0 ++ did.longer.0, did.longer.1 ∙ ap (λ (ls : List Literal). ls ++ did.longer.0) inv.longer.1 ∙ append_assoc c.args.assignment.now.trues inv.longer.0 did.longer.0);
      counted = λ p is. inv.counted p (did.counted p is);
      visiting = both.2;
    }

pub returns-in-Conflict-clause-conflict : goal.returns-in-Conflict-clause-conflict
returns-in-Conflict-clause-conflict c = λ id is.
    let given = c.requires.visiting in
    let v = c.loop-i.invariant.visiting given.0 given.1 in
    let own : c.in-Conflict.id ≡ id = cc is in
    let found = c.in_ok-blocker.ensures.conflict c.in-Conflict.id (cc c.in-Conflict.is) in
    (subst (λ k. IsConflict c.args.clauses.now c.visit.new.assignment.trues k) own found.0, rw (found.1, found.2, c.close.ensures.items) v.watched, rw found.2 v.taken_out)

pub returns-in-Conflict-clause-queued : goal.returns-in-Conflict-clause-queued
returns-in-Conflict-clause-queued c = λ id head is begun.
    let found = c.in_ok-blocker.ensures.conflict c.in-Conflict.id (cc c.in-Conflict.is) in
    rw (found.1, found.3, found.4) (c.loop-i.invariant.visiting head begun).queued

pub returns-clause-visited : goal.returns-clause-visited
returns-clause-visited c = λ _ head begun.
    let s = c.loop-i in
    let none : drop s.i s.list.items ≡ [] = drop_all s.i s.list.items (omega (arith, c.loop-i-test.false, c.len.ensures, s.list.ok.0)) in
    rw (c.truncate.ensures.items, ← none) (s.invariant.visiting head begun)
