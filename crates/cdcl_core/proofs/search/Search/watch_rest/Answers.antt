use Rattle.std.proofs.Common.{◌≡◌, ◌<◌, ◌+◌, [], ◌∙◌, true, List, sym, ap, subst, arith, length, take, Ok}
use Rattle.lrat_model.specs.Literal.{Literal, Plus, has}
use Rattle.lrat_model.specs.Clauses.{Held, clause_at, with_clause}
use Rattle.cdcl_core.specs.Search.{IsState}
use Rattle.cdcl_core.specs.Searching.{IsSearching}
use Rattle.cdcl_core.specs.Trail.{IsVariable}
use Rattle.cdcl_core.specs.Watches.{IsQueued, IsWatched, id_at, lits_at}
use Rattle.std.proofs.lemmas.List.{take_all}
use Rattle.std.specs.Prelude.{All}
use Rattle.lrat_model.specs.Propagation.{status}
use Rattle.cardinality_counts.specs.Gates.{IsSet}
use Rattle.cardinality_counts.specs.Counts.{IsCounting}
use Rattle.cardinality_counts.proofs.Countings.{counting_more}
use Rattle.cdcl_core.specs.declared.watches.Pair.{Pair}
use Rattle.cdcl_core.proofs.GatedLaws.{AreCovered, covered_with}
use Rattle.cdcl_core.proofs.Fronts.{clause_at-take, front_below, state_more, take_next}
use Rattle.cdcl_core.proofs.Runs.{each_id}
use Rattle.cdcl_core.proofs.Same.{holding_same}
use Rattle.cdcl_core.proofs.search.Search.watch_rest.Goals as goal

pub watch_next-requires-clause-range : goal.watch_next-requires-clause-range
watch_next-requires-clause-range c = λ m h.
    let s = c.loop-place.self in
    let inv = c.loop-place.invariant in
    let p = c.loop-place.place in
    let all = holding_same c.args.self.now s inv.same c.requires.holding in
    let inside : p < length s.clauses = omega (arith, c.loop-place-test.true, c.len.ensures) in
    let at = (each_id s.clauses s.last all.rise all.ids (omega (arith, c.requires.room, inv.same.last)) p inside).2 in
    subst (λ k. IsVariable k m) (sym inv.searching.vars) (all.range (id_at s.clauses p) (lits_at s.clauses p) at m (subst (λ (ls : List Literal). has ls m ≡ true) c.lits-in-loop-place.ensures h))

pub returns-then-not-is_watched-clause-stuck : goal.returns-then-not-is_watched-clause-stuck
returns-then-not-is_watched-clause-stuck c = λ id is.
    let s = c.loop-place.self in
    let inv = c.loop-place.invariant in
    let p = c.loop-place.place in
    let own : c.id-id.result ≡ id = cc is in
    let lits = lits_at s.clauses p in
    let all = holding_same c.args.self.now s inv.same c.requires.holding in
    let inside : p < length s.clauses = omega (arith, c.loop-place-test.true, c.len.ensures) in
    let at = (each_id s.clauses s.last all.rise all.ids (omega (arith, c.requires.room, inv.same.last)) p inside).2 in
    let made = c.in_ok-is_watched.ensures in
    let false_there = made.conflict (ap Ok c.if-not-is_watched.true) in
    let new = c.watch_next.new in
    record {
      vars = made.vars ∙ inv.searching.vars;
      guide = inv.searching.guide;
      state = rw (false_there.1, false_there.2) (state_more s.vars (take p s.clauses) s.clauses (clause_at-take p s.clauses) s.assignment.trues s.reasons.items inv.searching.state inv.undecided);
      finds = (
        lits,
        ap (λ k. clause_at s.clauses k) (sym own ∙ c.id-id.ensures) ∙ at,
        ap (λ (ls : List Literal). status ls lits) false_there.1 ∙ ap (λ (ls : List Literal). status s.assignment.trues ls) (sym c.lits-in-loop-place.ensures) ∙ false_there.0,
      );
    }

pub returns-then-not-is_watched-clause-undecided : goal.returns-then-not-is_watched-clause-undecided
returns-then-not-is_watched-clause-undecided c = λ id is.
    let false_there = c.in_ok-is_watched.ensures.conflict (ap Ok c.if-not-is_watched.true) in
    rw (false_there.1, false_there.2) c.loop-place.invariant.undecided

pub loop-place-preserved : goal.loop-place-preserved
loop-place-preserved c =
    let s = c.loop-place.self in
    let inv = c.loop-place.invariant in
    let was = inv.searching in
    let p = c.loop-place.place in
    let id = c.id-id.result in
    let lits = c.lits-in-loop-place.result.now in
    let front = take p s.clauses in
    let all = holding_same c.args.self.now s inv.same c.requires.holding in
    let inside : p < length s.clauses = omega (arith, c.loop-place-test.true, c.len.ensures) in
    let next : take (p + 1) s.clauses ≡ with_clause front id lits = take_next s.clauses p inside ∙ ap (λ k. with_clause front k (lits_at s.clauses p)) (sym c.id-id.ensures) ∙ ap (λ (ls : List Literal). with_clause front id ls) (sym c.lits-in-loop-place.ensures) in
    let below : All (λ e. e.0 < id) front = subst (λ k. All (λ e. e.0 < k) front) (sym c.id-id.ensures) (front_below s.clauses all.rise p inside) in
    let made = c.in_ok-is_watched.ensures in
    let own : c.lits.result.now ≡ lits = c.lits.ensures ∙ sym c.lits-in-loop-place.ensures in
    let yes : Ok c.in_ok-is_watched.is_watched ≡ Ok true = ap Ok c.if-not-is_watched.false in
    let new = c.watch_next.new in
    let state = subst (λ k. IsState k front s.assignment.trues s.reasons.items) (sym was.vars) was.state in
    let long = (was.watched (Plus 0)).long in
    record {
      same = record { vars = inv.same.vars; last = inv.same.last; clauses = inv.same.clauses; log = inv.same.log; lemmas = inv.same.lemmas; deletions = inv.same.deletions };
      at = omega (arith, inv.at, made.pairs yes);
      searching = record {
        vars = made.vars ∙ was.vars;
        guide = was.guide;
        state = subst (λ (h : Held). IsState s.vars h new.assignment.trues new.reasons.items) (sym next) (subst (λ k. IsState k (with_clause front id lits) new.assignment.trues new.reasons.items) was.vars (made.state yes front below state));
        lists = made.lists ∙ was.lists;
        watched = λ l. subst (λ (h : Held). IsWatched h new.pairs.items new.lists l []) (sym next) (made.watched yes front (sym long) was.watched l);
        queued = subst (λ (h : Held). IsQueued h new.pairs.items new.assignment.trues new.reasons.items s.head) (sym next) (made.queued yes front s.head below state long was.queued);
        gated = record {
          counting = subst (λ (ls : List Literal). IsCounting s.gates ls) (sym (made.longer yes).1) (counting_more s.gates s.assignment.trues (made.longer yes).0 was.gated.counting);
          vars = was.gated.vars;
          covered = subst (λ (h : Held). AreCovered s.gates.gates.items h new.pairs.items) (sym next) (subst (λ (ps : List Pair). AreCovered s.gates.gates.items (with_clause front id lits) ps) (sym (made.counted yes).1)
              (covered_with s.gates.gates.items front s.pairs.items was.gated.covered long id lits (made.counted yes).0 (λ counted. subst (λ (ls : List Literal). IsSet s.gates.gates.items ls) own (c.is_set-is_set.ensures ((made.counted yes).2 counted)))));
        };
      };
      undecided = made.undecided yes;
    }

pub returns-clause-searching : goal.returns-clause-searching
returns-clause-searching c = λ _.
    let s = c.loop-place.self in
    let inv = c.loop-place.invariant in
    subst (λ (h : Held). IsSearching h s) (take_all c.loop-place.place s.clauses (omega (arith, c.loop-place-test.false, c.len.ensures))) inv.searching
