use Rattle.std.proofs.Common.{◌≡◌, ◌+◌, ◌*◌, ◌++◌, [], ◌∙◌, true, List, sym, ap, subst, arith, length, take, drop}
use Rattle.lrat_model.specs.Literal.{Literal, Plus}
use Rattle.cdcl_core.specs.declared.watches.Pair.{Pair}
use Rattle.cdcl_core.specs.Search.{IsState}
use Rattle.cardinality_counts.specs.Counts.{IsCounting}
use Rattle.cardinality_counts.proofs.Countings.{counting_more}
use Rattle.search_heuristics.specs.Open.{open_count}
use Rattle.cdcl_core.specs.Watches.{pair_at, AreKept, IsQueued, IsWatched}
use Rattle.cdcl_core.proofs.OpenCounts.{open_count-append}
use Rattle.cdcl_core.proofs.Runs.{written_back, each_id}
use Rattle.cdcl_core.proofs.search.Search.visit_watches.Goals as goal

pub propagate-requires-clause-propagating : goal.propagate-requires-clause-propagating
propagate-requires-clause-propagating c =
    let s = c.args.self.now in
    let was = c.requires.searching in
    rw was.vars (record {
      range = c.requires.holding.range;
      ids = each_id s.clauses s.last c.requires.holding.rise c.requires.holding.ids c.requires.room;
      state = was.state;
      long = was.lists;
    })

pub propagate-requires-clause-watched : goal.propagate-requires-clause-watched
propagate-requires-clause-watched c = λ l. subst (λ (ps : List Pair). IsWatched c.args.self.now.clauses ps c.args.self.now.lists l []) (sym c.deref_mut.ensures.value) (c.requires.searching.watched l)

pub propagate-requires-clause-queued : goal.propagate-requires-clause-queued
propagate-requires-clause-queued c = subst (λ (ps : List Pair). IsQueued c.args.self.now.clauses ps c.args.self.now.assignment.trues c.args.self.now.reasons.items c.args.self.now.head) (sym c.deref_mut.ensures.value) c.requires.searching.queued

pub returns-clause-searching : goal.returns-clause-searching
returns-clause-searching c =
    let s = c.args.self.now in
    let was = c.requires.searching in
    let did = c.in_ok-found.ensures in
    let new = c.propagate.new in
    let pairs_are : take s.pairs.len (new.pairs ++ drop (length new.pairs) s.pairs.items) ≡ new.pairs = written_back s.pairs.len new.pairs s.pairs.items ((did.watched (Plus 0)).long ∙ sym (was.watched (Plus 0)).long ∙ sym s.pairs.ok.0) in
    record {
      vars = did.vars ∙ was.vars;
      guide = was.guide;
      state = subst (λ k. IsState k s.clauses new.assignment.trues new.reasons.items) (did.vars ∙ was.vars) did.propagating.state;
      lists = did.propagating.long ∙ ap (λ k. 2 * (k + 1)) (did.vars ∙ was.vars);
      watched = λ l. subst (λ (ps : List Pair). IsWatched s.clauses ps new.lists l []) (sym pairs_are) (did.watched l);
      queued = subst (λ (ps : List Pair). IsQueued s.clauses ps new.assignment.trues new.reasons.items new.head) (sym pairs_are) did.queued;
      gated = record {
        counting = subst (λ (ls : List Literal). IsCounting s.gates ls) (sym did.longer.1) (counting_more s.gates s.assignment.trues did.longer.0 was.gated.counting);
        vars = was.gated.vars;
        covered = λ p within is. was.gated.covered p within
            (subst (λ (ps : List Pair). (pair_at ps p).is_counted ≡ true) c.deref_mut.ensures.value (did.counted p (subst (λ (ps : List Pair). (pair_at ps p).is_counted ≡ true) pairs_are is)));
      };
    }

pub returns-clause-counted : goal.returns-clause-counted
returns-clause-counted c = λ p is.
    let s = c.args.self.now in
    let was = c.requires.searching in
    let did = c.in_ok-found.ensures in
    let new = c.propagate.new in
    let pairs_are : take s.pairs.len (new.pairs ++ drop (length new.pairs) s.pairs.items) ≡ new.pairs = written_back s.pairs.len new.pairs s.pairs.items ((did.watched (Plus 0)).long ∙ sym (was.watched (Plus 0)).long ∙ sym s.pairs.ok.0) in
    subst (λ (ps : List Pair). (pair_at ps p).is_counted ≡ true) c.deref_mut.ensures.value (did.counted p (subst (λ (ps : List Pair). (pair_at ps p).is_counted ≡ true) pairs_are is))

pub returns-clause-kept : goal.returns-clause-kept
returns-clause-kept c = λ is.
    let s = c.args.self.now in
    let was = c.requires.searching in
    let did = c.in_ok-found.ensures in
    let new = c.propagate.new in
    let pairs_are : take s.pairs.len (new.pairs ++ drop (length new.pairs) s.pairs.items) ≡ new.pairs = written_back s.pairs.len new.pairs s.pairs.items ((did.watched (Plus 0)).long ∙ sym (was.watched (Plus 0)).long ∙ sym s.pairs.ok.0) in
    subst (λ (ps : List Pair). AreKept s.clauses ps new.assignment.trues new.assignment.trues) (sym pairs_are) (did.kept is)

pub returns-clause-fewer : goal.returns-clause-fewer
returns-clause-fewer c =
    let s = c.args.self.now in
    let did = c.in_ok-found.ensures in
    omega (arith, ap (λ (ls : List Literal). open_count ls s.vars) did.longer.1, open_count-append s.assignment.trues did.longer.0 s.vars)
