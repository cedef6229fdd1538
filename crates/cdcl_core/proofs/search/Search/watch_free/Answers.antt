use Rattle.std.proofs.Common.{◌≡◌, ◌<◌, ◌≤◌, ◌+◌, [], ◌∙◌, true, List, refl, sym, ap, subst, arith, length, take}
use Rattle.lrat_model.specs.Literal.{Literal, Plus, has, variable_of}
use Rattle.lrat_model.specs.Clauses.{Held, with_clause}
use Rattle.cdcl_core.specs.declared.watches.Pair.{Pair}
use Rattle.cdcl_core.specs.Search.{IsState}
use Rattle.cdcl_core.specs.Watches.{index_of, IsQueued, IsWatched, id_at, lits_at}
use Rattle.cdcl_core.proofs.FreePairs.{free_queued, free_state, pair_for_either, pair_for_counted, pair_for_second}
use Rattle.cdcl_core.proofs.GatedLaws.{AreCovered, covered_with}
use Rattle.cdcl_core.proofs.Fronts.{take_next}
use Rattle.cdcl_core.proofs.Moves.{clause_variable}
use Rattle.cdcl_core.proofs.Visits.{index_within}
use Rattle.cdcl_core.proofs.search.Search.watch_free.Goals as goal

pub two_free-requires : goal.two_free-requires
two_free-requires c = λ m h. subst (λ k. variable_of m ≤ k) (sym c.requires.searching.vars) (clause_variable c.args.self.now c.requires.holding (omega (arith, c.requires.room)) c.args.place c.requires.place m (subst (λ (ls : List Literal). has ls m ≡ true) c.lits-lits.ensures h)).1

pub attach-requires-clause-inside_first : goal.attach-requires-clause-inside_first
attach-requires-clause-inside_first c =
    let s = c.args.self.now in
    let some = c.in-Two.ensures.two c.in-Two.first c.in-Two.second refl in
    subst (λ k. index_of k < length s.lists) (sym c.pair_for-pair.ensures.first)
    (index_within c.in-Two.first s.vars (length s.lists) (clause_variable s c.requires.holding (omega (arith, c.requires.room)) c.args.place c.requires.place c.in-Two.first (subst (λ (ls : List Literal). has ls c.in-Two.first ≡ true) c.lits-lits.ensures some.0)).1 c.requires.searching.lists)

pub attach-requires-clause-inside_second : goal.attach-requires-clause-inside_second
attach-requires-clause-inside_second c =
    let s = c.args.self.now in
    let some = c.in-Two.ensures.two c.in-Two.first c.in-Two.second refl in
    let says = c.pair_for-pair.ensures in
    pair_for_second c.in-Two.first c.in-Two.second c.pair_for-pair.result says.first says.second says.counted (λ k. index_of k < length s.lists)
    (index_within c.in-Two.first s.vars (length s.lists) (clause_variable s c.requires.holding (omega (arith, c.requires.room)) c.args.place c.requires.place c.in-Two.first (subst (λ (ls : List Literal). has ls c.in-Two.first ≡ true) c.lits-lits.ensures some.0)).1 c.requires.searching.lists)
    (index_within c.in-Two.second s.vars (length s.lists) (clause_variable s c.requires.holding (omega (arith, c.requires.room)) c.args.place c.requires.place c.in-Two.second (subst (λ (ls : List Literal). has ls c.in-Two.second ≡ true) c.lits-lits.ensures some.1)).1 c.requires.searching.lists)

pub returns-in_ok-attach-in-Two-clause-watched : goal.returns-in_ok-attach-in-Two-clause-watched
returns-in_ok-attach-in-Two-clause-watched c = λ _.
    let s = c.args.self.now in
    let p = c.args.place in
    let was = c.requires.searching in
    let front = take p s.clauses in
    let id = id_at s.clauses p in
    let lits = c.lits-lits.result.now in
    let a = c.in-Two.first in
    let b = c.in-Two.second in
    let pair = c.pair_for-pair.result in
    let says = c.pair_for-pair.ensures in
    let some = c.in-Two.ensures.two c.in-Two.first c.in-Two.second refl in
    let made = c.in_ok-attach-in-Two.ensures in
    let long : length s.pairs.items ≡ length front = (was.watched (Plus 0)).long in
    let next : take (p + 1) s.clauses ≡ with_clause front id lits = take_next s.clauses p c.requires.place ∙ ap (λ (ls : List Literal). with_clause front id ls) (sym c.lits-lits.ensures) in
    let watched = made.watched front id (sym long ∙ sym c.requires.next) (ap (λ k. has lits k) says.first ∙ some.0)
    (pair_for_second a b pair says.first says.second says.counted (λ k. has lits k ≡ true) some.0 some.1)
    (pair_for_counted a b pair says.first says.second says.counted) was.watched in
    record {
      vars = was.vars;
      guide = was.guide;
      state = subst (λ (h : Held). IsState s.vars h s.assignment.trues s.reasons.items) (sym next) (free_state s.vars front s.assignment.trues s.reasons.items was.state id lits s.pairs.items pair s.head long was.queued a b some.2 some.3 some.4 some.0 some.1);
      lists = made.lists ∙ was.lists;
      watched = λ l. subst (λ (h : Held). IsWatched h c.attach.new.pairs.items c.attach.new.lists l []) (sym next) (watched l);
      queued = subst (λ (h : Held). IsQueued h c.attach.new.pairs.items s.assignment.trues s.reasons.items s.head) (sym next) (subst (λ (ps : List Pair). IsQueued (with_clause front id lits) ps s.assignment.trues s.reasons.items s.head) (sym made.pairs) (free_queued s.vars front s.assignment.trues s.reasons.items was.state id lits s.pairs.items pair s.head long was.queued a b some.2 some.3 some.4 (pair_for_either a b pair says.first says.second says.counted)));
      gated = record {
        counting = was.gated.counting;
        vars = was.gated.vars;
        covered = subst (λ (h : Held). AreCovered s.gates.gates.items h c.attach.new.pairs.items) (sym next) (subst (λ (ps : List Pair). AreCovered s.gates.gates.items (with_clause front id lits) ps) (sym made.pairs)
            (covered_with s.gates.gates.items front s.pairs.items was.gated.covered long id lits pair (λ counted. c.is_set-is_set.ensures (sym says.counted ∙ counted))));
      };
    }
