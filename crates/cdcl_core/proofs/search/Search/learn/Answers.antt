use Rattle.std.proofs.Common.{◌≡◌, ◌≤◌, ◌+◌, ◌∙◌, ◌∷◌, [], Bool, true, List, length, sym, subst, ap, arith}
use Rattle.std.proofs.lemmas.Bool.{false≢true}
use Rattle.lrat_model.specs.Literal.{Plus, variable_of}
use Rattle.lrat_model.specs.Clauses.{Held}
use Rattle.cardinality_counts.proofs.Countings.{counting_more}
use Rattle.cdcl_core.specs.declared.watches.Watch.{Watch}
use Rattle.cdcl_core.proofs.GatedLaws.{covered_with}
use Rattle.cdcl_core.proofs.Lemmas.{first_open, lemma_state, lemma_queued, clause_at-last}
use Rattle.cdcl_core.proofs.Moves.{searching_guided}
use Rattle.cdcl_core.proofs.Pushes.{negates_in_range}
use Rattle.cdcl_core.proofs.Runs.{below_next}
use Rattle.cdcl_core.proofs.Visits.{index_within}
use Rattle.cdcl_core.proofs.search.Search.learn.Goals as goal

pub go_to-requires-clause-searching : goal.go_to-requires-clause-searching
go_to-requires-clause-searching c =
    let s = c.args.self.now in
    let was = c.requires.searching in
    (s.clauses, searching_guided s.clauses s c.cost_of-cost.new.self (record { ordered = c.cost_of-cost.ensures.order ∙ was.guide.ordered; marked = ap (λ (marks : List Bool). length marks) c.cost_of-cost.ensures.marks ∙ was.guide.marked }) was)

pub attach-requires-clause-inside_first : goal.attach-requires-clause-inside_first
attach-requires-clause-inside_first c =
    let s = c.args.self.now in
    index_within c.args.pair.first s.vars (length c.go_to.new.self.lists) (negates_in_range s.vars s.assignment.trues c.args.lits.now c.requires.searching.state.range c.requires.backjump.learnt.negates c.args.pair.first c.requires.backjump.asserting.first_in).1 (ap (λ (xs : List (List Watch)). length xs) c.go_to.ensures.lists ∙ c.requires.searching.lists)

pub attach-requires-clause-inside_second : goal.attach-requires-clause-inside_second
attach-requires-clause-inside_second c =
    let s = c.args.self.now in
    index_within c.args.pair.second s.vars (length c.go_to.new.self.lists) (negates_in_range s.vars s.assignment.trues c.args.lits.now c.requires.searching.state.range c.requires.backjump.learnt.negates c.args.pair.second c.requires.backjump.asserting.second_in).1 (ap (λ (xs : List (List Watch)). length xs) c.go_to.ensures.lists ∙ c.requires.searching.lists)

pub make_true-requires-clause-range : goal.make_true-requires-clause-range
make_true-requires-clause-range c =
    let s = c.args.self.now in
    subst (λ k. variable_of c.args.pair.first ≤ k) (sym (c.go_to.ensures.assigned ∙ c.requires.searching.vars)) (negates_in_range s.vars s.assignment.trues c.args.lits.now c.requires.searching.state.range c.requires.backjump.learnt.negates c.args.pair.first c.requires.backjump.asserting.first_in).1

pub make_true-requires-clause-open : goal.make_true-requires-clause-open
make_true-requires-clause-open c =
    let s = c.args.self.now in
    let jumps = c.requires.backjump in
    rw c.go_to.ensures.trues (first_open s.vars s.clauses s.assignment.trues s.reasons.items c.requires.searching.state (s.last + 1) c.args.lits.now c.args.pair c.args.jump jumps.within jumps.asserting)

pub returns-clause-searching : goal.returns-clause-searching
returns-clause-searching c =
    let s = c.args.self.now in
    let n = c.go_to.new.self in
    let was = c.requires.searching in
    let jumps = c.requires.backjump in
    let now = c.go_to.ensures.searching s.clauses (searching_guided s.clauses s c.cost_of-cost.new.self (record { ordered = c.cost_of-cost.ensures.order ∙ was.guide.ordered; marked = ap (λ (marks : List Bool). length marks) c.cost_of-cost.ensures.marks ∙ was.guide.marked }) was) in
    let id = s.last + 1 in
    let lits = c.args.lits.now in
    let at = clause_at-last s.clauses id lits (below_next s.clauses s.last c.requires.holding.ids) in
    let watched = λ (counted : c.args.pair.is_counted ≡ true). absurd (false≢true (sym jumps.asserting.watched ∙ counted)) in
    record {
      vars = c.make_true.ensures.vars ∙ now.vars;
      guide = now.guide;
      state = rw (c.in_ok-record.ensures.clauses, c.go_to.ensures.same.vars, c.go_to.ensures.same.clauses, c.go_to.ensures.same.last, c.make_true.ensures.trues, c.in_ok-push.ensures.items, c.go_to.ensures.trues, c.go_to.ensures.reasons)
          (lemma_state s.vars s.clauses s.assignment.trues s.reasons.items was.state id lits c.args.pair c.args.jump jumps.within jumps.asserting (jumps.learnt.closed id) at (omega arith) (omega (arith, c.requires.room)));
      lists = c.in_ok-attach.ensures.lists ∙ now.lists;
      watched = rw (c.in_ok-record.ensures.clauses, c.go_to.ensures.same.clauses, c.go_to.ensures.same.last) (c.in_ok-attach.ensures.watched s.clauses id (sym (c.len.ensures ∙ ap (λ (h : Held). length h) c.go_to.ensures.same.clauses)) jumps.asserting.first_in jumps.asserting.second_in watched now.watched);
      queued = rw (c.in_ok-record.ensures.clauses, c.go_to.ensures.same.clauses, c.go_to.ensures.same.last, c.in_ok-attach.ensures.pairs, c.go_to.ensures.pairs, c.make_true.ensures.trues, c.in_ok-push.ensures.items, c.go_to.ensures.trues, c.go_to.ensures.reasons, c.go_to.ensures.head)
          (lemma_queued s.vars s.clauses s.assignment.trues s.reasons.items was.state id lits c.args.pair c.args.jump jumps.within jumps.asserting s.pairs.items s.head was.queued (was.watched (Plus 0)).long jumps.decision (omega arith));
      gated = record {
        counting = rw c.make_true.ensures.trues (counting_more n.gates n.assignment.trues (c.args.pair.first ∷ []) now.gated.counting);
        vars = now.gated.vars;
        covered = rw (c.in_ok-record.ensures.clauses, c.go_to.ensures.same.clauses, c.go_to.ensures.same.last, c.in_ok-attach.ensures.pairs)
            (covered_with n.gates.gates.items s.clauses n.pairs.items now.gated.covered (now.watched (Plus 0)).long id lits c.args.pair (λ counted. absurd (false≢true (sym jumps.asserting.watched ∙ counted))));
      };
    }
