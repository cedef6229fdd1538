use Rattle.std.proofs.Common.{◌≡◌, ◌+◌, ◌<◌, ◌++◌, ◌∷◌, [], ℕ, List, length, append_assoc, sym, ◌∙◌, ap, subst, arith}
use Rattle.std.proofs.lemmas.List.{length-append, append-nil}
use Rattle.fbas_model.specs.Nodes.{size, listed_from}
use Rattle.fbas_model.specs.Restriction.{rank}
use Rattle.fbas_model.proofs.Closure.{size_le_length}
use Rattle.fbas_model.proofs.Listed.{iterated_below, iterated_few, iterated_rank}
use Rattle.lrat_model.specs.Literal.{Literal}
use Rattle.lrat_model.specs.Ranges.{IsInRange}
use Rattle.enumeration_journal.specs.Kinds.{signed}
use Rattle.enumeration_journal.proofs.ClauseLoops.{literal_for, clause_yes, clause_no, clause_all, clause_range}
use Rattle.enumeration_journal.proofs.clauses.clause_of.Goals as goal

pub overflow_add-variable : goal.overflow_add-variable
overflow_add-variable w c =
    let g = c.args.units.now in
    let whole = ap (λ (vs : List ℕ). c.loop-v.yielded ++ vs) (sym c.in-Some.ensures.steps) ∙ c.loop-v.invariant.whole in
    omega (arith, c.loop-v.invariant.next, iterated_few g c.loop-v.yielded c.next.new.self c.in-Some.v whole, size_le_length g, c.requires.places, c.requires.few)

pub has-requires : goal.has-requires
has-requires w c =
    let whole = ap (λ (vs : List ℕ). c.loop-v.yielded ++ vs) (sym c.in-Some.ensures.steps) ∙ c.loop-v.invariant.whole in
    let low : c.in-Some.v < length c.args.units.now = iterated_below c.args.units.now c.loop-v.yielded c.next.new.self c.in-Some.v whole in
    (search arith, omega (arith, low, c.requires.places, c.requires.same_n))

pub literal-requires : goal.literal-requires
literal-requires w c =
    let g = c.args.units.now in
    let whole = ap (λ (vs : List ℕ). c.loop-v.yielded ++ vs) (sym c.in-Some.ensures.steps) ∙ c.loop-v.invariant.whole in
    record {
      nonzero = omega arith;
      small = omega (arith, c.loop-v.invariant.next, iterated_few g c.loop-v.yielded c.next.new.self c.in-Some.v whole, size_le_length g, c.requires.places, c.requires.few);
    }

pub loop-v-preserved-in-Continue-1 : goal.loop-v-preserved-in-Continue-1
loop-v-preserved-in-Continue-1 w c =
    let g = c.args.units.now in
    let q = c.args.which in
    let ws = c.loop-v.yielded in
    let v = c.in-Some.v in
    let whole = ap (λ (vs : List ℕ). ws ++ vs) (sym c.in-Some.ensures.steps) ∙ c.loop-v.invariant.whole in
    let at : rank g v ≡ c.loop-v.variable = iterated_rank g ws c.next.new.self v whole ∙ sym c.loop-v.invariant.next in
    let literal_is : c.literal.result ≡ literal_for c.args.sought q g v = c.literal.ensures ∙ ap (λ (x : ℕ). signed c.args.sought q (x + 1)) (sym at) in
    record {
      whole = append_assoc ws (v ∷ []) c.next.new.self ∙ whole;
      next = omega (arith, c.loop-v.invariant.next, length-append ws (v ∷ []));
      clause = c.in_ok-push.ensures.items ∙ ap (λ (l : Literal). c.loop-v.clause.items ++ l ∷ []) literal_is ∙ clause_yes c.args.sought q g c.args.set.now ws v c.loop-v.clause.items (sym c.has.ensures ∙ c.if-has.true) c.loop-v.invariant.clause;
    }

pub loop-v-preserved : goal.loop-v-preserved
loop-v-preserved w c =
    let ws = c.loop-v.yielded in
    let v = c.in-Some.v in
    let whole = ap (λ (vs : List ℕ). ws ++ vs) (sym c.in-Some.ensures.steps) ∙ c.loop-v.invariant.whole in
    record {
      whole = append_assoc ws (v ∷ []) c.next.new.self ∙ whole;
      next = omega (arith, c.loop-v.invariant.next, length-append ws (v ∷ []));
      clause = clause_no c.args.sought c.args.which c.args.units.now c.args.set.now ws v c.loop-v.clause.items (sym c.has.ensures ∙ c.if-has.false) c.loop-v.invariant.clause;
    }

pub returns-clause-clause : goal.returns-clause-clause
returns-clause-clause w c =
    let ws = c.loop-v.yielded in
    let whole : ws ≡ listed_from 0 c.args.units.now = sym (append-nil ws) ∙ (ap (λ (vs : List ℕ). ws ++ vs) (sym c.in-None.ensures.steps.0) ∙ c.loop-v.invariant.whole) in
    clause_all c.args.sought c.args.which c.args.units.now c.args.set.now ws c.loop-v.clause.items whole (c.requires.places ∙ sym c.requires.same_n) c.requires.within c.loop-v.invariant.clause

pub returns-clause-range : goal.returns-clause-range
returns-clause-range w c =
    let ws = c.loop-v.yielded in
    let whole : ws ≡ listed_from 0 c.args.units.now = sym (append-nil ws) ∙ (ap (λ (vs : List ℕ). ws ++ vs) (sym c.in-None.ensures.steps.0) ∙ c.loop-v.invariant.whole) in
    let is = clause_all c.args.sought c.args.which c.args.units.now c.args.set.now ws c.loop-v.clause.items whole (c.requires.places ∙ sym c.requires.same_n) c.requires.within c.loop-v.invariant.clause in
    subst (λ (ls : List Literal). IsInRange (size c.args.units.now) ls) (sym is) (clause_range c.args.sought c.args.which c.args.units.now c.args.set.now c.requires.within)
