use Rattle.std.proofs.Common.{◌≡◌, ◌≤◌, ◌∙◌, ◌++◌, [], ◌∷◌, true, false, List, inl, inr, refl, sym, ap, subst, arith}
use Rattle.lrat_model.specs.Literal.{Literal, has, variable_of}
use Rattle.lrat_model.specs.Clauses.{clause_at}
use Rattle.lrat_model.specs.Propagation.{status}
use Rattle.lrat_model.specs.declared.step.ClauseStatus.TheVariants.{Forces}
use Rattle.cdcl_core.specs.Fixpoint.{IsQuiet}
use Rattle.cdcl_core.specs.Watches.{id_at, lits_at}
use Rattle.cdcl_core.proofs.Counted.{open_quiet}
use Rattle.cdcl_core.proofs.Forced.{forces_only, falsified_all}
use Rattle.cdcl_core.proofs.Moves.{clause_variable, searching_pushed}
use Rattle.cdcl_core.proofs.OpenCounts.{open_count-append}
use Rattle.cdcl_core.proofs.Runs.{each_id}
use Rattle.cdcl_core.proofs.States.{state_push}
use Rattle.cdcl_core.proofs.Trails.{open_count-push}
use Rattle.cdcl_core.proofs.search.Search.take_at.Goals as goal

pub two_free-requires : goal.two_free-requires
two_free-requires c = λ m h. subst (λ k. variable_of m ≤ k) (sym c.requires.searching.vars) (clause_variable c.args.self.now c.requires.holding c.requires.room c.args.place c.requires.place m (subst (λ (ls : List Literal). has ls m ≡ true) c.lits.ensures h)).1

pub is_true-requires : goal.is_true-requires
is_true-requires c =
    let s = c.args.self.now in
    let l = c.in-One.l in
    subst (λ k. variable_of l ≤ k) (sym c.requires.searching.vars) (clause_variable s c.requires.holding c.requires.room c.args.place c.requires.place l (subst (λ (ls : List Literal). has ls l ≡ true) c.lits.ensures (c.in-One.ensures.one l refl).0)).1

pub make_true-requires-clause-range : goal.make_true-requires-clause-range
make_true-requires-clause-range c =
    let s = c.args.self.now in
    let l = c.in-One.l in
    subst (λ k. variable_of l ≤ k) (sym c.requires.searching.vars) (clause_variable s c.requires.holding c.requires.room c.args.place c.requires.place l (subst (λ (ls : List Literal). has ls l ≡ true) c.lits.ensures (c.in-One.ensures.one l refl).0)).1

pub returns-then-is_true-clause-nothing : goal.returns-then-is_true-clause-nothing
returns-then-is_true-clause-nothing c = λ _.
    let s = c.args.self.now in
    let trues = s.assignment.trues in
    let l = c.in-One.l in
    let one = c.in-One.ensures.one l refl in
    (refl, subst (λ (ls : List Literal). IsQuiet trues (status trues ls)) c.lits.ensures (open_quiet trues c.lits.result.now c.requires.searching.state.trail.consistent (inl (l, one.0, sym c.is_true.ensures ∙ c.if-is_true.true))))

pub returns-in-Two-clause-nothing : goal.returns-in-Two-clause-nothing
returns-in-Two-clause-nothing c = λ _.
    let trues = c.args.self.now.assignment.trues in
    let a = c.in-Two.field-0 in
    let b = c.in-Two.field-1 in
    let two = c.in-Two.ensures.two a b refl in
    (refl, subst (λ (ls : List Literal). IsQuiet trues (status trues ls)) c.lits.ensures (open_quiet trues c.lits.result.now c.requires.searching.state.trail.consistent (inr (a, b, two.0, two.1, two.2, two.3, two.4))))

pub returns-in_ok-push-in-One-clause-searching : goal.returns-in_ok-push-in-One-clause-searching
returns-in_ok-push-in-One-clause-searching c =
    let s = c.args.self.now in
    let p = c.args.place in
    let was = c.requires.searching in
    let all = c.requires.holding in
    let trues = s.assignment.trues in
    let reasons = s.reasons.items in
    let l = c.in-One.l in
    let lits = lits_at s.clauses p in
    let id = each_id s.clauses s.last all.rise all.ids c.requires.room p c.requires.place in
    let one = c.in-One.ensures.one l refl in
    let left : has trues l ≡ false = sym c.is_true.ensures ∙ c.if-is_true.false in
    let says : status trues lits ≡ Forces l = subst (λ (ls : List Literal). status trues ls ≡ Forces l) c.lits.ensures (forces_only trues c.lits.result.now l one.0 one.1 one.2) in
    let range = all.range (id_at s.clauses p) lits id.2 l (subst (λ (ls : List Literal). has ls l ≡ true) c.lits.ensures one.0) in
    let state = state_push s.vars s.clauses trues reasons was.state (id_at s.clauses p) lits l id.2 says left range id.0 id.1 in
    searching_pushed s.clauses s s.guide c.make_true.new.self _ l (id_at s.clauses p) was was.guide c.make_true.ensures.vars c.make_true.ensures.trues (c.in_ok-push-in-One.ensures.items ∙ ap (λ k. reasons ++ k ∷ []) c.id-id.ensures) state (λ none. absurd (omega (arith, id.0, none)))

pub returns-in_ok-push-in-One-clause-forced : goal.returns-in_ok-push-in-One-clause-forced
returns-in_ok-push-in-One-clause-forced c = λ _.
    let s = c.args.self.now in
    let one = c.in-One.ensures.one c.in-One.l refl in
    let range = clause_variable s c.requires.holding c.requires.room c.args.place c.requires.place c.in-One.l (subst (λ (ls : List Literal). has ls c.in-One.l ≡ true) c.lits.ensures one.0) in
    rw c.make_true.ensures.trues (open_count-push s.assignment.trues c.in-One.l s.vars range (sym c.is_true.ensures ∙ c.if-is_true.false) one.1)

pub returns-in_ok-push-in-One-clause-fewer : goal.returns-in_ok-push-in-One-clause-fewer
returns-in_ok-push-in-One-clause-fewer c = rw c.make_true.ensures.trues (open_count-append c.args.self.now.assignment.trues (c.in-One.l ∷ []) c.args.self.now.vars)

pub returns-in-Nothing-clause-conflict : goal.returns-in-Nothing-clause-conflict
returns-in-Nothing-clause-conflict c = λ id is.
    let s = c.args.self.now in
    let p = c.args.place in
    let all = c.requires.holding in
    let own : c.id-id.result ≡ id = cc is in
    let trues = s.assignment.trues in
    let at = (each_id s.clauses s.last all.rise all.ids c.requires.room p c.requires.place).2 in (
      lits_at s.clauses p,
      ap (λ k. clause_at s.clauses k) (sym own ∙ c.id-id.ensures) ∙ at,
      ap (λ (ls : List Literal). status trues ls) (sym c.lits.ensures) ∙ falsified_all trues c.lits.result.now (c.in-Nothing.ensures.nothing refl),
    )
