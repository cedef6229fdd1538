use Rattle.std.proofs.Common.{rules, ℤ, w64, sym, ◌∙◌, subst}
use Rattle.std.proofs.lemmas.Int.{to_z-of_z}
use Rattle.lrat_checker.specs.Adding.{StopsAt}
use Rattle.lrat_stream.proofs.WordSteps.{opened, stopped, has_place}
use Rattle.lrat_stream.proofs.words.StepWords.take_hint.Goals as goal

pub hints-requires : goal.hints-requires
hints-requires c = opened c.requires.0 c.args.self.now.lits.items c.args.self.now.fault c.args.checker.now.open_addition (sym c.is_some.ensures ∙ c.if-is_some.false) c.requires.1

pub hint-requires : goal.hint-requires
hint-requires c = opened c.requires.0 c.args.self.now.lits.items c.args.self.now.fault c.args.checker.now.open_addition (sym c.is_some.ensures ∙ c.if-is_some.false) c.requires.1

pub returns-in-Err-clause-fault : goal.returns-in-Err-clause-fault
returns-in-Err-clause-fault c = λ id is.
    let checker = c.args.checker.now in
    stopped checker.rule checker.database.held c.args.hint id c.args.self.now.lits.items c.args.self.now.fault checker.open_addition c.in-Err.fault (sym c.is_some.ensures ∙ c.if-is_some.false) is
    (subst (λ (z : ℤ). StopsAt checker.rule checker.database.held z checker.open_addition c.in-Err.fault) (to_z-of_z w64 c.args.hint (search rules)) c.in-Err.ensures.refused)
    (has_place checker.open_addition c.hints.result c.hints.ensures c.if-hints-ge-MOST_HINTS.false)
