use Rattle.std.proofs.Common.{◌≡◌, List, ◌∷◌, ap, sym, ◌∙◌}
use Rattle.lrat_model.specs.Literal.{Literal}
use Rattle.lrat_checker.proofs.SubsetLaws.{on_ok}
use Rattle.lrat_stream.specs.Outline.{outline_in}
use Rattle.lrat_stream.specs.Ahead.{addition_from}
use Rattle.lrat_stream.proofs.WordSteps.{begins_addition}
use Rattle.lrat_stream.proofs.words.StepWords.numbered.Goals as goal

pub returns-clause-ahead : goal.returns-clause-ahead
returns-clause-ahead c =
    let rule = c.args.checker.now.rule in
    let vars = c.args.checker.now.vars in
    let database = c.args.checker.now.database in
    let word = c.args.word.now in
    on_ok c.literal.result _ _ c.literal.ensures.ahead (λ is rest.
    begins_addition rule vars database c.args.id word rest (sym c.is_mark.ensures ∙ c.if-is_mark.false)
    ∙ ap (λ (ls : List Literal). outline_in rule vars database (addition_from c.args.id ls (word ∷ rest))) (sym c.requires.lits)
    ∙ is rest)
