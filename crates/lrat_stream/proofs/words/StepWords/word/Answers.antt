use Rattle.std.proofs.Common.{◌≡◌, ◌∷◌, ap, ◌∙◌, subst, None}
use Rattle.lrat_checker.proofs.SubsetLaws.{on_ok}
use Rattle.lrat_stream.specs.declared.words.Stage.{Stage}
use Rattle.lrat_stream.specs.Ahead.{ahead_at, FitsAt}
use Rattle.lrat_stream.proofs.words.StepWords.word.Goals as goal

pub returns-in-Start-clause-fits : goal.returns-in-Start-clause-fits
returns-in-Start-clause-fits c =
    let s = c.args.self.now in
    let now = c.args.checker.now.open_addition in
    c.after_start-self.ensures.fits s.lits.items s.ids.items s.fault now (subst (λ (st : Stage). FitsAt st s.lits.items s.ids.items s.fault now) c.in-Start.is c.requires)

pub returns-in-Ids-clause-fits : goal.returns-in-Ids-clause-fits
returns-in-Ids-clause-fits c =
    let s = c.args.self.now in
    let now = c.args.checker.now.open_addition in
    let closed : now ≡ None = subst (λ (st : Stage). FitsAt st s.lits.items s.ids.items s.fault now) c.in-Ids.is c.requires in
    on_ok c.listed.result _ _ (c.listed.ensures.fits now) (λ fits. fits closed)

pub returns-in-Ids-clause-ahead : goal.returns-in-Ids-clause-ahead
returns-in-Ids-clause-ahead c =
    let s = c.args.self.now in
    let checker = c.args.checker.now in
    on_ok c.listed.result _ _ (c.listed.ensures.ahead checker.rule checker.vars checker.database checker.open_addition) (λ is rest.
    ap (λ (st : Stage). ahead_at st checker.rule checker.vars checker.database s.lits.items s.ids.items s.fault checker.open_addition (c.args.word.now ∷ rest)) c.in-Ids.is ∙ is rest)
