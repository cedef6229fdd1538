use Rattle.std.proofs.Common.{rules, List, map, ap, ℤ, ◌∷◌, ◌∙◌, w32}
use Rattle.std.proofs.lemmas.Int.{to_z-of_z}
use mir.Val.{SFits}
use Rattle.std.specs.Fmt.{signed_decimal}
use Rattle.std.proofs.lemmas.List.{take_all}
use Rattle.lrat_model.specs.Literal.{Literal}
use Rattle.lrat_text.specs.Left.{spaced}
use Rattle.lrat_text.specs.Texts.{literal_text}
use Rattle.cert_writer.proofs.WritingLaws.{writes_more, writes_same, writes_nothing}
use Rattle.cert_writer.proofs.StepTexts.{numbers_more}
use Rattle.cert_writer.proofs.writer.CertWriter.literals.Goals as goal

pub loop-l-init : goal.loop-l-init
loop-l-init g c = writes_nothing _ _ _ _

pub loop-l-preserved : goal.loop-l-preserved
loop-l-preserved g c =
    let fits : SFits w32 c.number.result = search rules in
    let is = ap (λ (n : ℤ). 32 ∷ signed_decimal n) (to_z-of_z w32 c.number.result fits ∙ c.number.ensures.value) in
    let one = writes_same _ _ _ _ _ _ _ _ _ is c.integer.ensures in
    writes_same _ _ _ _ _ _ _ _ _ (numbers_more literal_text c.args.lits.now c.loop-l.l-index c.l-item.result c.l-item.is c.loop-l-test.true) (writes_more _ _ _ _ _ _ _ _ _ _ _ _ c.loop-l.invariant one)

pub returns : goal.returns
returns g c = writes_same _ _ _ _ _ _ _ _ _ (ap (λ (xs : List Literal). spaced (map literal_text xs)) (take_all c.loop-l.l-index c.args.lits.now c.loop-l-test.false)) c.loop-l.invariant
