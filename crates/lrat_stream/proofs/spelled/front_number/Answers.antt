use Rattle.std.proofs.Common.{◌∙◌, rules, w64}
use Rattle.std.proofs.lemmas.Int.{to_z-of_z}
use mir.Val.{SFits, of_z, to_z}
use Rattle.lrat_stream.proofs.SpelledLaws.{front_of_minus}
use Rattle.lrat_stream.proofs.spelled.front_number.Goals as goal

pub returns-in_ok-number-in-Some-eq45-default : goal.returns-in_ok-number-in-Some-eq45-default
returns-in_ok-number-in-Some-eq45-default c =
    let found = c.in_ok-number-in-Some-eq45-default in
    let fits : SFits w64 c.minus.result = search rules in
    front_of_minus c.args.text.now c.in-Some-eq45-default.digits.now found.number found.len (to_z w64 (of_z w64 c.minus.result)) (search rules) (to_z-of_z w64 c.minus.result fits ∙ c.minus.ensures) found.ensures.front
