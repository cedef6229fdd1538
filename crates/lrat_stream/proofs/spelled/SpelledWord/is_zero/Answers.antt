use Rattle.std.proofs.Common.{ap, sym, ◌∙◌, rules, w64}
use mir.Val.{SFits}
use Rattle.lrat_stream.specs.Said.{said}
use Rattle.lrat_stream.proofs.SpelledLaws.{zero_test}
use Rattle.lrat_stream.proofs.spelled.SpelledWord.is_zero.Goals as goal

pub returns-in-Some : goal.returns-in-Some
returns-in-Some c =
    let fits : SFits w64 c.in-Some.number = search rules in
    zero_test c.args.self.now c.in-Some.number fits (ap said (sym c.self.view_is) ∙ sym c.self.invariant ∙ c.in-Some.is)
