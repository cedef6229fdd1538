use Rattle.std.proofs.Common.{◌∙◌, ◌≡◌, false, sym, arith}
use Rattle.std.specs.Prelude.{nat_lt}
use Rattle.std.proofs.lemmas.Bool.{le-ltb}
use Rattle.cdcl_core.proofs.Parts.{among_last, among_none}
use Rattle.cdcl_core.proofs.memory.is_among.Goals as goal

pub returns-then-above-gt0 : goal.returns-then-above-gt0
returns-then-above-gt0 c =
    let point = c.first_above-above.ensures in
    among_last c.args.ids.now c.args.id c.first_above-above.result c.requires point.bound point.below point.above (omega (arith, c.if-above-gt0.true))

pub returns-else-above-gt0 : goal.returns-else-above-gt0
returns-else-above-gt0 c =
    let point = c.first_above-above.ensures in
    let no : nat_lt 0 c.first_above-above.result ≡ false = le-ltb 0 c.first_above-above.result (omega (arith, c.if-above-gt0.false)) in
    no ∙ sym (among_none c.args.ids.now c.args.id c.first_above-above.result c.requires point.bound point.below point.above (omega (arith, c.if-above-gt0.false)))
