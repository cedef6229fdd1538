use Rattle.std.proofs.Common.{◌≡◌, ◌<◌, false, nat_lt, ◌∙◌, arith}
use Rattle.std.proofs.lemmas.Bool.{false_from_ne_true, ltb-true}
use Rattle.fbas_model.specs.Nodes.{size}
use Rattle.split_journal.proofs.Minimal.{proper_smaller, no_smaller}
use Rattle.split_journal.proofs.among.is_proper_part.Goals as goal

pub returns-then-few-many : goal.returns-then-few-many
returns-then-few-many w c =
    let fewer : size c.args.part.now < size c.args.set.now = omega (arith, c.if-few-many.true, c.requires.few, c.requires.many) in
    proper_smaller c.args.part.now c.args.set.now c.lies_in.result c.requires.same_n fewer c.lies_in.ensures

pub returns-else-few-many : goal.returns-else-few-many
returns-else-few-many w c =
    let not_fewer : nat_lt c.args.few c.args.many ≡ false = false_from_ne_true (nat_lt c.args.few c.args.many) (λ h. absurd (let low = ltb-true c.args.few c.args.many h in omega (arith, c.if-few-many.false))) in
    not_fewer ∙ no_smaller c.args.part.now c.args.set.now c.requires.same_n (λ fewer. omega (arith, fewer, c.if-few-many.false, c.requires.few, c.requires.many))
