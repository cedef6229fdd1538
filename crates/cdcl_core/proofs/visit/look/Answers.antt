use Rattle.std.proofs.Common.{◌≡◌, ◌∙◌, false, sym}
use Rattle.lrat_model.specs.Literal.{same}
use Rattle.cdcl_core.specs.Watches.{lits_at}
use Rattle.cdcl_core.proofs.visit.look.Goals as goal

pub returns-else-same : goal.returns-else-same
returns-else-same c =
    let other : same c.args.watch.third c.args.l ≡ false = sym c.same.ensures ∙ c.if-same.false in
    c.look_short.ensures (lits_at c.args.clauses.now c.args.watch.place) c.requires.sound.1 (c.requires.sound.2 other)
