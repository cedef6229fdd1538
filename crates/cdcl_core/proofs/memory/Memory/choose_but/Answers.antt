use Rattle.std.proofs.Common.{⊎_elim, refl, arith, length}
use Rattle.std.proofs.lemmas.Bool.{cases_lt}
use Rattle.cdcl_core.specs.declared.memory.TheConstants.{FEWEST_DELETED}
use Rattle.cdcl_core.proofs.Parts.{few_left}
use Rattle.cdcl_core.proofs.memory.Memory.choose_but.Goals as goal

pub returns-then-is_full-clause-fewest : goal.returns-then-is_full-clause-fewest
returns-then-is_full-clause-fewest c =
    let live = c.args.self.now.ids.items in
    let gone = c.in_ok-gone-2.gone.items in
    let needed = c.args.needed.now in
    ⊎_elim
    (λ few.
    let left = few_left live gone needed c.requires.rise (c.in_ok-gone-2.ensures.all refl (omega (arith, few))) in
    omega (arith, left, few, c.requires.few, c.is_full.ensures, c.if-is_full.true))
    (λ enough. enough)
    (cases_lt (length gone) FEWEST_DELETED)

pub returns-then-are_enough-clause-fewest : goal.returns-then-are_enough-clause-fewest
returns-then-are_enough-clause-fewest c = omega arith
