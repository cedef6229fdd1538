use Rattle.std.proofs.Common.{◌≡◌, ℕ, List, length, Ok, sym, ◌∙◌, ap, subst}
use Rattle.std.specs.Prelude.{All}
use Rattle.fbas_model.specs.Nodes.{Table}
use Rattle.lrat_model.specs.declared.step.Progress.{Progress}
use Rattle.reach_kinds.proofs.group_lines.group_line.Goals as goal

pub after_group_step-requires : goal.after_group_step-requires
after_group_step-requires c = λ refuted.
    subst (λ (sets : List Table). (n : ℕ) × All (λ t. length t ≡ n) sets)
    (sym (c.group_text.ensures.sets (c.in-Ok.is ∙ ap (λ (p : Progress). Ok p) refuted)))
    (length c.args.listing.over.groups, c.requires.sets)
