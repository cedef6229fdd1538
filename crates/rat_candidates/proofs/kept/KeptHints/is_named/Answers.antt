use Rattle.std.proofs.Common.{ℤ, List, ap, ◌∙◌}
use Rattle.lrat_model.specs.Clauses.{has_id}
use Rattle.rat_candidates.specs.Groups.{ids_in}
use Rattle.rat_candidates.specs.Kept.{Kept}
use Rattle.rat_candidates.proofs.NamedLaws.{names-ids}
use Rattle.rat_candidates.proofs.kept.KeptHints.is_named.Goals as goal

pub returns-then-id-self : goal.returns-then-id-self
returns-then-id-self c =
    c.has_group.ensures ∙ names-ids c.as_slice.result.now c.args.id ∙ ap (λ (hs : List ℤ). has_id (ids_in hs) c.args.id) c.as_slice.ensures.value
    ∙ ap (λ (k : Kept). has_id (ids_in k.hints) c.args.id) c.self.view_is
