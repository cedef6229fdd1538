use Rattle.std.proofs.Common.{◌==◌, ℕ, List, sym, ap, ◌∙◌}
use Rattle.std.specs.List.{list_any}
use Rattle.whatif_session.proofs.ChangeLists.{validator-lists}
use Rattle.whatif_session.proofs.change.has_validator.Goals as goal

pub returns : goal.returns
returns c =
    let q = c.set.inside in
    rw (← c.set.view_is) (c.contains.ensures.value ∙ ap (λ (ws : List ℕ). list_any (λ v. v == c.args.node) ws) c.deref.ensures.value ∙ sym (validator-lists c.args.node q.validators.items q.inner.items))
