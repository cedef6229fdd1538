use Rattle.std.proofs.Common.{ℕ, nat_lt, ap, subst, ◌∙◌}
use Rattle.fbas_model.specs.Nodes.{Nodes, members}
use Rattle.fbas_model.specs.Fbas.{IsGreatestQuorum}
use Rattle.greatest_quorum.proofs.GreatestLaws.{greatest_only}
use Rattle.greatest_quorum.proofs.greatest.Goals as goal

pub returns-clause-greatest : goal.returns-clause-greatest
returns-clause-greatest c =
    let all = c.fill.ensures.all ∙ ap {B = Nodes} (λ (n : ℕ) v. nat_lt v n) (c.new-greatest.ensures.size ∙ c.len.ensures.sets) in
    subst (λ (u : Nodes). IsGreatestQuorum c.args.system.now.sets (members c.args.faulty.now) u (members c.shrink.new.u)) all c.shrink.ensures.greatest

pub returns-clause-counted : goal.returns-clause-counted
returns-clause-counted c =
    greatest_only c.args.system.now.sets c.args.faulty.now c.shrink.new.u c.requires (c.shrink.ensures.same_n ∙ c.fill.ensures.size ∙ c.new-greatest.ensures.size ∙ c.len.ensures.sets) (returns-clause-greatest c)
