use Rattle.std.proofs.Common.{◌≡◌, ℕ, sym, subst, Option}
use Rattle.fbas_model.specs.Nodes.{members}
use Rattle.fbas_model.specs.Trees.{QuorumSet}
use Rattle.fbas_core.specs.Mentioning.{stands_in}
use Rattle.fbas_core.proofs.WhoMentions.{mentioned_alone}
use Rattle.fbas_core.proofs.mentions.mentioned_in.Goals as goal

pub returns-in-Some-clause-nodes : goal.returns-in-Some-clause-nodes
returns-in-Some-clause-nodes c =
    subst (λ (o : Option QuorumSet). members c.mentions.new.into ≡ (λ (w : ℕ). stands_in w o)) (sym c.in-Some.is)
    (mentioned_alone c.in-Some.quorum_set (members c.new-nodes.result) (members c.mentions.new.into) c.new-nodes.ensures.empty c.mentions.ensures.added)

pub returns-in_default-clause-nodes : goal.returns-in_default-clause-nodes
returns-in_default-clause-nodes c =
    subst (λ (o : Option QuorumSet). members c.new-nodes.result ≡ (λ (w : ℕ). stands_in w o)) (sym c.in_default.is) c.new-nodes.ensures.empty
