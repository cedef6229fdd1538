use Rattle.std.proofs.Common.{List, ap, inl, inr}
use Rattle.fbas_model.specs.Nodes.{Table}
use Rattle.enumeration_journal.specs.declared.kinds.Listed.TheVariants as listed
use Rattle.reach_kinds.specs.declared.places.Reached.TheVariants.{Minimal}
use Rattle.reach_kinds.proofs.list_steps.whole_of.Goals as goal

pub returns-in-Quorum : goal.returns-in-Quorum
returns-in-Quorum c = elim c.in-Quorum.is [
  | inl quorum ↦ rw quorum (ap (λ (ts : List Table). Minimal listed.Quorum ts) (c.ordered.ensures c.requires.0 c.requires.1))
  | inr blocking ↦ rw blocking (ap (λ (ts : List Table). Minimal listed.Blocking ts) (c.ordered.ensures c.requires.0 c.requires.1))
]
