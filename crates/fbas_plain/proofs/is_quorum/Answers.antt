use Rattle.std.proofs.Common.{◌≡◌}
use Rattle.std.proofs.lemmas.Bool.{false≢true, MatchBool-at_true}
use Rattle.fbas_model.specs.Nodes.{members, ∅, IsInhabited}
use Rattle.fbas_model.proofs.Slices.{not_within_none, not_faulty}
use Rattle.fbas_plain.proofs.is_quorum.Goals as goal

pub returns-then-is_empty : goal.returns-then-is_empty
returns-then-is_empty c =
    let u = members c.args.u.now in
    let none = MatchBool-at_true (u ≡ ∅) (IsInhabited u) c.if-is_empty.true c.is_empty.ensures in
    (λ t. absurd (false≢true t), λ q. absurd (not_within_none c.args.sets.now (members c.args.faulty.now) u none q))

pub returns-then-meets : goal.returns-then-meets
returns-then-meets c =
    (λ t. absurd (false≢true t), λ q. absurd (not_faulty c.args.sets.now (members c.args.faulty.now) (members c.args.u.now) (c.meets.ensures.0 c.if-meets.true) q))
