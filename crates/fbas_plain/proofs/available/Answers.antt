use Rattle.std.proofs.Common.{◌≡◌}
use Rattle.std.proofs.lemmas.Bool.{MatchBool-at_true, MatchBool-at_false}
use Rattle.fbas_model.specs.Nodes.{members, ∅, IsInhabited}
use Rattle.fbas_plain.proofs.Sets.{left_is, available_none, available_iff}
use Rattle.fbas_plain.proofs.available.Goals as goal

pub returns-then-is_empty : goal.returns-then-is_empty
returns-then-is_empty c =
    let rest = members c.minus.new.self in
    let left = left_is c.args.sets.now c.args.b.now c.copy-none.result c.clear.new.self c.copy-rest.result c.fill.new.self c.minus.new.self c.copy-none.ensures c.clear.ensures.size c.copy-rest.ensures c.requires.same_n c.fill.ensures.all c.minus.ensures.left in
    let none = MatchBool-at_true (rest ≡ ∅) (IsInhabited rest) c.if-is_empty.true c.is_empty.ensures in
    (λ _. available_none c.args.sets.now (members c.args.b.now) rest left none, λ _. c.if-is_empty.true)

pub returns-else-is_empty : goal.returns-else-is_empty
returns-else-is_empty c =
    let rest = members c.minus.new.self in
    let left = left_is c.args.sets.now c.args.b.now c.copy-none.result c.clear.new.self c.copy-rest.result c.fill.new.self c.minus.new.self c.copy-none.ensures c.clear.ensures.size c.copy-rest.ensures c.requires.same_n c.fill.ensures.all c.minus.ensures.left in
    let some = MatchBool-at_false (rest ≡ ∅) (IsInhabited rest) c.if-is_empty.false c.is_empty.ensures in
    available_iff c.args.sets.now (members c.args.b.now) rest (members c.clear.new.self) c.is_quorum.result left c.clear.ensures.empty some c.is_quorum.ensures
