use Rattle.std.proofs.Common.{ℕ, ◌/◌, ◌%◌, ◌^◌, ◌∙◌, Option, Some, None, get_or, ap, arith}
use Rattle.std.specs.Option.{MatchOption}
use Rattle.fbas_model.specs.Nodes.{Nodes, members, HasNoneFrom, IsLeastFrom}
use Rattle.name_set.proofs.WordLaws.{same-length, same-members}
use Rattle.name_set.proofs.WordFinds.{lowest, least_in_rest, least_behind, none_behind}
use Rattle.name_set.proofs.words.NodeWords.least_from.Goals as goal

pub returns-then-at-self : goal.returns-then-at-self
returns-then-at-self g c w above = ap (λ (s : Nodes). s w) (same-members g.row.W c.self.inside.n c.self.inside.words c.args.self.now c.self.invariant c.self.view_is) ∙ c.self.invariant.clear w (omega arith)

pub bounds-self-inside-i : goal.bounds-self-inside-i
bounds-self-inside-i g c = omega (arith, same-length g.row.W c.self.inside.n c.self.inside.words c.args.self.now c.self.invariant c.self.view_is, c.self.invariant.fits)

pub overflow_add-result : goal.overflow_add-result
overflow_add-result g c =
    let rest = get_or c.self.inside.words (c.args.at / 64) 0 / 2 ^ (c.args.at % 64) in
    let low = lowest rest c.if-rest-ne0.true (omega arith) in
    omega (arith, same-length g.row.W c.self.inside.n c.self.inside.words c.args.self.now c.self.invariant c.self.view_is, c.self.invariant.fits, c.self.invariant.few, low.below)

pub returns-then-rest-ne0 : goal.returns-then-rest-ne0
returns-then-rest-ne0 g c = least_in_rest g.row.W c.self.inside.n c.self.inside.words c.args.self.now c.self.invariant c.self.view_is c.args.at c.if-rest-ne0.true (omega arith) (omega arith)

behind : (s : Nodes) (low at : ℕ) (r : Option ℕ) → MatchOption r (HasNoneFrom s low) (IsLeastFrom s low) → (HasNoneFrom s low → HasNoneFrom s at) → ((v : ℕ) → IsLeastFrom s low v → IsLeastFrom s at v) → MatchOption r (HasNoneFrom s at) (IsLeastFrom s at)
behind s low at None h none some = none h
behind s low at (Some v) h none some = some v h

pub returns : goal.returns
returns g c = behind (members c.args.self.now) _ c.args.at c.least_in.result c.least_in.ensures (none_behind g.row.W c.self.inside.n c.self.inside.words c.args.self.now c.self.invariant c.self.view_is c.args.at c.if-rest-ne0.false) (λ v h. least_behind g.row.W c.self.inside.n c.self.inside.words c.args.self.now c.self.invariant c.self.view_is c.args.at v c.if-rest-ne0.false h)
