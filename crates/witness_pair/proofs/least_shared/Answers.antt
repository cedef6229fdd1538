use Rattle.std.proofs.Common.{◌≡◌, ◌∙◌, ap, sym, subst, MatchOption}
use mathlib.Core.Path.{fun_ext}
use Rattle.fbas_model.specs.Nodes.{Nodes, members, ◌∩◌, ∅, IsLeast}
use Rattle.witness_pair.specs.Making.{shared}
use Rattle.witness_pair.proofs.PairLaws.{least_is, members-shared}
use Rattle.witness_pair.proofs.least_shared.Goals as goal

pub returns : goal.returns
returns c =
    let u = c.args.u.now in
    let w = c.args.w.now in
    let same : members c.meet.new.self ≡ members (shared u w) = c.meet.ensures.shared ∙ ap (λ (s : Nodes). s ∩ members w) (ap members c.copy-both.ensures) ∙ fun_ext (λ v. sym (members-shared u w v)) in
    least_is (shared u w) c.least.result (subst (λ (s : Nodes). MatchOption c.least.result (s ≡ ∅) (IsLeast s)) same c.least.ensures)
