use Rattle.std.proofs.Common.{Bool, IsTrue, sym, subst}
use Rattle.std.specs.Prelude.{◌↔◌, IsSome}
use Rattle.desk_io.proofs.real.RealDesk.reopen.Goals as goal

pub returns-in-Orgs-clause-begun : goal.returns-in-Orgs-clause-begun
returns-in-Orgs-clause-begun g c =
    rw c.in-Orgs.is (subst (λ (b : Bool). IsTrue b ↔ IsSome c.ok-opened.result) (sym c.is_some-begun.ensures) (λ h. h, λ h. h))
