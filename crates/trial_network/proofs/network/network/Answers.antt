use Rattle.std.proofs.Common.{◌*◌, List, sym, subst, ap₂, ◌∙◌}
use Rattle.fbas_model.specs.Names.{Name}
use Rattle.fbas_model.specs.Fbas.{Fbas}
use Rattle.fbas_model.specs.Systems.{IsSystem}
use Rattle.trial_network.specs.Trial.{names_from, trial_system}
use Rattle.trial_network.proofs.Limits.{within_limits}
use Rattle.trial_network.proofs.network.network.Goals as goal

pub of-requires : goal.of-requires
of-requires c =
    let n = c.args.n in
    subst (λ (ns : List Name). IsSystem ns c.in_ok-sets.sets.items) (sym c.in_ok-names.ensures) (subst (λ (fs : Fbas). IsSystem (names_from 0 (3 * n)) fs) (sym c.in_ok-sets.ensures) (within_limits n c.requires))

pub returns : goal.returns
unfolding trial_system
returns c = ap₂ (λ (ns : List Name) (fs : Fbas). record { names = ns; sets = fs }) (c.in_ok-of.ensures.names ∙ c.in_ok-names.ensures) (c.in_ok-of.ensures.sets ∙ c.in_ok-sets.ensures)
