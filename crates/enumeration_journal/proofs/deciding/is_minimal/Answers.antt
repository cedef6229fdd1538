use Rattle.std.proofs.Common.{length, ◌∙◌, ap, subst}
use Rattle.fbas_model.specs.Nodes.{Table, members, ◌⊆◌}
use Rattle.enumeration_journal.proofs.DecisionLaws.{minimal_is}
use Rattle.enumeration_journal.proofs.deciding.is_minimal.Goals as goal

pub returns-clause-minimal : goal.returns-clause-minimal
returns-clause-minimal c =
    let s = c.args.set.now in
    let t = c.make_minimal.new.set in
    let inside = subst (λ (u : Table). members t ⊆ members u) c.copy_from.ensures c.make_minimal.ensures.within in
    minimal_is c.args.kind c.args.system.now.sets c.args.faulty.now s t c.same.result c.requires.same_faulty (c.make_minimal.ensures.same_n ∙ ap length c.copy_from.ensures) inside c.make_minimal.ensures.minimal c.same.ensures.0 c.same.ensures.1
