use Rattle.std.proofs.Common.{sym, ap, ◌∙◌}
use Rattle.lrat_model.specs.Rat.{first_without}
use Rattle.lrat_checker.proofs.GroupLaws.{ids_in-groups}
use Rattle.lrat_checker.proofs.rat.without_group.Goals as goal

pub returns : goal.returns
returns c = c.first_missing.ensures ∙ sym (ap (first_without c.args.clauses.now.held c.args.l) (ids_in-groups 1 c.args.hints.now))
