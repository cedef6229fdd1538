use Rattle.std.proofs.Common.{ap, ◌∙◌}
use Rattle.std.specs.List.{list_any}
use Rattle.lrat_checker.specs.declared.subsets.Watch.{Watch}
use Rattle.lrat_checker.specs.Subsets.{is_watch_of, list_at}
use Rattle.lrat_checker.proofs.SubsetLaws.{listed_new, found_kept, on_ok}
use Rattle.lrat_checker.proofs.subsets.SubsetIndex.put.Goals as goal

pub returns-clause-found : goal.returns-clause-found
returns-clause-found c =
    let code = c.code-code.result in
    let watch : Watch = record { id = c.args.id; signature = c.signature_of-signature.result } in
    on_ok c.push.result _ _ c.push.ensures.pushed
    (λ is. (
      code,
      c.code-code.ensures,
      ap (λ ls. list_any (is_watch_of c.args.id c.args.lits.now) (list_at ls code)) is ∙ listed_new c.args.self.now code watch c.push.ensures.within c.args.lits.now c.signature_of-signature.ensures,
    ))

pub returns-clause-kept : goal.returns-clause-kept
returns-clause-kept c =
    let watch : Watch = record { id = c.args.id; signature = c.signature_of-signature.result } in
    on_ok c.push.result _ _ c.push.ensures.pushed (λ is k clause found. found_kept c.args.self.now c.push.new.self c.code-code.result watch c.push.ensures.within is k clause found)
