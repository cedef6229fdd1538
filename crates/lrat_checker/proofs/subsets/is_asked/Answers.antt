use Rattle.std.proofs.Common.{◌≡◌, sym, ap, ◌∙◌}
use Rattle.std.specs.Prelude.{bit_or}
use Rattle.lrat_checker.specs.Keys.{signature_of}
use Rattle.lrat_checker.proofs.SignatureLaws.{other_missing}
use Rattle.lrat_checker.proofs.subsets.is_asked.Goals as goal

pub returns-then-asked-watch-clause-no : goal.returns-then-asked-watch-clause-no
returns-then-asked-watch-clause-no c = λ _ k clause _ _ subset.
    let lits = c.args.asked.now.lits.now in
    let w = c.args.watch.now in
    let signed : c.args.asked.now.signature ≡ signature_of lits = c.requires in
    other_missing k clause lits w (λ same. c.if-asked-watch.true (ap (λ s. bit_or s w.signature) signed ∙ same ∙ sym signed)) subset
