use Rattle.std.proofs.Common.{ap, length, List}
use Rattle.cdcl_core.specs.declared.watches.Pair.{Pair}
use Rattle.cdcl_core.proofs.Deleting.{deletion_further, deletion_nearer}
use Rattle.cdcl_core.proofs.Going.{no_further}
use Rattle.cdcl_core.proofs.Parts.{does_not_fall}
use Rattle.cdcl_core.proofs.forgetting.forget.Goals as goal

pub delete-requires-clause-sorted : goal.delete-requires-clause-sorted
delete-requires-clause-sorted c = does_not_fall c.args.gone.now c.requires.chosen.rise

pub returns-in_err-delete-clause-further : goal.returns-in_err-delete-clause-further
returns-in_err-delete-clause-further c = λ left. no_further c.args.search.now c.delete.new.search left c.in_err-delete.ensures.unchanged c.requires.unrefuted.logging c.requires.unrefuted.still_open

pub returns-clause-further : goal.returns-clause-further
returns-clause-further c =
    let s = c.args.search.now in
    let was = c.requires.unrefuted in
    deletion_further s c.delete.new.search s.reasons.items c.args.gone.now c.in_ok-delete.ensures.deletion was.logging was.remembering c.requires.chosen c.requires.fewest c.requires.earned c.requires.room was.still_open c.requires.unclosed

pub returns-clause-nearer : goal.returns-clause-nearer
returns-clause-nearer c =
    let s = c.args.search.now in
    let made = c.in_ok-delete.ensures in
    deletion_nearer s c.delete.new.search s.reasons.items c.args.gone.now made.deletion c.requires.unrefuted.logging c.requires.unrefuted.remembering c.requires.chosen c.requires.fewest c.requires.earned (ap (λ (ps : List Pair). length ps) made.unwatched) made.searching
