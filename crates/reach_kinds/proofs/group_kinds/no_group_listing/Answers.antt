use Rattle.std.proofs.Common.{ℕ, ap, ◌∙◌}
use Rattle.enumeration_journal.specs.Journals.{nothing_held}
use Rattle.reach_kinds.specs.Bodies.{list_checking}
use Rattle.reach_kinds.proofs.GroupTaken.{no_group_listing_of}
use Rattle.reach_kinds.proofs.group_kinds.no_group_listing.Goals as goal

pub returns-in-Ok : goal.returns-in-Ok
returns-in-Ok c = no_group_listing_of c.args.kind c.args.over c.in-Ok.checker _ c.new.result (c.in-Ok.ensures ∙ ap (λ (n : ℕ). list_checking n nothing_held) c.count.ensures) c.new.ensures
