use Rattle.std.proofs.Common.{sym, ◌∙◌}
use Rattle.enumeration_journal.proofs.TestLaws.{is_kind_to}
use Rattle.reach_kinds.proofs.ListKnown.{kind_where_minimal}
use Rattle.reach_kinds.proofs.list_sets.right_set.Goals as goal

pub is_minimal_if-requires-clause-is : goal.is_minimal_if-requires-clause-is
is_minimal_if-requires-clause-is c = λ asked.
    let k = c.args.listing.now in
    let kind = kind_where_minimal k.sought c.args.which k.part.system.sets k.part.faulty c.args.set.now (sym c.asks_minimal.ensures ∙ asked) (sym c.is_listed_for.ensures.value ∙ c.if-not-is_listed_for.false) in
    is_kind_to c.args.which k.part.system.sets k.part.faulty c.args.set.now c.requires.same_faulty c.requires.same_n kind
