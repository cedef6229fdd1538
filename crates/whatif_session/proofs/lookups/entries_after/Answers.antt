use Rattle.std.proofs.Common.{rules, ◌≡◌, ◌+◌, ap, ◌∙◌, arith, None, slice_index_or, slice_set}
use Rattle.std.specs.Option.{option_copied}
use Rattle.fbas_model.specs.Systems.{entries_in}
use Rattle.whatif_session.specs.Changes.{entries_if_any}
use Rattle.whatif_session.proofs.Limits.{entries_set, no_more_than_all, own_entries}
use Rattle.whatif_session.proofs.lookups.entries_after.Goals as goal

pub entries_if_any-after-requires : goal.entries_if_any-after-requires
entries_if_any-after-requires c =
    let sets = c.args.system.now.sets in
    let v = c.args.v in
    let is : option_copied c.as_ref.result ≡ c.args.set.now = search rules in
    let sum : entries_in (slice_set sets v c.args.set.now) + entries_if_any (slice_index_or sets v None) ≡ entries_in sets + entries_if_any c.args.set.now = entries_set sets v c.args.set.now c.requires.node in
    rw is (omega (arith, sum, no_more_than_all sets v c.requires.node, c.requires.few))

pub overflow_sub-result : goal.overflow_sub-result
overflow_sub-result c =
    let own = own_entries c.args.system.now.sets c.args.v (option_copied c.quorum_set.result) c.entries_if_any-before.result c.requires.node c.quorum_set.ensures.set c.entries_if_any-before.ensures in
    omega (arith, own.1, c.requires.entries)

pub overflow_add-result : goal.overflow_add-result
overflow_add-result c =
    let own = own_entries c.args.system.now.sets c.args.v (option_copied c.quorum_set.result) c.entries_if_any-before.result c.requires.node c.quorum_set.ensures.set c.entries_if_any-before.ensures in
    let after : c.entries_if_any-after.result ≡ entries_if_any c.args.set.now = c.entries_if_any-after.ensures ∙ ap entries_if_any (search rules) in
    omega (arith, own.0, own.1, after, entries_set c.args.system.now.sets c.args.v c.args.set.now c.requires.node, c.requires.entries, c.requires.few)

pub returns : goal.returns
returns c =
    let own = own_entries c.args.system.now.sets c.args.v (option_copied c.quorum_set.result) c.entries_if_any-before.result c.requires.node c.quorum_set.ensures.set c.entries_if_any-before.ensures in
    let after : c.entries_if_any-after.result ≡ entries_if_any c.args.set.now = c.entries_if_any-after.ensures ∙ ap entries_if_any (search rules) in
    omega (arith, own.0, own.1, after, entries_set c.args.system.now.sets c.args.v c.args.set.now c.requires.node, c.requires.entries)
