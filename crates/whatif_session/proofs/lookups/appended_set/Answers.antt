use Rattle.std.proofs.Common.{◌≡◌, ◌<◌, ◌+◌, ◌-◌, length, arith, inr, ap, rules, Some}
use Rattle.std.specs.Prelude.{set}
use Rattle.fbas_model.specs.QuorumSets.{all_entries}
use Rattle.fbas_model.specs.Systems.{entries_in}
use Rattle.fbas_model.specs.Names.{place_of}
use Rattle.whatif_session.specs.declared.change.Change.TheVariants as change
use Rattle.whatif_session.proofs.Limits.{grown}
use Rattle.whatif_session.proofs.EditLaws.{own_few, entries_then, append_many, append_yes}
use Rattle.whatif_session.proofs.lookups.appended_set.Goals as goal

pub entries-requires : goal.entries-requires
entries-requires c =
    let s = c.args.system.now in
    let is = c.in_ok-v.ensures.ok in
    let most = is.limits.entries in
    omega (arith, own_few s c.in_ok-v.v c.in_ok-v.own.now is.low is.is, most)

pub overflow_sub-entries : goal.overflow_sub-entries
overflow_sub-entries c =
    let s = c.args.system.now in
    let is = c.in_ok-v.ensures.ok in
    omega (arith, own_few s c.in_ok-v.v c.in_ok-v.own.now is.low is.is, c.requires, c.entries.ensures)

pub entries-requires-2 : goal.entries-requires-2
entries-requires-2 c =
    let s = c.args.system.now in
    let is = c.in_ok-v.ensures.ok in
    let most = is.limits.entries in
    let set_is = ap all_entries c.in_ok-set.ensures in
    omega (arith, set_is, grown c.args.path.now (change.Add c.in_ok-w.w) c.in_ok-v.own.now, own_few s c.in_ok-v.v c.in_ok-v.own.now is.low is.is, most)

pub overflow_add-entries : goal.overflow_add-entries
overflow_add-entries c =
    let s = c.args.system.now in
    let is = c.in_ok-v.ensures.ok in
    let most = is.limits.entries in
    let set_is = ap all_entries c.in_ok-set.ensures in
    omega (arith, set_is, grown c.args.path.now (change.Add c.in_ok-w.w) c.in_ok-v.own.now, own_few s c.in_ok-v.v c.in_ok-v.own.now is.low is.is, most, c.requires, c.entries.ensures, c.entries-2.ensures)

pub returns-then-entries-gt-MOST_ENTRIES-clause-err : goal.returns-then-entries-gt-MOST_ENTRIES-clause-err
returns-then-entries-gt-MOST_ENTRIES-clause-err c =
    let s = c.args.system.now in
    let is = c.in_ok-v.ensures.ok in
    let n = c.args.entries - c.entries.result + c.entries-2.result in
    let at : place_of s.names c.args.name.now ≡ Some c.in_ok-w.w = search rules in
    let counted : n ≡ entries_in (set s.sets c.in_ok-v.v (Some c.in_ok-set.set)) = omega (arith, entries_then s c.in_ok-v.v c.in_ok-v.own.now c.in_ok-set.set is.low is.is, c.requires, c.entries.ensures, c.entries-2.ensures) in
    inr (append_many s c.args.node.now c.args.path.now c.args.name.now c.in_ok-v.v c.in_ok-w.w c.in_ok-v.own.now c.in_ok-set.set is at c.in_ok-set.ensures n counted c.if-entries-gt-MOST_ENTRIES.true)

pub returns-clause-ok : goal.returns-clause-ok
returns-clause-ok c =
    let s = c.args.system.now in
    let is = c.in_ok-v.ensures.ok in
    let n = c.args.entries - c.entries.result + c.entries-2.result in
    let at : place_of s.names c.args.name.now ≡ Some c.in_ok-w.w = search rules in
    let low : c.in_ok-w.w < length s.sets = search rules in
    let counted : n ≡ entries_in (set s.sets c.in_ok-v.v (Some c.in_ok-set.set)) = omega (arith, entries_then s c.in_ok-v.v c.in_ok-v.own.now c.in_ok-set.set is.low is.is, c.requires, c.entries.ensures, c.entries-2.ensures) in
    append_yes s c.args.node.now c.args.path.now c.args.name.now c.in_ok-v.v c.in_ok-w.w c.in_ok-v.own.now c.in_ok-set.set is at c.in_ok-set.ensures n counted (omega (arith, c.if-entries-gt-MOST_ENTRIES.false)) low
