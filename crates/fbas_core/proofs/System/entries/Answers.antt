use Rattle.std.proofs.Common.{◌<◌, arith, length, ap, ◌∙◌, sym, take_all}
use Rattle.fbas_core.proofs.Sums.{entries_at, entries_in-sum, entries_within}
use Rattle.fbas_core.proofs.System.entries.Goals as goal

pub entries-entries-requires : goal.entries-entries-requires
entries-entries-requires c =
    let sets = c.self.inside.sets.items in
    let in_range : c.loop-set.set-index < length sets = rw (← c.deref-set-items.ensures.value) c.loop-set-test.true in
    let within = entries_within sets c.loop-set.set-index c.set-item.result in_range (rw c.deref-set-items.ensures.value at c.set-item.is) in
    let here = ap entries_at c.in-Some.is in
    omega (arith, c.self.invariant.0.entries)

pub overflow_add-entries : goal.overflow_add-entries
overflow_add-entries c =
    let sets = c.self.inside.sets.items in
    let in_range : c.loop-set.set-index < length sets = rw (← c.deref-set-items.ensures.value) c.loop-set-test.true in
    let within = entries_within sets c.loop-set.set-index c.set-item.result in_range (rw c.deref-set-items.ensures.value at c.set-item.is) in
    let here = ap entries_at c.in-Some.is in
    let sum = rw c.deref-set-items.ensures.value at c.loop-set.invariant in
    omega (arith, sum, c.self.invariant.0.entries)

pub returns : goal.returns
returns c =
    let all = take_all c.loop-set.set-index c.deref-set-items.result.now c.loop-set-test.false ∙ c.deref-set-items.ensures.value in
    let sum = rw all at c.loop-set.invariant in
    rw (← c.self.view_is) (sum ∙ sym (entries_in-sum c.self.inside.sets.items))
