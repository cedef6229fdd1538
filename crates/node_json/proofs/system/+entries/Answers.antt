use Rattle.std.proofs.Common.{◌≡◌, ℕ, ◌+◌, ◌<◌, List, length, drop, get_or, arith, rules, sym, ap, ◌∙◌}
use Rattle.std.proofs.lemmas.List.{at_drop_more}
use Rattle.fbas_model.specs.QuorumSets.{all_entries, all_entries_of}
use Rattle.fbas_model.specs.Trees.{QuorumSet}
use Rattle.fbas_model.specs.Lists.{inner_entries}
use Rattle.node_json.proofs.Numbering.{entries_end}
use Rattle.node_json.proofs.system.+entries.Goals as goal

-- the entries of one more inner quorum set
entries_more : (qs : List QuorumSet) (i : ℕ) (q : QuorumSet) → i < length qs → q ≡ get_or qs i q
    → all_entries_of (inner_entries (drop i qs)) ≡ 1 + all_entries q + all_entries_of (inner_entries (drop (i + 1) qs))
entries_more qs i q h is = at_drop_more (λ xs. all_entries_of (inner_entries xs)) qs i q h ∙ ap (λ x. 1 + all_entries x + all_entries_of (inner_entries (drop (i + 1) qs))) (sym is)

pub loop-inner-preserved : goal.loop-inner-preserved
loop-inner-preserved t c =
    let xs = c.deref-inner-items.result.now in
    let i = c.loop-inner.inner-index in
    let q = c.inner-item.result in
    let inside : i < length xs = omega arith in
    let here : all_entries_of (inner_entries (drop i xs)) ≡ 1 + all_entries q + all_entries_of (inner_entries (drop (i + 1) xs)) = entries_more xs i q inside c.inner-item.is in
    let counted : c.in_ok-entries.field-0 ≡ all_entries q = c.in_ok-entries.ensures in
    let all : c.len-n.result + all_entries_of (inner_entries xs) ≡ c.in_ok-n.n + all_entries_of (inner_entries (drop (i + 1) xs)) = omega (arith, c.loop-inner.invariant, here, counted, c.in_ok-n.ensures) in
    all

pub returns : goal.returns
returns t c =
    let s = c.set.inside in
    let xs = c.deref-inner-items.result.now in
    let whole : xs ≡ s.inner.items = c.deref-inner-items.ensures.value in
    let counted : c.len-n.result ≡ length s.validators.items = search rules in
    let inv : length s.validators.items + all_entries_of (inner_entries xs) ≡ c.loop-inner.n + all_entries_of (inner_entries (drop c.loop-inner.inner-index xs)) = rw (← counted) c.loop-inner.invariant in
    entries_end s.threshold c.loop-inner.n s.validators.items xs c.loop-inner.inner-index c.loop-inner-test.false inv ∙ rw (whole, ← c.set.view_is)
