use Rattle.std.proofs.Common.{◌≡◌, ◌<◌, ◌∙◌, ℕ, List, length, get_or, ap, subst, arith}
use Rattle.std.proofs.lemmas.List.{get_or_default}
use Rattle.counter_expansion.proofs.WrittenLaws.{more_heads_written, heads_written}
use Rattle.counter_expansion.proofs.writing.write_heads.Goals as goal

pub loop-place-preserved : goal.loop-place-preserved
loop-place-preserved c =
    let heads : List ℕ = c.as_slice-heads.result.now in
    let items : List ℕ = c.args.counter.now.heads.items in
    let i : ℕ = c.loop-place.place in
    let same_list : heads ≡ items = c.as_slice-heads.ensures.value in
    let within : i < length items = subst (λ (xs : List ℕ). i < length xs) same_list c.loop-place-test.true in
    let is : get_or heads i 0 ≡ get_or items i (get_or heads i 0) = ap (λ (xs : List ℕ). get_or xs i 0) same_list ∙ get_or_default items i 0 (get_or heads i 0) within in
    more_heads_written c.args.counter.now c.args.store.now.held c.loop-place.store.held c.write_choices.new.written.held i (get_or heads i 0) c.loop-place.invariant is within
    c.in_ok-write_choices.ensures.choices c.in_ok-write_choices.ensures.kept c.in_ok-write_choices.ensures.range

pub returns-clause-written : goal.returns-clause-written
returns-clause-written c =
    heads_written c.args.counter.now c.loop-place.store.held
    (λ i d less within. c.loop-place.invariant.chosen i d (omega (arith, within, ap length c.as_slice-heads.ensures.value, c.loop-place-test.false)) within)
