use Rattle.std.proofs.Common.{◌+◌, ◌<◌, ℕ, sym, ap, ◌∙◌, arith, length, cond, refl}
use Rattle.std.specs.Ordering.{is_lt}
use Rattle.std.proofs.lemmas.Option.{get_or_from_slice_get}
use Rattle.fbas_model.specs.Names.{name_cmp}
use Rattle.quorum_set.proofs.Counting.{count_step}
use Rattle.whatif_session.proofs.NewNames.{at_most_one}
use Rattle.whatif_session.proofs.naming.place_for.Goals as goal

pub loop-at-preserved : goal.loop-at-preserved
loop-at-preserved c =
    let names = c.args.names.now in
    let name = c.args.name.now in
    let at = c.loop-at.at in
    let one = c.name.result.now in
    let low : at < length names = omega (arith, c.loop-at-test.true, c.len-at-end.ensures) in
    let here = get_or_from_slice_get names at one one c.name.ensures in
    let more = count_step (λ n. is_lt (name_cmp n name)) names at one (is_lt (name_cmp one name)) low (sym here) refl in (
      c.count_before-place.ensures ∙ ap (λ (n : ℕ). n + cond (is_lt (name_cmp one name)) 1 0) c.loop-at.invariant.0 ∙ sym more,
      omega (arith, c.count_before-place.ensures, c.loop-at.invariant.1, at_most_one (is_lt (name_cmp one name))),
    )
