use Rattle.std.proofs.Common.{◌≡◌, ◌<◌, ◌≤◌, ◌∷◌, true, List, length, filter, arith, sym, subst, ◌∙◌}
use Rattle.std.specs.Prelude.{slice_index, slice_index_or}
use Rattle.std.proofs.lemmas.List.{get_or_default}
use Rattle.lrat_model.specs.Literal.{Literal, Minus, has, negated}
use Rattle.cardinality_counts.specs.declared.gate.Gate.{Gate}
use Rattle.cardinality_counts.specs.Gates.{IsOpen, is_part}
use Rattle.cardinality_counts.proofs.CountLaws.{open_more}
use Rattle.cardinality_counts.proofs.gates.Gates.are_quiet.Goals as goal

pub loop-place-preserved : goal.loop-place-preserved
loop-place-preserved c =
    let gate : Gate = c.gate-item.result in
    let within : c.loop-place.place < length c.args.self.now.gates.items = omega arith in
    let is : gate ≡ slice_index_or c.args.self.now.gates.items c.loop-place.place gate = subst (λ (xs : List Gate). gate ≡ slice_index_or xs c.loop-place.place gate) c.deref-gate-items.ensures.value c.gate-item.is in
    let at : (d : Gate) → slice_index_or c.args.self.now.gates.items c.loop-place.place d ≡ gate = λ d. get_or_default c.args.self.now.gates.items c.loop-place.place d gate within ∙ sym is in
    let counted : c.loop-place.place < length c.args.self.now.counts.items = omega (arith, c.requires.counting.long, within) in
    let count : c.index.result.now ≡ slice_index c.args.self.now.counts.items c.loop-place.place = c.index.ensures ∙ get_or_default c.args.self.now.counts.items c.loop-place.place c.index.result.now 0 counted in
    let quiet : (set : List Literal) → length set ≡ gate.size → is_part set gate.inputs.items ≡ true → length (filter (λ l. has c.args.assignment.now.trues (negated l)) set) ≤ slice_index c.args.self.now.counts.items c.loop-place.place → IsOpen c.args.assignment.now.trues (Minus gate.head ∷ set) =
    λ set long part few. c.is_quiet.ensures c.if-not-is_quiet.false set long part (omega (arith, few, count)) in
    open_more c.args.self.now c.args.assignment.now.trues c.requires.counting c.requires.counted c.loop-place.place within gate at c.loop-place.invariant quiet
