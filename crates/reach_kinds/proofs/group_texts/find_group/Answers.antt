use Rattle.std.proofs.Common.{◌≡◌, ◌+◌, ◌-◌, ◌/◌, arith, ◌∙◌, sym, ap, [], slice_index_or}
use Rattle.std.proofs.lemmas.List.{length-map}
use Rattle.std.proofs.lemmas.Option.{get_or_from_slice_get}
use Rattle.fbas_model.specs.Names.{Name, name_cmp}
use Rattle.fbas_model.proofs.SortedNames.{place-only}
use Rattle.node_json.specs.Groups.{Group, texts_of}
use Rattle.reach_kinds.proofs.GroupTexts.{raised, lowered, found, nowhere}
use Rattle.reach_kinds.proofs.group_texts.find_group.Goals as goal

pub loop-low-init : goal.loop-low-init
loop-low-init c = record {
  fits = omega (arith, c.len-high.ensures.count, length-map c.args.groups.now (λ (group : Group). group.text));
  below = λ k h. absurd (omega arith);
  above = λ k g h. absurd (omega (arith, c.len-high.ensures.count, length-map c.args.groups.now (λ (group : Group). group.text)));
}

pub text-requires : goal.text-requires
text-requires c = omega (arith, c.loop-low.invariant.fits, length-map c.args.groups.now (λ (group : Group). group.text))

pub loop-low-preserved-in-Less : goal.loop-low-preserved-in-Less
loop-low-preserved-in-Less c =
    let texts = texts_of c.args.groups.now in
    let m = c.loop-low.low + (c.loop-low.high - c.loop-low.low) / 2 in
    let here : slice_index_or texts m [] ≡ c.text.result.now = get_or_from_slice_get texts m c.text.result.now [] c.text.ensures in
    raised texts c.requires c.args.text.now c.loop-low.low c.loop-low.high m c.loop-low.invariant (omega arith) (omega arith) (ap (λ (n : Name). name_cmp n c.args.text.now) here ∙ sym c.cmp.ensures ∙ c.in-Less.is)

pub loop-low-preserved : goal.loop-low-preserved
loop-low-preserved c =
    let texts = texts_of c.args.groups.now in
    let m = c.loop-low.low + (c.loop-low.high - c.loop-low.low) / 2 in
    let here : slice_index_or texts m [] ≡ c.text.result.now = get_or_from_slice_get texts m c.text.result.now [] c.text.ensures in
    lowered texts c.requires c.args.text.now c.loop-low.low c.loop-low.high m c.loop-low.invariant (omega arith) (omega arith) (ap (λ (n : Name). name_cmp n c.args.text.now) here ∙ sym c.cmp.ensures ∙ c.in-Greater.is)

pub returns-in-Equal : goal.returns-in-Equal
returns-in-Equal c =
    let texts = texts_of c.args.groups.now in
    let m = c.loop-low.low + (c.loop-low.high - c.loop-low.low) / 2 in
    let at : slice_index_or texts m [] ≡ c.text.result.now = get_or_from_slice_get texts m c.text.result.now [] c.text.ensures in
    let here = found texts c.requires c.args.text.now c.loop-low.low c.loop-low.high m c.loop-low.invariant (omega arith) (omega arith) (ap (λ (n : Name). name_cmp n c.args.text.now) at ∙ sym c.cmp.ensures ∙ c.in-Equal.is) in
    record {
      found = here;
      below = omega (arith, c.loop-low.invariant.fits, length-map c.args.groups.now (λ (group : Group). group.text));
      only = λ other there. place-only texts c.args.text.now m other c.requires here there;
    }

pub returns : goal.returns
returns c = record {
  found = nowhere (texts_of c.args.groups.now) c.args.text.now c.loop-low.low c.loop-low.high c.loop-low.invariant c.loop-low-test.false;
  below = tt;
  only = tt;
}
