use Rattle.std.proofs.Common.{◌≡◌, ◌<◌, ◌++◌, ◌∷◌, [], length, ℕ, List, append_assoc, sym, ◌∙◌, ap, arith}
use Rattle.std.proofs.lemmas.List.{append-nil, length-map}
use Rattle.std.proofs.lemmas.Option.{get_or_from_slice_get}
use Rattle.fbas_model.specs.Names.{Name}
use Rattle.fbas_model.specs.Nodes.{listed_from}
use Rattle.fbas_model.proofs.Listed.{iterated_below}
use Rattle.node_json.specs.Groups.{Group, texts_of}
use Rattle.printed_lines.proofs.Lists.{named, named-more, named-all}
use Rattle.printed_lines.proofs.groups.push_texts.Goals as goal

pub text-requires : goal.text-requires
text-requires c =
    let whole = ap (λ (vs : List ℕ). c.loop-at.yielded ++ vs) (sym c.in-Some.ensures.steps) ∙ c.loop-at.invariant.0 in
    let low : c.in-Some.at < length c.args.set.now = iterated_below c.args.set.now c.loop-at.yielded c.next.new.self c.in-Some.at whole in
    omega (arith, low, c.requires)

pub loop-at-preserved : goal.loop-at-preserved
loop-at-preserved c =
    let texts = texts_of c.args.groups.now in
    let ws = c.loop-at.yielded in
    let at = c.in-Some.at in
    let whole = ap (λ (vs : List ℕ). ws ++ vs) (sym c.in-Some.ensures.steps) ∙ c.loop-at.invariant.0 in
    let is = get_or_from_slice_get texts at c.text.result.now [] c.text.ensures in (
      append_assoc ws (at ∷ []) c.next.new.self ∙ whole,
      c.in_ok-push_behind.ensures
          ∙ (ap (λ (t : List ℕ). t ++ (32 ∷ c.text.result.now)) c.loop-at.invariant.1
          ∙ (append_assoc c.args.text.now.items (named texts ws) (32 ∷ c.text.result.now)
          ∙ ap (λ (t : List ℕ). c.args.text.now.items ++ t) (ap (λ (n : Name). named texts ws ++ (32 ∷ n)) (sym is) ∙ sym (named-more texts ws at)))),
    )

pub returns : goal.returns
returns c =
    let texts = texts_of c.args.groups.now in
    let ws = c.loop-at.yielded in
    let whole : ws ≡ listed_from 0 c.args.set.now = sym (append-nil ws) ∙ (ap (λ (vs : List ℕ). ws ++ vs) (sym c.in-None.ensures.steps.0) ∙ c.loop-at.invariant.0) in
    c.loop-at.invariant.1 ∙ ap (λ (t : List ℕ). c.args.text.now.items ++ t) (ap (named texts) whole ∙ named-all texts c.args.set.now (c.requires ∙ sym (length-map c.args.groups.now (λ (group : Group). group.text))))
