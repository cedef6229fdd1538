use Rattle.std.proofs.Common.{◌≡◌, ◌<◌, ◌++◌, ◌∷◌, [], length, ℕ, List, append_assoc, sym, ◌∙◌, ap, arith}
use Rattle.std.proofs.lemmas.List.{append-nil}
use Rattle.std.proofs.lemmas.Option.{get_or_from_slice_get}
use Rattle.fbas_model.specs.Names.{Name}
use Rattle.fbas_model.specs.Nodes.{listed_from}
use Rattle.fbas_model.proofs.Listed.{iterated_below}
use Rattle.printed_lines.proofs.Lists.{named, named-more, named-all}
use Rattle.printed_lines.proofs.words.push_names.Goals as goal

pub name-requires : goal.name-requires
name-requires c =
    let whole = ap (λ (vs : List ℕ). c.loop-v.yielded ++ vs) (sym c.in-Some.ensures.steps) ∙ c.loop-v.invariant.0 in
    let low : c.in-Some.v < length c.args.set.now = iterated_below c.args.set.now c.loop-v.yielded c.next.new.self c.in-Some.v whole in
    let same = c.names-names.ensures.places in
    rw c.names-names.ensures.names (omega (arith, low, c.requires, same))

pub loop-v-preserved : goal.loop-v-preserved
loop-v-preserved c =
    let names = c.args.system.now.names in
    let ws = c.loop-v.yielded in
    let v = c.in-Some.v in
    let whole = ap (λ (vs : List ℕ). ws ++ vs) (sym c.in-Some.ensures.steps) ∙ c.loop-v.invariant.0 in
    let is = get_or_from_slice_get names v c.name.result.now [] (rw c.names-names.ensures.names at c.name.ensures) in (
      append_assoc ws (v ∷ []) c.next.new.self ∙ whole,
      c.in_ok-push_behind.ensures
          ∙ (ap (λ (t : List ℕ). t ++ (32 ∷ c.name.result.now)) c.loop-v.invariant.1
          ∙ (append_assoc c.args.text.now.items (named names ws) (32 ∷ c.name.result.now)
          ∙ ap (λ (t : List ℕ). c.args.text.now.items ++ t) (ap (λ (n : Name). named names ws ++ (32 ∷ n)) (sym is) ∙ sym (named-more names ws v)))),
    )

pub returns : goal.returns
returns c =
    let names = c.args.system.now.names in
    let ws = c.loop-v.yielded in
    let whole : ws ≡ listed_from 0 c.args.set.now = sym (append-nil ws) ∙ (ap (λ (vs : List ℕ). ws ++ vs) (sym c.in-None.ensures.steps.0) ∙ c.loop-v.invariant.0) in
    c.loop-v.invariant.1 ∙ ap (λ (t : List ℕ). c.args.text.now.items ++ t) (ap (named names) whole ∙ named-all names c.args.set.now (c.requires ∙ sym c.names-names.ensures.places))
