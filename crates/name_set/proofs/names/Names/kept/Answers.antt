use Rattle.std.proofs.Common.{◌≡◌, ◌<◌, ◌++◌, [], ◌∷◌, List, ℕ, Vec, Global, length, map, append_assoc, sym, ◌∙◌, ap, ap₂, subst, arith}
use Rattle.std.specs.Prelude.{slice_index_or}
use Rattle.std.specs.List.Sorted.{IsStrictlySortedBy}
use Rattle.std.proofs.lemmas.List.{map-append, length-map, append-nil}
use Rattle.std.proofs.lemmas.Option.{get_or_from_slice_get}
use Rattle.fbas_model.specs.Names.{Name, name_cmp}
use Rattle.fbas_model.specs.Nodes.{listed_from}
use Rattle.fbas_model.specs.Restriction.{kept}
use Rattle.fbas_model.proofs.Kept.{length-kept}
use Rattle.fbas_model.proofs.Listed.{iterated_below, kept_listed}
use Rattle.fbas_model.proofs.SortedNames.{kept_sorted}
use Rattle.name_set.proofs.names.Names.kept.Goals as goal

pub name-requires : goal.name-requires
name-requires c =
    let whole = ap (λ (ws : List ℕ). c.loop-at.yielded ++ ws) (sym c.in-Some.ensures.steps) ∙ c.loop-at.invariant.0 in
    let low : c.in-Some.at < length c.args.kept.now = iterated_below c.args.kept.now c.loop-at.yielded c.next.new.self c.in-Some.at whole in
    omega (arith, low, c.requires)

pub loop-at-preserved : goal.loop-at-preserved
loop-at-preserved c =
    let ws = c.loop-at.yielded in
    let v = c.in-Some.at in
    let names = c.args.self.now in
    let whole = ap (λ (vs : List ℕ). ws ++ vs) (sym c.in-Some.ensures.steps) ∙ c.loop-at.invariant.0 in
    let text = λ (name : Vec ℕ Global). name.items in
    let named = λ (v : ℕ). slice_index_or names v [] in (
      append_assoc ws (v ∷ []) c.next.new.self ∙ whole,
      rw c.in_ok-push.ensures.items
          (map-append text c.loop-at.list.items (c.in_ok-from_slice.field-0 ∷ [])
          ∙ (ap₂ (λ (xs : List Name) (x : Name). xs ++ x ∷ []) c.loop-at.invariant.1 (c.in_ok-from_slice.ensures.items ∙ sym (get_or_from_slice_get names v c.name.result.now [] c.name.ensures))
          ∙ sym (map-append named ws (v ∷ [])))),
    )

pub invariant_of-result : goal.invariant_of-result
invariant_of-result c =
    let ws = c.loop-at.yielded in
    let t = c.args.kept.now in
    let names = c.args.self.now in
    let whole : ws ≡ listed_from 0 t = sym (append-nil ws) ∙ (ap (λ (vs : List ℕ). ws ++ vs) (sym c.in-None.ensures.steps.0) ∙ c.loop-at.invariant.0) in
    let all : map (λ name. name.items) c.loop-at.list.items ≡ kept t names = c.loop-at.invariant.1 ∙ (ap (λ (vs : List ℕ). map (λ v. slice_index_or names v []) vs) whole ∙ sym (kept_listed t names [] c.requires)) in
    let size : length c.loop-at.list.items ≡ length (kept t names) = sym (length-map c.loop-at.list.items (λ name. name.items)) ∙ ap (λ (ns : List Name). length ns) all in
    (subst (λ (ns : List Name). IsStrictlySortedBy name_cmp ns) (sym all) (kept_sorted t names c.rise.ensures), omega (arith, size, length-kept t names c.requires, c.count.ensures, c.count.type_inv))

pub returns : goal.returns
returns c =
    let ws = c.loop-at.yielded in
    let whole : ws ≡ listed_from 0 c.args.kept.now = sym (append-nil ws) ∙ (ap (λ (vs : List ℕ). ws ++ vs) (sym c.in-None.ensures.steps.0) ∙ c.loop-at.invariant.0) in
    c.loop-at.invariant.1 ∙ (ap (λ (vs : List ℕ). map (λ v. slice_index_or c.args.self.now v []) vs) whole ∙ sym (kept_listed c.args.kept.now c.args.self.now [] c.requires))
