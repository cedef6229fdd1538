-- Items that are gathered one after another.
use Rattle.std.proofs.Common.{◌≡◌, List, [], ◌∷◌, ◌++◌, map, refl, ap, ◌∙◌}
use Rattle.std.proofs.lemmas.List.{map-append}
use Rattle.serde_json.specs.Data.{Data, Items, no_items, item}
use Rattle.serde_json.specs.View.{view, items_of, items_view}
use Rattle.serde_json.specs.declared.value.Value.{Value}

-- items before others
abbrev pub onto : List Data → Items → Items
onto [] rest = rest
onto (d ∷ ds) rest = item d (onto ds rest)

onto-append : (ds es : List Data) (rest : Items) → onto (ds ++ es) rest ≡ onto ds (onto es rest)
onto-append [] es rest = refl
onto-append (d ∷ ds) es rest = ap (item d) (onto-append ds es rest)

onto-none : (ds : List Data) → onto ds no_items ≡ items_of ds
onto-none [] = refl
onto-none (d ∷ ds) = ap (item d) (onto-none ds)

-- one more value
pub onto_more : (vs : List Value) (v : Value) (d : Data) (rest : Items) → view v ≡ d → onto (map view (vs ++ v ∷ [])) rest ≡ onto (map view vs) (item d rest)
onto_more vs v d rest is = ap (λ (ds : List Data). onto ds rest) (map-append view vs (v ∷ [])) ∙ onto-append (map view vs) (view v ∷ []) rest ∙ ap (λ (e : Data). onto (map view vs) (item e rest)) is

-- all of them
pub onto_all : (vs : List Value) → onto (map view vs) no_items ≡ items_view vs
onto_all vs = onto-none (map view vs)
