-- The names in a list, one after another.
use Rattle.std.proofs.Common.{◌≡◌, ℕ, ◌+◌, ◌<◌, List, [], ◌∷◌, ◌++◌, length, take, get_or, refl, add-one, take-suc, Bor}
use Rattle.std.proofs.lemmas.List.{map-append}
use Rattle.fbas_model.specs.Names.{Name}
use Rattle.node_json.specs.View.{names_view}

-- the names up to one more
pub names-more : (list : List (Bor Name)) (i : ℕ) (d : Bor Name) (item : Name) → i < length list → item ≡ (get_or list i d).now → names_view (take (i + 1) list) ≡ names_view (take i list) ++ item ∷ []
names-more list i d item h is = rw (add-one, take-suc list i d h, map-append (λ (n : Bor Name). n.now) (take i list) (get_or list i d ∷ []), is) refl
