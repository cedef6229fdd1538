-- The loop over an array of keys, step by step.
use Rattle.std.proofs.Common.{◌≡◌, ℕ, ◌+◌, ◌<◌, ◌≤◌, length, drop, get_or, List, [], ◌∷◌, ◌++◌, Option, Some, None, option_map, sym, refl, ap, ◌∙◌, append_assoc, append-nil}
use Rattle.std.proofs.Math.ListN.{drop_of_length-le}
use Rattle.std.proofs.lemmas.List.{at_drop_more, map-append}
use Rattle.serde_json.specs.Data.{Data, Items, item}
use Rattle.node_json.specs.Tree.{Tree, view, items_view}
use denote.Ref.{Bor}
use Rattle.fbas_model.specs.Names.{Name}
use Rattle.node_json.specs.Reading.{key_of, keys_in}
use Rattle.node_json.specs.View.{names_view}

-- the keys read so far, and then the others
abbrev pub then_keys : List (Bor (List ℕ)) → Items → Option (List Name)
then_keys done ds = option_map (λ rest. names_view done ++ rest) (keys_in ds)

-- one more key that was read
then_keys-one : (done : List (Bor (List ℕ))) (key : Bor (List ℕ)) (d : Data) (ds : Items) → key_of d ≡ Some key.now → then_keys done (item d ds) ≡ then_keys (done ++ key ∷ []) ds
then_keys-one done key d ds k = rw k (after_one (keys_in ds))
  where
    after_one : (r : Option (List Name)) → option_map (λ rest. names_view done ++ rest) (option_map (λ ks. key.now ∷ ks) r) ≡ option_map (λ rest. names_view (done ++ key ∷ []) ++ rest) r
    after_one None = refl
    after_one (Some ks) = ap Some (sym (ap (λ (ns : List Name). ns ++ ks) (map-append (λ (name : Bor (List ℕ)). name.now) done (key ∷ [])) ∙ append_assoc (names_view done) (key.now ∷ []) ks))

module _ (all : Option (List Name)) (done : List (Bor (List ℕ))) (xs : List Tree) (i : ℕ) (inv : all ≡ then_keys done (items_view (drop i xs))) where
  module _ (v : Tree) (h : i < length xs) (is : v ≡ get_or xs i v) where
    at_item : all ≡ then_keys done (item (view v) (items_view (drop (i + 1) xs)))
    at_item = inv ∙ at_drop_more (λ vs. then_keys done (items_view vs)) xs i v h ∙ ap (λ w. then_keys done (item (view w) (items_view (drop (i + 1) xs)))) (sym is)

    -- a step of the loop
    pub keys_loop : (more : List (Bor (List ℕ))) (key : Bor (List ℕ)) → key_of (view v) ≡ Some key.now → more ≡ done ++ key ∷ [] → all ≡ then_keys more (items_view (drop (i + 1) xs))
    keys_loop more key k m = at_item ∙ then_keys-one done key (view v) (items_view (drop (i + 1) xs)) k ∙ ap (λ ks. then_keys ks (items_view (drop (i + 1) xs))) (sym m)

    -- an item that is no key
    pub keys_fault : key_of (view v) ≡ None → all ≡ None
    keys_fault k = at_item ∙ rw k refl

  pub keys_end : length xs ≤ i → all ≡ Some (names_view done)
  keys_end h = inv ∙ ap (λ vs. then_keys done (items_view vs)) (drop_of_length-le xs h) ∙ ap Some (append-nil (names_view done))
