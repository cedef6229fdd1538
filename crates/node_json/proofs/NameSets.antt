-- A set of texts as the names in order that it stands for.
use Rattle.std.proofs.Common.{◌≡◌, ℕ, List, [], ◌∷◌, Ordering, Less, Equal, Greater, nat_cmp, ◌||◌, refl, ap, ap₂, ◌∙◌}
use Rattle.std.proofs.lemmas.Map.Text.{is_eq-slice_cmp}
use Rattle.std.specs.BTreeSet.{insert_key}
use Rattle.std.specs.BTreeMap.{is_at}
use Rattle.std.specs.List.{list_any}
use Rattle.std.specs.Cmp.Lexicographic.{slice_cmp}
use Rattle.std.specs.Ordering.{match_ordering}
use denote.Ref.{Bor}
use Rattle.fbas_model.specs.Names.{name_cmp, is_among}
use Rattle.node_json.specs.NamesInOrder.{with_names}
use Rattle.node_json.specs.View.{names_view}

-- the order of the texts
abbrev text_cmp : Bor (List ℕ) → Bor (List ℕ) → Ordering
text_cmp a b = slice_cmp nat_cmp a.now b.now

pub contains-names : (k : Bor (List ℕ)) (ks : List (Bor (List ℕ))) → list_any (is_at (text_cmp k)) ks ≡ is_among k.now (names_view ks)
contains-names k [] = refl
contains-names k (x ∷ xs) = ap₂ (λ a b. a || b) (is_eq-slice_cmp k.now x.now) (contains-names k xs)

names_view-match : (o : Ordering) (a b c : List (Bor (List ℕ))) → names_view (match_ordering o a b c) ≡ match_ordering o (names_view a) (names_view b) (names_view c)
names_view-match Less a b c = refl
names_view-match Equal a b c = refl
names_view-match Greater a b c = refl

names_view-insert_key : (ks : List (Bor (List ℕ))) (k : Bor (List ℕ)) → names_view (insert_key text_cmp ks k) ≡ insert_key name_cmp (names_view ks) k.now
names_view-insert_key [] k = refl
names_view-insert_key (x ∷ xs) k = names_view-match (text_cmp k x) _ _ _ ∙ rw (names_view-insert_key xs k)

-- one more text
pub more_names : (ks more : List (Bor (List ℕ))) (k : Bor (List ℕ)) → more ≡ insert_key text_cmp ks k → names_view more ≡ with_names (names_view ks) (k.now ∷ [])
more_names ks more k m = ap names_view m ∙ names_view-insert_key ks k
