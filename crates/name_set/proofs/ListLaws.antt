-- The items of a text, one after another, and the marks of the names that they are.
use Rattle.std.proofs.Common.{◌≡◌, ℕ, ◌+◌, ◌<◌, ◌≤◌, ◌==◌, true, false, List, [], ◌∷◌, ◌++◌, length, refl, sym, ◌∙◌, ap, arith, take, drop, add-one, Some, Ok, Err, slice_get, slice_index_or, Result}
use Rattle.std.specs.List.{slice_split}
use Rattle.std.proofs.Math.Seq.{take-suc}
use Rattle.std.proofs.lemmas.Bool.{eqb-true}
use Rattle.std.proofs.lemmas.List.{take_all, drop_all, drop_more}
use Rattle.fbas_model.specs.Nodes.{Table, members, only, ◌∪◌}
use Rattle.fbas_model.specs.Names.{Name, marks}
use Rattle.fbas_model.proofs.Marks.{marks-found}
use Rattle.name_set.specs.Lists.{items_of, node_at, unless_fault, unless_faulty, names_read}
use Rattle.name_set.specs.declared.lists.NameFault.{NameFault}

-- what stands between the commas
abbrev pub parts : List ℕ → List Name
parts text = slice_split (λ b. b == 44) text

pub items-parts : (text : List ℕ) → (length text == 0) ≡ false → items_of text ≡ parts text
items-parts [] h = absurd cc
items-parts (b ∷ bytes) h = refl

-- ---- the marks of the items so far

take-item : (items : List Name) (i : ℕ) (item : Name) → i < length items → item ≡ slice_index_or items i item → take (i + 1) items ≡ take i items ++ item ∷ []
take-item items i item h e = rw (add-one, take-suc items i item h, ← e) refl

-- the node of one more item is put into the set
pub marked_more : (names : List Name) (old new : Table) (items : List Name) (i v : ℕ) (item : Name) → i < length items → item ≡ slice_index_or items i item → slice_get names v ≡ Some item → ((other : ℕ) → slice_get names other ≡ Some item → other ≡ v) → length new ≡ length names → members new ≡ members old ∪ only v → old ≡ marks names (take i items) → new ≡ marks names (take (i + 1) items)
marked_more names old new items i v item h e at only_there size added was =
    marks-found names old new (take i items) item v at only_there size added was ∙ ap (marks names) (sym (take-item items i item h e))

-- the item at hand stands at the place that is counted
pub item_here : (items : List Name) (i n : ℕ) (item : Name) → i ≡ n → (n < length items) × (item ≡ slice_index_or items n item) → (i < length items) × (item ≡ slice_index_or items i item)
item_here items i n item counted turn = rw counted turn

-- ---- the first fault

module _ (names items : List Name) (r : Result Table NameFault) (i : ℕ) (item : Name) (h : i < length items) (e : item ≡ slice_index_or items i item) where
  -- what the item at place i + 1 says
  faulty-step : unless_faulty names (i + 1) (drop i items) r ≡ unless_fault (node_at names (i + 1) item) (unless_faulty names (i + 1 + 1) (drop (i + 1) items) r)
  faulty-step = rw (drop_more items i item h, ← e) refl

  -- an item that is a node
  pub known_more : (v : ℕ) → node_at names (i + 1) item ≡ Ok v → unless_faulty names (i + 1) (drop i items) r ≡ unless_faulty names (i + 1 + 1) (drop (i + 1) items) r
  known_more v ok = faulty-step ∙ ap (λ (x : Result ℕ NameFault). unless_fault x (unless_faulty names (i + 1 + 1) (drop (i + 1) items) r)) ok

  -- a faulty item
  pub faulty_here : (f : NameFault) → node_at names (i + 1) item ≡ Err f → unless_faulty names (i + 1) (drop i items) r ≡ Err f
  faulty_here f err = faulty-step ∙ ap (λ (x : Result ℕ NameFault). unless_fault x (unless_faulty names (i + 1 + 1) (drop (i + 1) items) r)) err

-- ---- the whole text

pub read-nothing : (text : List ℕ) (names : List Name) (t : Table) → (length text == 0) ≡ true → t ≡ marks names [] → names_read text names ≡ Ok t
unfolding names_read
read-nothing [] names t h e = ap Ok (sym e)
read-nothing (b ∷ bytes) names t h e = absurd (let k = eqb-true (length (b ∷ bytes)) 0 h in omega arith)

-- the text that is not empty
pub read-parts : (text : List ℕ) (names : List Name) → (length text == 0) ≡ false → names_read text names ≡ unless_faulty names 1 (parts text) (Ok (marks names (parts text)))
unfolding names_read
read-parts text names h = rw (items-parts text h) refl

pub read_all : (text : List ℕ) (names : List Name) (t : Table) (i : ℕ) → (length text == 0) ≡ false → i ≡ length (parts text) → unless_faulty names 1 (parts text) (Ok (marks names (parts text))) ≡ unless_faulty names (i + 1) (drop i (parts text)) (Ok (marks names (parts text))) → t ≡ marks names (take i (parts text)) → names_read text names ≡ Ok t
read_all text names t i h all known marked =
    let past : length (parts text) ≤ i = omega arith in
    read-parts text names h ∙ known ∙ rw (drop_all i (parts text) past) refl ∙ ap Ok (sym (marked ∙ ap (marks names) (take_all i (parts text) past)))
