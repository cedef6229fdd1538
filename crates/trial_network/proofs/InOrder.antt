-- Lists that are made one after another: the names of the nodes, and the inner sets.
use Rattle.std.proofs.Common.{◌≡◌, ℕ, zero, suc, ◌+◌, ◌*◌, ◌≤◌, List, [], ◌∷◌, ◌++◌, map, replicate, refl, sym, ap, ◌∙◌, arith}
use Rattle.std.specs.Global.{Vec}
use Rattle.std.specs.List.Sorted.{IsStrictlySortedBy}
use Rattle.std.proofs.lemmas.List.{map-append}
use Rattle.fbas_model.specs.Names.{Name, name_cmp, AreNamesOf}
use Rattle.fbas_model.specs.Lists.{inner_entries}
use Rattle.fbas_model.specs.Trees.{QuorumSet, inner}
use Rattle.node_json.specs.NamesInOrder.{in_order}
use Rattle.node_json.proofs.NamesInOrder.{is_among-in_order, in_order-sorted, names_in_order, same_names}
use Rattle.trial_network.specs.declared.configuration.TheConstants.{MOST_ORGANISATIONS}
use Rattle.trial_network.specs.Trial.{node_name, names_from, organisation_set, organisation_sets}
use Rattle.trial_network.proofs.NodeNames.{names-more, names-sorted}

-- one name more
name_more : (names : List Name) (at : ℕ) (name : Name) → names ≡ names_from 0 at → name ≡ node_name at → names ++ name ∷ [] ≡ names_from 0 (at + 1)
name_more names at name are is =
    let e : 0 + at ≡ at = omega arith in
    let f : suc at ≡ at + 1 = omega arith in
    ap (λ (ns : List Name). ns ++ name ∷ []) are ∙ ap (λ (n : Name). names_from 0 at ++ n ∷ []) (is ∙ ap node_name (sym e)) ∙ names-more 0 at ∙ ap (names_from 0) f

abbrev pub items_of_name : Vec ℕ → List ℕ
items_of_name name = name.items

pub name_listed : (list : List (Vec ℕ)) (one : Vec ℕ) (at : ℕ) → map items_of_name list ≡ names_from 0 at → one.items ≡ node_name at → map items_of_name (list ++ one ∷ []) ≡ names_from 0 (at + 1)
name_listed list one at are is = map-append items_of_name list (one ∷ []) ∙ name_more (map items_of_name list) at one.items are is

-- the distinct names of a list in order are that list
pub in_order_already : (given names : List Name) → IsStrictlySortedBy name_cmp given → AreNamesOf given names → names ≡ given
in_order_already given names sorted are = names_in_order given names are ∙ same_names (in_order given) given (in_order-sorted given) sorted (λ k. is_among-in_order k given)

pub all_names : (given names : List Name) (k : ℕ) → k ≤ 3 * MOST_ORGANISATIONS → given ≡ names_from 0 k → AreNamesOf given names → names ≡ names_from 0 k
all_names given names k few is are = in_order_already given names (rw is (names-sorted 0 k (omega (arith, few)))) are ∙ is

-- the inner sets of k organisations, from o on
abbrev pub sets_from : ℕ → ℕ → List QuorumSet
sets_from o zero = []
sets_from o (suc k) = organisation_set o ∷ sets_from (o + 1) k

sets-more : (o k : ℕ) → sets_from o k ++ organisation_set (o + k) ∷ [] ≡ sets_from o (suc k)
sets-more o zero = let e : o + 0 ≡ o = omega arith in ap (λ w. organisation_set w ∷ []) e
sets-more o (suc k) =
    let e : o + suc k ≡ o + 1 + k = omega arith in
    ap (λ w. organisation_set o ∷ (sets_from (o + 1) k ++ organisation_set w ∷ [])) e ∙ ap (λ qs. organisation_set o ∷ qs) (sets-more (o + 1) k)

pub set_more : (sets : List QuorumSet) (at : ℕ) (set : QuorumSet) → sets ≡ sets_from 0 at → set ≡ organisation_set at → sets ++ set ∷ [] ≡ sets_from 0 (at + 1)
set_more sets at set are is =
    let e : 0 + at ≡ at = omega arith in
    let f : suc at ≡ at + 1 = omega arith in
    ap (λ (qs : List QuorumSet). qs ++ set ∷ []) are ∙ ap (λ (q : QuorumSet). sets_from 0 at ++ q ∷ []) (is ∙ ap organisation_set (sym e)) ∙ sets-more 0 at ∙ ap (sets_from 0) f

pub sets_are : (o k : ℕ) → inner_entries (sets_from o k) ≡ organisation_sets o k
sets_are o zero = refl
sets_are o (suc k) = ap (inner (organisation_set o)) (sets_are (o + 1) k)

-- ---- the same quorum set again and again

pub once_more : {A : Type 0} (xs : List A) (at : ℕ) (x y : A) → xs ≡ replicate at y → x ≡ y → xs ++ x ∷ [] ≡ replicate (at + 1) y
once_more {A = A} xs at x y are is =
    let e : suc at ≡ at + 1 = omega arith in
    ap (λ (zs : List A). zs ++ x ∷ []) are ∙ ap (λ (z : A). replicate at y ++ z ∷ []) is ∙ replicate-more at y ∙ ap (λ (n : ℕ). replicate n y) e
  where
    replicate-more : (k : ℕ) (z : A) → replicate k z ++ z ∷ [] ≡ replicate (suc k) z
    replicate-more zero z = refl
    replicate-more (suc k) z = ap (λ (zs : List A). z ∷ zs) (replicate-more k z)
