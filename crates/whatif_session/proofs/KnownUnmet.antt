-- The nodes that are unmet despite a set, after the change of one node's quorum set.
use Rattle.std.proofs.Common.{◌≡◌, ℕ, zero, suc, ◌↔◌, ◌==◌, ◌&&◌, ◌||◌, Bool, true, false, not, inl, inr, [], ◌∷◌, length, refl, sym, ap, ◌∙◌, subst}
use Rattle.std.specs.Prelude.{nat_lt}
use Rattle.std.specs.Bool.{MatchBool}
use Rattle.std.proofs.lemmas.Bool.{and_parts, or_right, not-true, both_ways, cases_Bool, eqb-true, eq-eqb, false≢true}
use Rattle.fbas_model.specs.Nodes.{Nodes, Table, members, ◌∈◌, ∅, only, ◌∪◌, ◌∖◌, IsInhabited}
use Rattle.fbas_model.specs.Fbas.{Fbas, HasSliceWithin, IsUnmet, all_nodes}
use Rattle.fbas_model.specs.Counting.{is_inhabited}
use Rattle.greatest_quorum.specs.Changes.{IsChangedAt}
use Rattle.greatest_quorum.specs.Unmet.{unmet_of, is_available}
use Rattle.greatest_quorum.proofs.UnmetLaws.{unmet_is, unmet_only}

-- ---- one change

back : (f then : Fbas) (v w : ℕ) (u : Nodes) → IsChangedAt f then v → (w ≡ v → ⊥) → HasSliceWithin then ∅ w u → HasSliceWithin f ∅ w u
back f then v w u is other h = (h.0, (h.1.0, sym (is.others w other) ∙ h.1.1, h.1.2, h.1.3, h.1.4), h.2)

-- another node than the changed one is unmet as it was
stays : (f then : Fbas) (b : Nodes) (v w : ℕ) → IsChangedAt f then v → (w ≡ v → ⊥) → IsUnmet f b w → IsUnmet then b w
stays f then b v w is other u =
    let same : all_nodes f ≡ all_nodes then = ap (λ (n : ℕ). λ (x : ℕ). nat_lt x n) (sym is.places) in
    record {
      outside = subst (λ (s : Nodes). w ∈ (s ∖ b)) same u.outside;
      stuck = λ slice. u.stuck (subst (λ (s : Nodes). HasSliceWithin f ∅ w (s ∖ b)) (sym same) (back f then v w (all_nodes then ∖ b) is other slice));
    }

turned : (f then : Fbas) (v : ℕ) → IsChangedAt f then v → IsChangedAt then f v
turned f then v is = record {
  places = sym is.places;
  others = λ w other. sym (is.others w other);
}

followed_at : (f then : Fbas) (v : ℕ) (b old new : Table) → IsChangedAt f then v → old ≡ unmet_of f b → length new ≡ length then → ((w : ℕ) → (w ≡ v → ⊥) → members new w ≡ members old w) → (v ∈ members new) ↔ IsUnmet then (members b) v
    → new ≡ unmet_of then b
followed_at f then v b old new is was size others here = unmet_only then b new size (λ w. elim (cases_Bool (w == v)) [
  | inl same ↦ let e : w ≡ v = eqb-true w v same in subst (λ (x : ℕ). (x ∈ members new) ↔ IsUnmet then (members b) x) (sym e) here
  | inr other ↦
      let apart : w ≡ v → ⊥ = λ e. both_ways (w == v) other (eq-eqb w v e) in
      let before : members new w ≡ members (unmet_of f b) w = others w apart ∙ ap (λ (t : Table). members t w) was in (
        λ at. stays f then (members b) v w is apart ((unmet_is f b w).0 (sym before ∙ at)),
        λ u. before ∙ (unmet_is f b w).1 (stays then f (members b) v w (turned f then v is) apart u),
      )
])

pub not_one : (w v : ℕ) → (w ≡ v → ⊥) → (w == v) ≡ false
not_one w v apart = elim (cases_Bool (w == v)) [ inl same ↦ absurd (apart (eqb-true w v same)) | inr other ↦ other ]

-- the test of a node that is taken out, and of one that is put back, where it is another's
taken_other : (x y : Bool) → y ≡ false → (x && not y) ≡ x
taken_other true true e = absurd (false≢true (sym e))
taken_other true false e = refl
taken_other false true e = refl
taken_other false false e = refl

put_other : (x y : Bool) → y ≡ false → (x && not y || y) ≡ x
put_other true true e = absurd (false≢true (sym e))
put_other true false e = refl
put_other false true e = absurd (false≢true (sym e))
put_other false false e = refl

-- the changed node is put in, since it is unmet now
pub followed_in : (f then : Fbas) (v : ℕ) (b old new : Table) → IsChangedAt f then v → old ≡ unmet_of f b → length new ≡ length then → members new ≡ (members old ∖ only v ∪ only v) → IsUnmet then (members b) v → new ≡ unmet_of then b
followed_in f then v b old new is was size put unmet = followed_at f then v b old new is was size
    (λ w apart. ap (λ (s : Nodes). s w) put ∙ put_other (members old w) (w == v) (not_one w v apart))
    (λ at. unmet, λ u. subst (λ (s : Nodes). v ∈ s) (sym put) (or_right (members old v && not (v == v)) (v == v) (eq-eqb v v refl)))

-- the changed node is left out, since it is not
pub followed_out : (f then : Fbas) (v : ℕ) (b old new : Table) → IsChangedAt f then v → old ≡ unmet_of f b → length new ≡ length then → members new ≡ (members old ∖ only v) → (IsUnmet then (members b) v → ⊥) → new ≡ unmet_of then b
followed_out f then v b old new is was size taken met = followed_at f then v b old new is was size
    (λ w apart. ap (λ (s : Nodes). s w) taken ∙ taken_other (members old w) (w == v) (not_one w v apart)) (
      λ at.
          let out = (and_parts (members old v) (not (v == v)) (subst (λ (s : Nodes). v ∈ s) taken at)).1 in
          absurd (both_ways (v == v) (not-true (v == v) out) (eq-eqb v v refl)),
      λ u. absurd (met u),
    )

-- a node of the set is not unmet
pub of_the_set : (f : Fbas) (b : Nodes) (v : ℕ) → b v ≡ true → IsUnmet f b v → ⊥
of_the_set f b v in_b u = both_ways (b v) (not-true (b v) (and_parts (all_nodes f v) (not (b v)) u.outside).1) in_b

-- ---- all nodes

-- despite all nodes none is unmet
pub none_unmet : (f : Fbas) (none all : Table) → length none ≡ length f → members none ≡ ∅ → members all ≡ (λ v. nat_lt v (length f)) → none ≡ unmet_of f all
none_unmet f none all size empty full = unmet_only f all none size (λ v. (
  λ at. absurd (false≢true (subst (λ (s : Nodes). v ∈ s) empty at)),
  λ u. absurd (of_the_set f (members all) v (subst (λ (s : Nodes). v ∈ s) (sym full) (and_parts (all_nodes f v) (not (members all v)) u.outside).0) u),
))

-- ---- the answer

inhabited : (t : Table) (v : ℕ) → v ∈ members t → is_inhabited t ≡ true
inhabited [] v here = absurd (false≢true here)
inhabited (true ∷ t) v here = refl
inhabited (false ∷ t) zero here = absurd (false≢true here)
inhabited (false ∷ t) (suc v) here = inhabited t v here

some_here : (t : Table) → is_inhabited t ≡ true → IsInhabited (members t)
some_here [] h = absurd (false≢true h)
some_here (true ∷ t) h = (0, refl)
some_here (false ∷ t) h = let p = some_here t h in (suc p.0, p.1)

-- whether none is unmet
pub answer_is : (f : Fbas) (b t : Table) (empty : Bool) → t ≡ unmet_of f b → MatchBool empty (members t ≡ ∅) (IsInhabited (members t)) → empty ≡ is_available f b
answer_is f b t true is none =
    let lacks : is_inhabited (unmet_of f b) ≡ false = elim (cases_Bool (is_inhabited (unmet_of f b))) [
      | inl some ↦
          let here = some_here (unmet_of f b) some in
          let there : here.0 ∈ members t = subst (λ (u : Table). here.0 ∈ members u) (sym is) here.1 in
          absurd (false≢true (subst (λ (s : Nodes). here.0 ∈ s) none there))
      | inr empty ↦ empty
    ] in
    sym (ap not lacks)
answer_is f b t false is some =
    let has : is_inhabited (unmet_of f b) ≡ true = inhabited (unmet_of f b) some.0 (subst (λ (u : Table). some.0 ∈ members u) is some.1) in
    sym (ap not has)
