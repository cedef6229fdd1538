-- Who mentions whom after one node's quorum set was replaced.
use Rattle.std.proofs.Common.{◌≡◌, ℕ, ◌<◌, ◌&&◌, ◌==◌, nat_lt, Bool, true, List, length, sym, ◌∙◌, ap, arith, inl, inr, Option, None, slice_index_or}
use Rattle.std.specs.Prelude.{set, cond}
use Rattle.std.proofs.lemmas.Bool.{cases_Bool, lt-ltb, eqb-true, eq-eqb}
use Rattle.std.proofs.lemmas.List.{get_or-set_same, get_or-set_other, length-set}
use Rattle.fbas_model.specs.Nodes.{Nodes}
use Rattle.fbas_model.specs.Trees.{QuorumSet}
use Rattle.fbas_model.specs.Fbas.{Fbas}
use Rattle.fbas_model.specs.Lists.{among}
use Rattle.fbas_core.specs.Mentioning.{AreMentioning, IsExchanged, list_at, mentioning, stands_in}
use Rattle.fbas_core.proofs.WhoMentions.{mentioning_whole}

-- those whom a node mentions
pub mentions_was : (f : Fbas) (lists : List (List ℕ)) (v : ℕ) (o : Option QuorumSet) (before : Nodes) → AreMentioning f (length f) lists → o ≡ slice_index_or f v None → before ≡ (λ w. stands_in w o)
    → (x : ℕ) → among (list_at lists x) v ≡ before x
mentions_was f lists v o before m here is x = ap (λ (s : Nodes). s v) (mentioning_whole f lists x m) ∙ ap (stands_in x) (sym here) ∙ sym (ap (λ (s : Nodes). s x) is)

-- lists that say what they said
pub still_mentioning : (f : Fbas) (old new : List (List ℕ)) (v : ℕ) (before : Nodes) → ((x : ℕ) → among (list_at old x) v ≡ before x) → AreMentioning f (length f) old → IsExchanged v before old new → AreMentioning f (length f) new
still_mentioning f old new v before was m is = record {
  many = is.many ∙ m.many;
  same = λ x y. is.same x y ∙ elim (cases_Bool (y == v)) [
    | inl e ↦ ap (λ (b : Bool). cond b (before x) (among (list_at old x) y)) e ∙ sym (was x) ∙ ap (λ (k : ℕ). among (list_at old x) k) (sym (eqb-true y v e)) ∙ m.same x y
    | inr e ↦ ap (λ (b : Bool). cond b (before x) (among (list_at old x) y)) e ∙ m.same x y
  ];
}

-- lists that say what another quorum set mentions
pub now_mentioning : (f : Fbas) (old new : List (List ℕ)) (v : ℕ) (o : Option QuorumSet) (after : Nodes) → v < length f → after ≡ (λ w. stands_in w o) → AreMentioning f (length f) old → IsExchanged v after old new
    → AreMentioning (set f v o) (length (set f v o)) new
now_mentioning f old new v o after low after_is m is = record {
  many = is.many ∙ m.many ∙ sym (length-set f v o);
  same = λ x y. is.same x y ∙ elim (cases_Bool (y == v)) [
    | inl e ↦
        let same : y ≡ v = eqb-true y v e in
        let there : slice_index_or (set f v o) y None ≡ o = ap (λ (k : ℕ). slice_index_or (set f v o) k None) same ∙ get_or-set_same f v o None low in
        let inside : nat_lt y (length (set f v o)) ≡ true = lt-ltb y (length (set f v o)) (omega (arith, same, low, length-set f v o)) in
        ap (λ (b : Bool). cond b (after x) (among (list_at old x) y)) e
        ∙ ap (λ (s : Nodes). s x) after_is
        ∙ sym (ap (λ (q : Option QuorumSet). nat_lt y (length (set f v o)) && stands_in x q) there ∙ ap (λ (b : Bool). b && stands_in x o) inside)
    | inr e ↦
        let there : slice_index_or (set f v o) y None ≡ slice_index_or f y None = get_or-set_other f v y o None (λ same. let yes = eq-eqb y v same in absurd cc) in
        ap (λ (b : Bool). cond b (after x) (among (list_at old x) y)) e
        ∙ m.same x y
        ∙ sym (ap (λ (q : Option QuorumSet). nat_lt y (length (set f v o)) && stands_in x q) there ∙ ap (λ (n : ℕ). nat_lt y n && mentioning f x y) (length-set f v o))
  ];
}
