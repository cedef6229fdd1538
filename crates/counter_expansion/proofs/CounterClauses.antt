-- Which clauses are those of counters.
use Rattle.std.proofs.Common.{◌≡◌, ℕ, true, nat_lt, nat_eq, ◌<◌, List, length, get_or, map, Some, inl, inr, refl, sym, subst, ◌∙◌, ap}
use Rattle.std.specs.Prelude.{◌⊎◌, slice_get}
use Rattle.std.proofs.lemmas.Option.{slice_get_read}
use Rattle.std.proofs.lemmas.List.{get_or-map}
use Rattle.std.proofs.lemmas.List.{length-map}
use Rattle.std.proofs.lemmas.List.Folds.{list_any_at}
use Rattle.std.proofs.lemmas.Bool.{eqb-true, ltb-true}
use Rattle.lrat_model.specs.Literal.{Literal, Plus, same, has}
use Rattle.lrat_model.proofs.Literals.{same-itself}
use Rattle.counter_expansion.specs.Gates.{Gate, IsFirst, IsSecond, IsHead, IsOfCounter}
use Rattle.counter_expansion.specs.Counters.{gate_of, gate_if_any, gates_of}
use Rattle.counter_expansion.specs.declared.counters.Counter.{Counter}

pub read_at : {A : Type 0} (xs : List A) (i : ℕ) (x : A) → true ≡ nat_lt i (length xs) → x ≡ get_or xs i x → slice_get xs i ≡ Some x
read_at xs i x within is = slice_get_read xs (length xs) i x refl (ltb-true i (length xs) (sym within)) is

pub gate_at : (counters : List Counter) (g : ℕ) (c : Counter) → slice_get counters g ≡ Some c → gates_of counters g ≡ gate_of c
gate_at counters g c is = ap gate_if_any is

module _ (counters : List Counter) (g : ℕ) (c : Counter) (within : true ≡ nat_lt g (length counters)) (is : c ≡ get_or counters g c) (clause : List Literal) where
  here : gate_of c ≡ gates_of counters g
  here = sym (gate_at counters g c (read_at counters g c within is))

  pub of_first : IsFirst (gate_of c) clause → IsOfCounter (gates_of counters) clause
  of_first first = (g, inl (subst (λ (gate : Gate). IsFirst gate clause) here first))

  pub of_second : IsSecond (gate_of c) clause → IsOfCounter (gates_of counters) clause
  of_second second = (g, inr (inl (subst (λ (gate : Gate). IsSecond gate clause) here second)))

  pub of_step : IsFirst (gate_of c) clause ⊎ IsSecond (gate_of c) clause → IsOfCounter (gates_of counters) clause
  of_step (inl first) = of_first first
  of_step (inr second) = of_second second

  pub of_head : IsHead (gate_of c) clause → IsOfCounter (gates_of counters) clause
  of_head head = (g, inr (inr (subst (λ (gate : Gate). IsHead gate clause) here head)))

-- a number that is found in a list is among its variables
pub among : (xs : List ℕ) (i y x : ℕ) → true ≡ nat_lt i (length xs) → y ≡ get_or xs i y → nat_eq y x ≡ true → has (map Plus xs) (Plus x) ≡ true
among xs i y x within at is =
    let fits : i < length (map Plus xs) = subst (λ (n : ℕ). i < n) (sym (length-map xs Plus)) (ltb-true i (length xs) (sym within)) in
    let there : get_or (map Plus xs) i (Plus y) ≡ Plus x = get_or-map Plus xs i y (Plus y) (ltb-true i (length xs) (sym within)) ∙ ap Plus (sym at ∙ eqb-true y x is) in
    list_any_at (same (Plus x)) (map Plus xs) i (Plus y) fits (subst (λ (k : Literal). same (Plus x) k ≡ true) (sym there) (same-itself (Plus x)))
