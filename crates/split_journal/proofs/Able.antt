-- The nodes that can be in a quorum, their circuits, and the numbers of nodes as they are present and as they are of a quorum.
use Rattle.std.proofs.Common.{◌≡◌, ℕ, ◌+◌, ◌-◌, ◌<◌, inl, inr, Bool, true, false, not, ◌&&◌, nat_lt, length, slice_get, refl, sym, ap, ap₂, ◌∙◌, subst, arith, if◌then◌else◌, nat_le}
use Rattle.std.proofs.lemmas.Bool.{cases_lt, and_parts, and_from, lt-ltb, ltb-true, false_from_ne_true}
use Rattle.fbas_model.specs.Nodes.{Nodes, Table, members, ◌∈◌, ◌⊆◌}
use Rattle.fbas_model.specs.Fbas.{Fbas, all_nodes}
use Rattle.greatest_quorum.proofs.GreatestLaws.{table_of}
use Rattle.threshold_circuit.specs.Circuits.{Circuit, Inputs, always, never, leaf, at_least, end_of_gate, input, IsOpen, AreOpen, IsReduced}
use Rattle.threshold_circuit.specs.Value.{circuit_value, count_true}
use Rattle.clause_encoder.specs.declared.version.Version.{Version}
use Rattle.clause_encoder.specs.Formula.{circuit_if_any, circuit_at}
use Rattle.clause_encoder.proofs.QuorumLaws.{IsReady}
use Rattle.split_journal.specs.Formula.{is_able, able_of, by_number, circuit_behind}
use Rattle.split_journal.proofs.Left.{IsLeft, left_parts, reduced, value_in}

pub same_truth : (a b : Bool) → (a ≡ true → b ≡ true) → (b ≡ true → a ≡ true) → a ≡ b
same_truth true b to back = sym (to refl)
same_truth false true to back = back refl
same_truth false false to back = refl

-- ---- two numbers of a node

pub of_present : {A : Type 0} (n : ℕ) (f g : ℕ → A) (x : ℕ) → x < n → by_number n f g x ≡ f x
of_present n f g x low = rw (lt-ltb x n low) refl

past : (n i : ℕ) → nat_lt (n + i) n ≡ false
past n i = false_from_ne_true (nat_lt (n + i) n) (λ h. absurd (let l = ltb-true (n + i) n h in omega arith))

pub behind : (n i : ℕ) → n + i - n ≡ i
behind n i = omega arith

pub of_behind : {A : Type 0} (n : ℕ) (f g : ℕ → A) (i : ℕ) → by_number n f g (n + i) ≡ g i
of_behind n f g i = rw (past n i) (ap g (behind n i))

-- what holds of both holds of each number
pub each_number : (n : ℕ) (P : ℕ → Type 0) → ((x : ℕ) → x < n → P x) → ((i : ℕ) → P (n + i)) → (x : ℕ) → P x
each_number n P nodes behind_them x = elim (cases_lt x n) [
  | inl low ↦ nodes x low
  | inr high ↦ let at : n + (x - n) ≡ x = omega arith in subst P at (behind_them (x - n))
]

-- ---- a circuit looks at its own nodes alone

mutual
  open_agrees : (g u w : Nodes) (c : Circuit) → IsOpen g c → ((v : ℕ) → v ∈ g → u v ≡ w v) → circuit_value u c ≡ circuit_value w c
  open_agrees g u w always whole same = refl
  open_agrees g u w never whole same = refl
  open_agrees g u w (leaf v) whole same = same v whole
  open_agrees g u w (at_least k inputs) whole same = ap (nat_le k) (count_agrees g u w inputs whole.2 same)

  count_agrees : (g u w : Nodes) (inputs : Inputs) → AreOpen g inputs → ((v : ℕ) → v ∈ g → u v ≡ w v) → count_true u inputs ≡ count_true w inputs
  count_agrees g u w end_of_gate whole same = refl
  count_agrees g u w (input c others) whole same = ap₂ (λ (x : Bool) (m : ℕ). (if x then 1 else 0) + m) (open_agrees g u w c whole.0 same) (count_agrees g u w others whole.1 same)

pub value_agrees : (g u w : Nodes) (c : Circuit) → IsReduced g c → ((v : ℕ) → v ∈ g → u v ≡ w v) → circuit_value u c ≡ circuit_value w c
value_agrees g u w always whole same = refl
value_agrees g u w never whole same = refl
value_agrees g u w (leaf v) whole same = open_agrees g u w (leaf v) whole same
value_agrees g u w (at_least k inputs) whole same = open_agrees g u w (at_least k inputs) whole same

-- and is open in a wider set
mutual
  open_wider : (g w : Nodes) (c : Circuit) → g ⊆ w → IsOpen g c → IsOpen w c
  open_wider g w always more whole = absurd whole
  open_wider g w never more whole = absurd whole
  open_wider g w (leaf v) more whole = more v whole
  open_wider g w (at_least k inputs) more whole = (whole.0, whole.1, are_open_wider g w inputs more whole.2)

  are_open_wider : (g w : Nodes) (inputs : Inputs) → g ⊆ w → AreOpen g inputs → AreOpen w inputs
  are_open_wider g w end_of_gate more whole = tt
  are_open_wider g w (input c others) more whole = (open_wider g w c more whole.0, are_open_wider g w others more whole.1)

reduced_wider : (g w : Nodes) (c : Circuit) → g ⊆ w → IsReduced g c → IsReduced w c
reduced_wider g w always more whole = tt
reduced_wider g w never more whole = tt
reduced_wider g w (leaf v) more whole = more v whole
reduced_wider g w (at_least k inputs) more whole = open_wider g w (at_least k inputs) more whole

-- ----

module _ (f : Fbas) (b left : Table) (is : IsLeft f b left) where
  pub low : (v : ℕ) → v ∈ members left → v < length f
  low v here = ltb-true v (length f) (and_parts (all_nodes f v) (not (members b v)) (left_parts f b left is v here)).0

  able_is : members (able_of f b left) ≡ (λ v. members left v && is_able f b left v)
  able_is = table_of f (λ v. members left v && is_able f b left v) (λ v here. lt-ltb v (length f) (low v (and_parts (members left v) (is_able f b left v) here).0))

  pub able_parts : (v : ℕ) → v ∈ members (able_of f b left) → (v ∈ members left) × (is_able f b left v ≡ true)
  able_parts v here = and_parts (members left v) (is_able f b left v) (sym (ap (λ (s : Nodes). s v) able_is) ∙ here)

  pub able_from : (v : ℕ) → v ∈ members left → is_able f b left v ≡ true → v ∈ members (able_of f b left)
  able_from v here on = ap (λ (s : Nodes). s v) able_is ∙ and_from (members left v) (is_able f b left v) here on

  -- all that have variables
  pub inside : Nodes
  inside = by_number (length f) (members left) (members (able_of f b left))

  pub inside_present : (v : ℕ) → v < length f → inside v ≡ members left v
  unfolding inside
  inside_present v under = of_present (length f) (members left) (members (able_of f b left)) v under

  pub inside_behind : (v : ℕ) → inside (length f + v) ≡ members (able_of f b left) v
  unfolding inside
  inside_behind v = of_behind (length f) (members left) (members (able_of f b left)) v

  module _ (version : Version) where
    circuit_reduced : (v : ℕ) → IsReduced (members left) (circuit_at version f b left v)
    circuit_reduced v = reduced version (members left) (members b) (slice_get f v)

    -- the value of a node's circuit behind is that of the circuit
    pub value_behind : (u w : Nodes) (v : ℕ) → ((x : ℕ) → x ∈ members left → u x ≡ w x) → circuit_value u (circuit_behind version f b left (length f + v)) ≡ circuit_value w (circuit_at version f b left v)
    value_behind u w v same =
        ap (λ (x : ℕ). circuit_value u (circuit_at version f b left x)) (behind (length f) v)
        ∙ value_agrees (members left) u w (circuit_at version f b left v) (circuit_reduced v) same

    pub ready_behind : (v : ℕ) → v ∈ members (able_of f b left) → IsReady inside (circuit_behind version f b left (length f + v))
    ready_behind v able = (
      subst (λ (x : ℕ). IsReduced inside (circuit_at version f b left x)) (sym (behind (length f) v)) (reduced_wider (members left) inside (circuit_at version f b left v) (λ x here. inside_present x (low x here) ∙ here) (circuit_reduced v)),
      value_behind inside (members left) v (λ x here. inside_present x (low x here))
          ∙ value_in version (members left) (circuit_if_any (members left) (members b) (slice_get f v))
          ∙ (able_parts v able).1,
    )
