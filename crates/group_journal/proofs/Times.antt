-- How many of the marked groups have a node, where one group is marked more or less.
use Rattle.std.proofs.Common.{◌≡◌, ℕ, zero, suc, ◌+◌, ◌<◌, ◌≤◌, ◌==◌, ◌&&◌, ◌||◌, ltb, Bool, true, false, not, cond, nat_lt, List, [], ◌∷◌, length, slice_index_or, refl, sym, ap, ap₂, ◌∙◌, subst, arith, inl, inr}
use Rattle.std.proofs.lemmas.Bool.{cases_Bool, lt-ltb, ltb-true, false≢true, false_from_ne_true, eq-eqb, eqb-true, both_ways}
use Rattle.std.proofs.Math.Bool.{and-true, or-false}
use mathlib.Core.Path.{fun_ext}
use Rattle.fbas_model.specs.Nodes.{Nodes, Table, members, ∅, only, ◌∪◌, ◌∖◌}
use Rattle.fbas_model.proofs.Tables.{table_ext}
use Rattle.group_journal.specs.Groups.{joined}
use Rattle.group_journal.specs.Marking.{times}

pub times_le : (groups : List Table) (marks : Table) (v : ℕ) → times groups marks v ≤ length groups
times_le [] marks v = omega arith
times_le (group ∷ groups) [] v = omega arith
times_le (group ∷ groups) (true ∷ marks) v = elim (members group v) as (λ (b : Bool). cond b 1 0 + times groups marks v ≤ length (group ∷ groups)) [
  | true ↦ omega (arith, times_le groups marks v)
  | false ↦ omega (arith, times_le groups marks v)
]
times_le (group ∷ groups) (false ∷ marks) v = omega (arith, times_le groups marks v)

-- a marked group has its members
pub times_some : (groups : List Table) (marks : Table) (at v : ℕ) → members marks at ≡ true → members (slice_index_or groups at []) v ≡ true → 0 < times groups marks v
times_some [] marks at v marked here = absurd (false≢true here)
times_some (group ∷ groups) [] at v marked here = absurd (false≢true marked)
times_some (group ∷ groups) (true ∷ marks) zero v marked here = subst (λ (b : Bool). 0 < cond b 1 0 + times groups marks v) (sym here) (omega arith)
times_some (group ∷ groups) (false ∷ marks) zero v marked here = absurd (false≢true marked)
times_some (group ∷ groups) (true ∷ marks) (suc at) v marked here = omega (arith, times_some groups marks at v marked here)
times_some (group ∷ groups) (false ∷ marks) (suc at) v marked here = times_some groups marks at v marked here

-- none is marked
pub times_none : (groups : List Table) (marks : Table) (v : ℕ) → members marks ≡ ∅ → times groups marks v ≡ 0
times_none [] marks v none = refl
times_none (group ∷ groups) [] v none = refl
times_none (group ∷ groups) (true ∷ marks) v none = absurd (false≢true (sym (ap (λ (s : Nodes). s 0) none)))
times_none (group ∷ groups) (false ∷ marks) v none = times_none groups marks v (fun_ext (λ i. ap (λ (s : Nodes). s (suc i)) none))

pub joined_none : (groups : List Table) (marks : Table) → members marks ≡ ∅ → joined groups marks ≡ ∅
joined_none [] marks none = refl
joined_none (group ∷ groups) [] none = refl
joined_none (group ∷ groups) (true ∷ marks) none = absurd (false≢true (sym (ap (λ (s : Nodes). s 0) none)))
joined_none (group ∷ groups) (false ∷ marks) none = joined_none groups marks (fun_ext (λ i. ap (λ (s : Nodes). s (suc i)) none))

-- a node is in a marked group if one of them has it
pub joined_times : (groups : List Table) (marks : Table) (v : ℕ) → joined groups marks v ≡ nat_lt 0 (times groups marks v)
joined_times [] marks v = refl
joined_times (group ∷ groups) [] v = refl
joined_times (group ∷ groups) (true ∷ marks) v = elim (members group v) as (λ (b : Bool). (b || joined groups marks v) ≡ nat_lt 0 (cond b 1 0 + times groups marks v)) [
  | true ↦ sym (lt-ltb 0 (1 + times groups marks v) (omega arith))
  | false ↦ joined_times groups marks v ∙ ap (λ (n : ℕ). nat_lt 0 n) (none_add (times groups marks v))
]
  where
    none_add : (n : ℕ) → n ≡ 0 + n
    none_add n = omega arith
joined_times (group ∷ groups) (false ∷ marks) v = joined_times groups marks v

-- one group is taken out of the marked ones
abbrev IsWithout : ℕ → Table → Table → Type 0
IsWithout at more less = (i : ℕ) → members less i ≡ (members more i && not (i == at))

suc_zero : (i : ℕ) → (suc i == 0) ≡ false
suc_zero i = false_from_ne_true (suc i == 0) (λ k. absurd (let same = eqb-true (suc i) 0 k in omega (arith, same)))

zero_suc : (at : ℕ) → (0 == suc at) ≡ false
zero_suc at = false_from_ne_true (0 == suc at) (λ k. absurd (let same = eqb-true 0 (suc at) k in omega (arith, same)))

suc_eq : (i at : ℕ) → (suc i == suc at) ≡ (i == at)
suc_eq i at = elim (cases_Bool (i == at)) [
  | inl e ↦ let same = eqb-true i at e in eq-eqb (suc i) (suc at) (ap (λ (n : ℕ). suc n) same) ∙ sym e
  | inr e ↦ false_from_ne_true (suc i == suc at) (λ k. let same = eqb-true (suc i) (suc at) k in let less : i ≡ at = omega (arith, same) in both_ways (i == at) e (eq-eqb i at less)) ∙ sym e
]

later : (at : ℕ) (x y : Bool) (more less : Table) → IsWithout (suc at) (x ∷ more) (y ∷ less) → IsWithout at more less
later at x y more less without i = without (suc i) ∙ ap (λ (b : Bool). members more i && not b) (suc_eq i at)

same_rest : (x y : Bool) (more less : Table) → IsWithout 0 (x ∷ more) (y ∷ less) → (i : ℕ) → members less i ≡ members more i
same_rest x y more less without i = without (suc i) ∙ ap (λ (b : Bool). members more i && not b) (suc_zero i) ∙ and-true (members more i)

pub times_without : (groups : List Table) (more less : Table) (at v : ℕ) → length more ≡ length groups → length less ≡ length groups → members more at ≡ true → ((i : ℕ) → members less i ≡ (members more i && not (i == at)))
    → times groups more v ≡ times groups less v + cond (members (slice_index_or groups at []) v) 1 0
times_without [] [] less at v e d marked without = absurd (false≢true marked)
times_without [] (x ∷ more) less at v e d marked without = absurd (omega arith)
times_without (group ∷ groups) [] less at v e d marked without = absurd (false≢true marked)
times_without (group ∷ groups) (x ∷ more) [] at v e d marked without = absurd (omega arith)
times_without (group ∷ groups) (true ∷ more) (true ∷ less) zero v e d marked without = absurd (false≢true (sym (without 0)))
times_without (group ∷ groups) (true ∷ more) (false ∷ less) zero v e d marked without =
    let same : less ≡ more = table_ext less more (omega arith) (same_rest true false more less without) in
    swapped (cond (members group v) 1 0) (times groups more v) (times groups less v) (ap (λ (t : Table). times groups t v) (sym same))
  where
    swapped : (c a b : ℕ) → a ≡ b → c + a ≡ b + c
    swapped c a b h = omega (arith, h)
times_without (group ∷ groups) (false ∷ more) (y ∷ less) zero v e d marked without = absurd (false≢true marked)
times_without (group ∷ groups) (true ∷ more) (true ∷ less) (suc at) v e d marked without =
    moved (cond (members group v) 1 0) (times groups more v) (times groups less v) (cond (members (slice_index_or groups at []) v) 1 0) (times_without groups more less at v (omega arith) (omega arith) marked (later at true true more less without))
  where
    moved : (c a b d : ℕ) → a ≡ b + d → c + a ≡ c + b + d
    moved c a b d h = omega (arith, h)
times_without (group ∷ groups) (true ∷ more) (false ∷ less) (suc at) v e d marked without = absurd (false≢true (without 0 ∙ ap not (zero_suc at)))
times_without (group ∷ groups) (false ∷ more) (true ∷ less) (suc at) v e d marked without = absurd (false≢true (sym (without 0)))
times_without (group ∷ groups) (false ∷ more) (false ∷ less) (suc at) v e d marked without = times_without groups more less at v (omega arith) (omega arith) marked (later at false false more less without)

-- ---- a group that is marked

-- one that was not is the only one more
pub marked_without : (marks next : Table) (at : ℕ) → members marks at ≡ false → members next ≡ members marks ∪ only at → (i : ℕ) → members marks i ≡ (members next i && not (i == at))
marked_without marks next at out put i =
    elim (cases_Bool (i == at)) [
      | inl e ↦ ap (members marks) (eqb-true i at e) ∙ out ∙ sym (ap (λ (b : Bool). members next i && not b) e ∙ no (members next i))
      | inr e ↦ sym (ap (λ (b : Bool). members next i && not b) e ∙ and-true (members next i) ∙ ap (λ (s : Nodes). s i) put ∙ ap (λ (b : Bool). members marks i || b) e ∙ or-false (members marks i))
    ]
  where
    no : (b : Bool) → (b && false) ≡ false
    no true = refl
    no false = refl

pub now_marked : (marks next : Table) (at : ℕ) → members next ≡ members marks ∪ only at → members next at ≡ true
now_marked marks next at put = ap (λ (s : Nodes). s at) put ∙ ap (λ (b : Bool). members marks at || b) (eq-eqb at at refl) ∙ yes (members marks at)
  where
    yes : (b : Bool) → (b || true) ≡ true
    yes true = refl
    yes false = refl

module _ (groups : List Table) (marks next : Table) (at v : ℕ) (e : length marks ≡ length groups) (d : length next ≡ length groups) where
  pub times_marked : members marks at ≡ false → members next ≡ members marks ∪ only at → times groups next v ≡ times groups marks v + cond (members (slice_index_or groups at []) v) 1 0
  times_marked out put = times_without groups next marks at v d e (now_marked marks next at put) (marked_without marks next at out put)

  pub joined_marked : members marks at ≡ false → members next ≡ members marks ∪ only at → joined groups next v ≡ (joined groups marks v || members (slice_index_or groups at []) v)
  joined_marked out put =
      joined_times groups next v ∙ ap (λ (n : ℕ). nat_lt 0 n) (times_marked out put) ∙ grown (times groups marks v) (members (slice_index_or groups at []) v)
      ∙ ap (λ (b : Bool). b || members (slice_index_or groups at []) v) (sym (joined_times groups marks v))
    where
      none_add : (n : ℕ) → n + 0 ≡ n
      none_add n = omega arith

      always : (b : Bool) → (b || true) ≡ true
      always true = refl
      always false = refl

      grown : (n : ℕ) (b : Bool) → nat_lt 0 (n + cond b 1 0) ≡ (nat_lt 0 n || b)
      grown n true = lt-ltb 0 (n + 1) (omega arith) ∙ sym (always (nat_lt 0 n))
      grown n false = ap (λ (k : ℕ). nat_lt 0 k) (none_add n) ∙ sym (or-false (nat_lt 0 n))

  pub times_unmarked : members marks at ≡ true → members next ≡ members marks ∖ only at → times groups marks v ≡ times groups next v + cond (members (slice_index_or groups at []) v) 1 0
  times_unmarked here taken = times_without groups marks next at v e d here (λ i. ap (λ (s : Nodes). s i) taken)

  -- the nodes that are left are those that were there, without the members that no other group has
  pub joined_unmarked : members marks at ≡ true → members next ≡ members marks ∖ only at → joined groups next v ≡ (joined groups marks v && not (members (slice_index_or groups at []) v && times groups next v == 0))
  joined_unmarked here taken =
      joined_times groups next v
      ∙ left (times groups next v) (members (slice_index_or groups at []) v)
      ∙ ap (λ (b : Bool). b && not (members (slice_index_or groups at []) v && times groups next v == 0)) (sym (joined_times groups marks v ∙ ap (λ (n : ℕ). nat_lt 0 n) (times_unmarked here taken)))
    where
      both : (x y : Bool) → x ≡ true → y ≡ false → (x && not y) ≡ true
      both true false here gone = refl
      both true true here gone = absurd (false≢true (sym gone))
      both false y here gone = absurd (false≢true here)

      left : (n : ℕ) (b : Bool) → nat_lt 0 n ≡ (nat_lt 0 (n + cond b 1 0) && not (b && n == 0))
      left zero true = refl
      left zero false = refl
      left (suc n) true = lt-ltb 0 (suc n) (omega arith) ∙ sym (both (nat_lt 0 (suc n + 1)) (suc n == 0) (lt-ltb 0 (suc n + 1) (omega arith)) (suc_zero n))
      left (suc n) false = lt-ltb 0 (suc n) (omega arith) ∙ sym (ap (λ (x : Bool). x && true) (lt-ltb 0 (suc n + 0) (omega arith)))
