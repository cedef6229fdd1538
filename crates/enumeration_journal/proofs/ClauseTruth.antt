-- When the clause of a set is true in an assignment.
use Rattle.std.proofs.Common.{◌≡◌, ℕ, zero, suc, ◌+◌, ◌-◌, Bool, true, false, not, [], ◌∷◌, map, length, slice_index_or, refl, sym, ap, ◌∙◌, subst, arith, inl, inr}
use Rattle.std.proofs.lemmas.Bool.{or_left, or_right, or_cases, false≢true}
use Rattle.fbas_model.specs.Nodes.{Table, members, ◌∈◌, listed_from}
use Rattle.fbas_model.specs.Restriction.{rank, kept}
use Rattle.fbas_model.proofs.RestrictionLaw.{members-kept}
use Rattle.lrat_model.specs.Literal.{Literal, Plus, Minus, literal_true, clause_true}
use Rattle.enumeration_journal.specs.Kinds.{other, HasLists, signed}
use Rattle.enumeration_journal.specs.Numbering.{variable_in, clause_for, assignment_of}
use Rattle.enumeration_journal.specs.declared.kinds.Listed.{Listed}
use Rattle.enumeration_journal.specs.declared.kinds.Listed.TheVariants.{Quorum, Blocking, Smaller}
use Rattle.enumeration_journal.proofs.Places.{next_place, same_place, from_zero}

-- a member's literal that is true makes the clause true
pub true_where : (v : ℕ → Bool) (p : ℕ → Literal) (k : ℕ) (u : Table) (w : ℕ) → members u w ≡ true → literal_true v (p (k + w)) ≡ true → clause_true v (map p (listed_from k u)) ≡ true
true_where v p k [] w here is = absurd (false≢true here)
true_where v p k (true ∷ us) zero here is = or_left (literal_true v (p k)) (clause_true v (map p (listed_from (k + 1) us))) (subst (λ (x : ℕ). literal_true v (p x) ≡ true) (same_place k) is)
true_where v p k (true ∷ us) (suc w) here is = or_right (literal_true v (p k)) (clause_true v (map p (listed_from (k + 1) us))) (true_where v p (k + 1) us w here (subst (λ (x : ℕ). literal_true v (p x) ≡ true) (next_place k w) is))
true_where v p k (false ∷ us) zero here is = absurd (false≢true here)
true_where v p k (false ∷ us) (suc w) here is = true_where v p (k + 1) us w here (subst (λ (x : ℕ). literal_true v (p x) ≡ true) (next_place k w) is)

-- a member whose literal is true
abbrev pub HasTrue : (ℕ → Bool) → (ℕ → Literal) → ℕ → Table → Type 0
HasTrue v p k u = (w : ℕ) × (members u w ≡ true) × (literal_true v (p (k + w)) ≡ true)

later : (v : ℕ → Bool) (p : ℕ → Literal) (k : ℕ) (x : Bool) (us : Table) → HasTrue v p (k + 1) us → HasTrue v p k (x ∷ us)
later v p k x us h = (suc h.0, h.1, subst (λ (y : ℕ). literal_true v (p y) ≡ true) (sym (next_place k h.0)) h.2)

-- a true clause has a member whose literal is true
pub where_true : (v : ℕ → Bool) (p : ℕ → Literal) (k : ℕ) (u : Table) → clause_true v (map p (listed_from k u)) ≡ true → HasTrue v p k u
where_true v p k [] is = absurd (false≢true is)
where_true v p k (true ∷ us) is = elim (or_cases (literal_true v (p k)) (clause_true v (map p (listed_from (k + 1) us))) is) [
  | inl here ↦ (0, refl, subst (λ (y : ℕ). literal_true v (p y) ≡ true) (sym (same_place k)) here)
  | inr there ↦ later v p k true us (where_true v p (k + 1) us there)
]
where_true v p k (false ∷ us) is = later v p k false us (where_true v p (k + 1) us is)

before_next : (n : ℕ) → n + 1 - 1 ≡ n
before_next n = omega arith

-- the assignment of a set gives a node's variable what the set says of it
pub assigned : (g s : Table) (w : ℕ) → length s ≡ length g → w ∈ members g → assignment_of g s (variable_in g w) ≡ members s w
assigned g s w e h = ap (λ (x : ℕ). slice_index_or (kept g s) x false) (before_next (rank g w)) ∙ members-kept g s w e h

-- the clause of a set that is sought is true in a set that lacks one of its nodes
pub sought_clause_true : (k : Listed) (g s t : Table) (w : ℕ) → length s ≡ length g → w ∈ members g → members s w ≡ false → w ∈ members t → clause_true (assignment_of g s) (clause_for k g k t) ≡ true
sought_clause_true k g s t w e within missing here =
    true_where (assignment_of g s) (λ v. signed k k (variable_in g v)) 0 t w here (minus k (variable_in g (zero + w)) (subst (λ (x : ℕ). literal_true (assignment_of g s) (Minus (variable_in g x)) ≡ true) (sym (from_zero w)) (ap not (assigned g s w e within ∙ missing))))
  where
    minus : (k : Listed) (x : ℕ) → literal_true (assignment_of g s) (Minus x) ≡ true → literal_true (assignment_of g s) (signed k k x) ≡ true
    minus Quorum x h = h
    minus Blocking x h = h
    minus Smaller x h = h

-- that of another in a set that shares a node with it
pub other_clause_true : (k : Listed) → HasLists k → (g s t : Table) (w : ℕ) → length s ≡ length g → w ∈ members g → w ∈ members s → w ∈ members t → clause_true (assignment_of g s) (clause_for k g (other k) t) ≡ true
other_clause_true k lists g s t w e within chosen here =
    true_where (assignment_of g s) (λ v. signed k (other k) (variable_in g v)) 0 t w here (plus k lists (variable_in g (zero + w)) (subst (λ (x : ℕ). literal_true (assignment_of g s) (Plus (variable_in g x)) ≡ true) (sym (from_zero w)) (assigned g s w e within ∙ chosen)))
  where
    plus : (k : Listed) → HasLists k → (x : ℕ) → literal_true (assignment_of g s) (Plus x) ≡ true → literal_true (assignment_of g s) (signed k (other k) x) ≡ true
    plus Quorum lists x h = h
    plus Blocking lists x h = h
    plus Smaller lists x h = absurd lists
