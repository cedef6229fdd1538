-- The clause of a set, node by node.
use Rattle.std.proofs.Common.{◌≡◌, ℕ, zero, suc, ◌+◌, ◌≤◌, Bool, true, false, cond, List, [], ◌∷◌, ◌++◌, length, map, refl, sym, ap, ◌∙◌, subst, arith}
use Rattle.std.specs.Prelude.{All}
use Rattle.std.specs.List.{filter}
use Rattle.std.proofs.lemmas.List.{map-append, append-nil}
use Rattle.std.proofs.lemmas.Bool.{false≢true}
use Rattle.std.proofs.lemmas.List.Elements.{All-nil, All-cons, filter-append}
use Rattle.fbas_model.specs.Nodes.{Table, members, ◌⊆◌, size, listed_from}
use Rattle.fbas_model.specs.Restriction.{rank}
use Rattle.fbas_model.proofs.Kept.{rank_lt}
use Rattle.lrat_model.specs.Literal.{Literal, variable_of}
use Rattle.lrat_model.specs.Ranges.{IsInRange}
use Rattle.enumeration_journal.specs.Numbering.{variable_in, clause_for}
use Rattle.enumeration_journal.specs.Kinds.{is_sought, signed_if, signed}
use Rattle.enumeration_journal.specs.declared.kinds.Listed.{Listed}
use Rattle.enumeration_journal.proofs.Places.{next_place, same_place, from_zero}

-- ---- the nodes of the greatest quorum that are in the set

-- the literal of a node
abbrev pub literal_for : Listed → Listed → Table → ℕ → Literal
literal_for sought which g v = signed sought which (variable_in g v)

-- one node more, which is in the set
pub clause_yes : (sought which : Listed) (g t : Table) (ws : List ℕ) (v : ℕ) (ls : List Literal) → members t v ≡ true → ls ≡ map (literal_for sought which g) (filter (members t) ws) → ls ++ literal_for sought which g v ∷ [] ≡ map (literal_for sought which g) (filter (members t) (ws ++ v ∷ []))
clause_yes sought which g t ws v ls here is =
    let all = filter-append (members t) ws (v ∷ []) ∙ ap (λ (b : Bool). filter (members t) ws ++ cond b (v ∷ []) []) here in
    ap (λ (ls : List Literal). ls ++ literal_for sought which g v ∷ []) is ∙ (sym (map-append (literal_for sought which g) (filter (members t) ws) (v ∷ [])) ∙ ap (λ (vs : List ℕ). map (literal_for sought which g) vs) (sym all))

-- or is not
pub clause_no : (sought which : Listed) (g t : Table) (ws : List ℕ) (v : ℕ) (ls : List Literal) → members t v ≡ false → ls ≡ map (literal_for sought which g) (filter (members t) ws) → ls ≡ map (literal_for sought which g) (filter (members t) (ws ++ v ∷ []))
clause_no sought which g t ws v ls out is =
    let all = filter-append (members t) ws (v ∷ []) ∙ (ap (λ (b : Bool). filter (members t) ws ++ cond b (v ∷ []) []) out ∙ append-nil (filter (members t) ws)) in
    is ∙ ap (λ (vs : List ℕ). map (literal_for sought which g) vs) (sym all)

-- of the nodes of g those of the set are the set's
filter_from : (s : ℕ) (p : ℕ → Bool) (g t : Table) → length g ≡ length t → members t ⊆ members g → ((j : ℕ) → p (s + j) ≡ members t j) → filter p (listed_from s g) ≡ listed_from s t
filter_from s p [] [] e within is = refl
filter_from s p [] (m ∷ t) e within is = absurd (omega arith)
filter_from s p (m ∷ g) [] e within is = absurd (omega arith)
filter_from s p (true ∷ g) (true ∷ t) e within is =
    ap (λ (b : Bool). cond b (s ∷ filter p (listed_from (s + 1) g)) (filter p (listed_from (s + 1) g))) (ap p (sym (same_place s)) ∙ is 0)
    ∙ ap (λ (vs : List ℕ). s ∷ vs) (filter_from (s + 1) p g t (omega arith) (λ j. within (suc j)) (λ j. ap p (sym (next_place s j)) ∙ is (suc j)))
filter_from s p (true ∷ g) (false ∷ t) e within is =
    ap (λ (b : Bool). cond b (s ∷ filter p (listed_from (s + 1) g)) (filter p (listed_from (s + 1) g))) (ap p (sym (same_place s)) ∙ is 0)
    ∙ filter_from (s + 1) p g t (omega arith) (λ j. within (suc j)) (λ j. ap p (sym (next_place s j)) ∙ is (suc j))
filter_from s p (false ∷ g) (true ∷ t) e within is = absurd (false≢true (within 0 refl))
filter_from s p (false ∷ g) (false ∷ t) e within is = filter_from (s + 1) p g t (omega arith) (λ j. within (suc j)) (λ j. ap p (sym (next_place s j)) ∙ is (suc j))

pub clause_all : (sought which : Listed) (g t : Table) (ws : List ℕ) (ls : List Literal) → ws ≡ listed_from 0 g → length g ≡ length t → members t ⊆ members g → ls ≡ map (literal_for sought which g) (filter (members t) ws) → ls ≡ clause_for sought g which t
clause_all sought which g t ws ls all e within is = is ∙ ap (λ (vs : List ℕ). map (literal_for sought which g) vs) (ap (λ (vs : List ℕ). filter (members t) vs) all ∙ filter_from 0 (members t) g t e within (λ j. ap (members t) (from_zero j)))

-- ---- its variables

all_listed : (P : Literal → Type 0) (p : ℕ → Literal) (k : ℕ) (t : Table) → ((w : ℕ) → members t w ≡ true → P (p (k + w))) → All P (map p (listed_from k t))
all_listed P p k [] h = All-nil P
all_listed P p k (true ∷ t) h = All-cons P (p k) (map p (listed_from (k + 1) t)) (subst (λ (x : ℕ). P (p x)) (same_place k) (h 0 refl)) (all_listed P p (k + 1) t (λ w here. subst (λ (x : ℕ). P (p x)) (next_place k w) (h (suc w) here)))
all_listed P p k (false ∷ t) h = all_listed P p (k + 1) t (λ w here. subst (λ (x : ℕ). P (p x)) (next_place k w) (h (suc w) here))

in_range : (g t : Table) (w : ℕ) → members t ⊆ members g → members t w ≡ true → variable_in g (zero + w) ≤ size g
in_range g t w within here = let e : rank g (zero + w) ≡ rank g w = ap (λ (x : ℕ). rank g x) (from_zero w) in omega (arith, rank_lt g w (within w here), e)

pub clause_range : (sought which : Listed) (g t : Table) → members t ⊆ members g → IsInRange (size g) (clause_for sought g which t)
clause_range sought which g t within = all_listed (λ l. variable_of l ≤ size g) (λ v. signed sought which (variable_in g v)) 0 t (λ w here. signed_low (is_sought sought which) (variable_in g (zero + w)) (in_range g t w within here))
  where
    signed_low : (b : Bool) (x : ℕ) → x ≤ size g → variable_of (signed_if b x) ≤ size g
    signed_low true x h = h
    signed_low false x h = h
