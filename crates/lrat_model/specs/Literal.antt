-- Literals and clauses, and their truth in an assignment, as in DIMACS and LRAT (Cruz-Filipe et al. 2017, Efficient Certified RAT Verification).
use Rattle.std.specs.Prelude.{◌≡◌, ℕ, zero, suc, ◌==◌, ℤ, pos, negsuc, Bool, true, false, not, List}
use Rattle.std.specs.List.{list_any, list_all}

-- a variable, or its negation: 3 and -3 are Plus 3 and Minus 3
pub data Literal : Type 0 where
  Plus : (variable : ℕ) → Literal
  Minus : (variable : ℕ) → Literal

-- the variable of a literal
abbrev pub variable_of : Literal → ℕ
variable_of (Plus x) = x
variable_of (Minus x) = x

-- the literal that is true where this one is false
abbrev pub negated : Literal → Literal
negated (Plus x) = Minus x
negated (Minus x) = Plus x

-- whether two literals are the same
abbrev pub same : Literal → Literal → Bool
same (Plus x) (Plus y) = x == y
same (Plus x) (Minus y) = false
same (Minus x) (Plus y) = false
same (Minus x) (Minus y) = x == y

-- the literal that a signed number stands for
abbrev pub literal_of : ℤ → Literal
literal_of (pos n) = Plus n
literal_of (negsuc n) = Minus (suc n)

-- the signed number that stands for a literal
abbrev pub number_of : Literal → ℤ
number_of (Plus n) = pos n
number_of (Minus zero) = pos zero
number_of (Minus (suc n)) = negsuc n

-- whether the literal is true in the assignment, which gives each variable true or false
abbrev pub literal_true : (ℕ → Bool) → Literal → Bool
literal_true v (Plus x) = v x
literal_true v (Minus x) = not (v x)

-- a clause is true where one of its literals is
abbrev pub clause_true : (ℕ → Bool) → List Literal → Bool
clause_true v clause = list_any (literal_true v) clause

-- a formula, a list of clauses, is true where each of them is
abbrev pub formula_true : (ℕ → Bool) → List (List Literal) → Bool
formula_true v clauses = list_all (clause_true v) clauses

-- whether the literal is in the list
abbrev pub has : List Literal → Literal → Bool
has literals l = list_any (same l) literals

-- each literal of the one is in the other
abbrev pub IsSubset : List Literal → List Literal → Type 0
IsSubset small large = list_all (has large) small ≡ true

-- no literal of the clause has its negation there too
abbrev pub IsConsistent : List Literal → Type 0
IsConsistent clause = (l : Literal) → has clause l ≡ true → has clause (negated l) ≡ false
