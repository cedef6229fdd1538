-- The printed names of the nodes from some node on.
use Rattle.std.proofs.Common.{◌≡◌, ℕ, zero, suc, ◌+◌, true, false, List, [], ◌∷◌, ◌++◌, length, drop, refl, sym, ◌∙◌, ap, arith, Some, slice_get, slice_index_or}
use Rattle.std.proofs.lemmas.List.{append_assoc, append-nil, drop_more}
use Rattle.fbas_model.specs.Names.{Name}
use Rattle.fbas_model.specs.Nodes.{Table, listed_from}
use Rattle.printed_lines.specs.Lines.{listed}

-- the names of some nodes, each with a space before it
abbrev pub named : List Name → List ℕ → List ℕ
named names [] = []
named names (v ∷ vs) = (32 ∷ slice_index_or names v []) ++ named names vs

pub named-more : (names : List Name) (vs : List ℕ) (v : ℕ) → named names (vs ++ v ∷ []) ≡ named names vs ++ (32 ∷ slice_index_or names v [])
named-more names [] v = append-nil (32 ∷ slice_index_or names v [])
named-more names (w ∷ vs) v = ap (λ (t : List ℕ). (32 ∷ slice_index_or names w []) ++ t) (named-more names vs v) ∙ sym (append_assoc (32 ∷ slice_index_or names w []) (named names vs) (32 ∷ slice_index_or names v []))

named-from : (v : ℕ) (names : List Name) (marks : Table) → v + length marks ≡ length names → named names (listed_from v marks) ≡ listed (drop v names) marks
named-from v names [] e = sym (listed-none (drop v names))
  where
    listed-none : (ns : List Name) → listed ns [] ≡ []
    listed-none [] = refl
    listed-none (n ∷ ns) = refl
named-from v names (true ∷ marks) e = ap (λ (t : List ℕ). (32 ∷ slice_index_or names v []) ++ t) (named-from (v + 1) names marks (omega arith)) ∙ sym (ap (λ (ns : List Name). listed ns (true ∷ marks)) (drop_more names v [] (omega arith)))
named-from v names (false ∷ marks) e = named-from (v + 1) names marks (omega arith) ∙ sym (ap (λ (ns : List Name). listed ns (false ∷ marks)) (drop_more names v [] (omega arith)))

pub named-all : (names : List Name) (marks : Table) → length marks ≡ length names → named names (listed_from 0 marks) ≡ listed names marks
named-all names marks e = named-from 0 names marks (omega arith)

-- what was to come is printed, and the rest is to come
pub grown : (text more rest left whole : List ℕ) → left ≡ more ++ rest → text ++ left ≡ whole → (text ++ more) ++ rest ≡ whole
grown text more rest left whole e h = append_assoc text more rest ∙ (ap (λ (t : List ℕ). text ++ t) (sym e) ∙ h)

pub drop_read : {X : Type 0} (xs : List X) (i : ℕ) (x : X) → slice_get xs i ≡ Some x → drop i xs ≡ x ∷ drop (i + 1) xs
drop_read [] i x h = absurd cc
drop_read (y ∷ ys) zero x h = let e : y ≡ x = cc in ap (λ z. z ∷ ys) e
drop_read (y ∷ ys) (suc i) x h =
    let e : suc i + 1 ≡ suc (i + 1) = omega arith in
    rw e (drop_read ys i x h)
