-- A set is cut to the kept nodes, one node after another.
use Rattle.std.proofs.Common.{◌≡◌, ℕ, zero, suc, ◌+◌, Bool, true, false, ◌||◌, ◌==◌, List, [], ◌∷◌, ◌++◌, length, map, refl, sym, ◌∙◌, ap, arith}
use Rattle.std.proofs.lemmas.List.{map-append, length-map, length-append}
use Rattle.std.proofs.Math.Bool.{or-false}
use mathlib.Core.Path.{fun_ext}
use Rattle.fbas_model.specs.Nodes.{Nodes, Table, members, size, only, ◌∪◌, listed_from}
use Rattle.fbas_model.specs.Restriction.{kept}
use Rattle.fbas_model.proofs.Sizes.{not_first, not_last, one_down}
use Rattle.fbas_model.proofs.Kept.{length-kept}
use Rattle.fbas_model.proofs.Listed.{kept_listed}
use Rattle.fbas_model.proofs.Tables.{table_ext}

-- the first of the kept nodes are cut, and that is their number
pub record Cutting (t s part : Table) (at : ℕ) (ws : List ℕ) : Type 0 where
  pub size : length part ≡ size t
  pub now : at ≡ length ws
  pub cut : members part ≡ members (map (members s) ws)

-- ---- one mark more

push_no : (xs : Table) (v : ℕ) → members (xs ++ false ∷ []) v ≡ members xs v
push_no [] zero = refl
push_no [] (suc v) = refl
push_no (x ∷ xs) zero = refl
push_no (x ∷ xs) (suc v) = push_no xs v

push_yes : (xs : Table) (v : ℕ) → members (xs ++ true ∷ []) v ≡ (members xs v || (v == length xs))
push_yes [] zero = refl
push_yes [] (suc v) = sym (not_first v)
push_yes (x ∷ xs) zero = sym (ap (λ (b : Bool). x || b) (not_last (length xs)) ∙ or-false x)
push_yes (x ∷ xs) (suc v) = push_yes xs v ∙ ap (λ (b : Bool). members xs v || b) (sym (one_down v (length xs)))

-- ---- one node more

module _ (t s part : Table) (at v : ℕ) (ws : List ℕ) (c : Cutting t s part at ws) where
  more : at + 1 ≡ length (ws ++ v ∷ [])
  more = omega (arith, c.now, length-append ws (v ∷ []))

  marked : (b : Bool) → members s v ≡ b → map (members s) (ws ++ v ∷ []) ≡ map (members s) ws ++ b ∷ []
  marked b e = map-append (members s) ws (v ∷ []) ∙ ap (λ (m : Bool). map (members s) ws ++ m ∷ []) e

  -- one that is in the set
  pub cutting_yes : (next : Table) → members s v ≡ true → length next ≡ length part → members next ≡ members part ∪ only at → Cutting t s next (at + 1) (ws ++ v ∷ [])
  cutting_yes next here n m = record {
    size = n ∙ c.size;
    now = more;
    cut =
        m ∙ (ap (λ (u : Nodes). u ∪ only at) c.cut
        ∙ (ap (λ (k : ℕ). members (map (members s) ws) ∪ only k) (c.now ∙ sym (length-map ws (members s)))
        ∙ fun_ext (λ w. sym (ap (λ (u : Table). members u w) (marked true here) ∙ push_yes (map (members s) ws) w))));
  }

  -- one that is not
  pub cutting_no : members s v ≡ false → Cutting t s part (at + 1) (ws ++ v ∷ [])
  cutting_no out = record {
    size = c.size;
    now = more;
    cut = c.cut ∙ fun_ext (λ w. sym (ap (λ (u : Table). members u w) (marked false out) ∙ push_no (map (members s) ws) w));
  }

pub cutting_last : (t s part : Table) (at : ℕ) (ws : List ℕ) → length t ≡ length s → ws ≡ listed_from 0 t → Cutting t s part at ws → part ≡ kept t s
cutting_last t s part at ws same_n all c =
    let is : map (members s) ws ≡ kept t s = ap (λ (vs : List ℕ). map (members s) vs) all ∙ sym (kept_listed t s false same_n) in
    table_ext part (kept t s) (c.size ∙ sym (length-kept t s same_n)) (λ w. ap (λ (u : Nodes). u w) c.cut ∙ ap (λ (u : Table). members u w) is)
