-- Tables of one length with the same members are the same.
use Rattle.std.proofs.Common.{◌≡◌, ℕ, zero, suc, ◌+◌, ◌<◌, Bool, false, [], ◌∷◌, length, refl, sym, ◌∙◌, ap, arith}
use Rattle.std.proofs.lemmas.List.{ext_get_or}
use Rattle.fbas_model.specs.Nodes.{Nodes, Table, members}
use Rattle.fbas_model.specs.Restriction.{table_from}

pub table_ext : (s t : Table) → length s ≡ length t → ((v : ℕ) → members s v ≡ members t v) → s ≡ t
table_ext [] [] e h = refl
table_ext [] (y ∷ ys) e h = absurd (omega arith)
table_ext (x ∷ xs) [] e h = absurd (omega arith)
table_ext (x ∷ xs) (y ∷ ys) e h = ap (λ (m : Bool). m ∷ xs) (h 0) ∙ ap (λ (ms : Table). y ∷ ms) (table_ext xs ys (omega arith) (λ v. h (suc v)))

-- ---- the table of a set

pub length-table_from : (v n : ℕ) (s : Nodes) → length (table_from v n s) ≡ n
length-table_from v zero s = refl
length-table_from v (suc n) s = ap suc (length-table_from (v + 1) n s)

pub members-table_from : (v n : ℕ) (s : Nodes) (x : ℕ) → x < n → members (table_from v n s) x ≡ s (v + x)
members-table_from v zero s x h = absurd (omega arith)
members-table_from v (suc n) s zero h = let e : v ≡ v + zero = omega arith in ap s e
members-table_from v (suc n) s (suc x) h = let e : v + 1 + x ≡ v + suc x = omega arith in members-table_from (v + 1) n s x (omega arith) ∙ ap s e

-- a table is that of a set that it agrees with
pub table_is : (n : ℕ) (t : Table) (s : Nodes) → length t ≡ n → ((v : ℕ) → v < n → members t v ≡ s v) → t ≡ table_from 0 n s
table_is n t s size each = ext_get_or false t (table_from 0 n s) (size ∙ sym (length-table_from 0 n s)) (λ k h.
    let within : k < n = omega (arith, size) in
    let e : 0 + k ≡ k = omega arith in
    each k within ∙ sym (members-table_from 0 n s k within ∙ ap s e))
