-- A set of a part's nodes, as a set of the whole system's.
use Rattle.std.proofs.Common.{◌≡◌, ℕ, zero, suc, ◌<◌, List, [], ◌∷◌, length, map, not, true, false, ◌&&◌, refl, sym, ◌∙◌, ap, arith}
use mathlib.Core.Path.{fun_ext}
use Rattle.fbas_model.specs.Nodes.{Table, members}
use Rattle.fbas_model.specs.Restriction.{kept, rank, raised}
use Rattle.fbas_model.proofs.Kept.{rank-cons}
use Rattle.fbas_model.proofs.Tables.{table_is}
use Rattle.cert_writer.specs.Texts.{raised_table}

-- the marks of the part's nodes at their places in the whole
abbrev pub spread : Table → Table → Table
spread [] set = []
spread (false ∷ part) set = false ∷ spread part set
spread (true ∷ part) [] = false ∷ spread part []
spread (true ∷ part) (m ∷ set) = m ∷ spread part set

pub length-spread : (part set : Table) → length (spread part set) ≡ length part
length-spread [] set = refl
length-spread (false ∷ part) set = ap suc (length-spread part set)
length-spread (true ∷ part) [] = ap suc (length-spread part [])
length-spread (true ∷ part) (m ∷ set) = ap suc (length-spread part set)

kept-none : {A : Type 0} (set : Table) → kept {A = A} set [] ≡ []
kept-none [] = refl
kept-none (m ∷ set) = refl

kept-nobody : {A : Type 0} (part : Table) (xs : List A) → kept (spread part []) xs ≡ []
kept-nobody [] xs = refl
kept-nobody (false ∷ part) [] = refl
kept-nobody (true ∷ part) [] = refl
kept-nobody (false ∷ part) (x ∷ xs) = kept-nobody part xs
kept-nobody (true ∷ part) (x ∷ xs) = kept-nobody part xs

-- the items of a set of the part
pub kept-spread : {A : Type 0} (part set : Table) (xs : List A) → kept set (kept part xs) ≡ kept (spread part set) xs
kept-spread [] [] xs = refl
kept-spread [] (m ∷ set) xs = refl
kept-spread (false ∷ part) set [] = kept-none set
kept-spread (true ∷ part) [] [] = refl
kept-spread (true ∷ part) (m ∷ set) [] = refl
kept-spread (false ∷ part) set (x ∷ xs) = kept-spread part set xs
kept-spread (true ∷ part) [] (x ∷ xs) = sym (kept-nobody part xs)
kept-spread (true ∷ part) (true ∷ set) (x ∷ xs) = ap (λ ys. x ∷ ys) (kept-spread part set xs)
kept-spread (true ∷ part) (false ∷ set) (x ∷ xs) = kept-spread part set xs

rank-out : (part : Table) (v : ℕ) → rank (false ∷ part) (suc v) ≡ rank part v
rank-out part v = rank-cons false part v ∙ (omega arith)

rank-in : (part : Table) (v : ℕ) → rank (true ∷ part) (suc v) ≡ suc (rank part v)
rank-in part v = rank-cons true part v ∙ (omega arith)

members-spread : (part set : Table) (v : ℕ) → members (spread part set) v ≡ raised part (members set) v
members-spread [] set v = refl
members-spread (false ∷ part) set zero = refl
members-spread (false ∷ part) set (suc v) = members-spread part set v ∙ ap (λ (k : ℕ). members part v && members set k) (sym (rank-out part v))
members-spread (true ∷ part) [] zero = refl
members-spread (true ∷ part) [] (suc v) = members-spread part [] v
members-spread (true ∷ part) (m ∷ set) zero = refl
members-spread (true ∷ part) (m ∷ set) (suc v) = members-spread part set v ∙ ap (λ (k : ℕ). members part v && members (m ∷ set) k) (sym (rank-in part v))

pub is_raised : (part set : Table) → spread part set ≡ raised_table part set
is_raised part set = table_is (length part) (spread part set) (raised part (members set)) (length-spread part set) (λ v less. members-spread part set v)

-- a node of the part that comes before another has the smaller number there
pub rank_before : (part : Table) (y v : ℕ) → members part y ≡ true → y < v → rank part y < rank part v
rank_before [] y v m less = absurd cc
rank_before (b ∷ part) y zero m less = absurd (omega arith)
rank_before (true ∷ part) zero (suc v) m less = let e = rank-in part v in omega (arith, e)
rank_before (false ∷ part) zero (suc v) m less = absurd cc
rank_before (true ∷ part) (suc y) (suc v) m less =
    let rest = rank_before part y v m (omega (arith, less)) in omega (arith, rank-in part y, rank-in part v)
rank_before (false ∷ part) (suc y) (suc v) m less =
    let rest = rank_before part y v m (omega (arith, less)) in omega (arith, rank-out part y, rank-out part v)

pub nodes-spread : (part set : Table) → members (spread part set) ≡ raised part (members set)
nodes-spread part set = fun_ext (members-spread part set)

-- what is not in a set is in the set of the others
pub not_others : (t : Table) (v : ℕ) → members (map not t) v ≡ true → members t v ≡ true → ⊥
not_others [] v out within = absurd cc
not_others (true ∷ t) zero out within = absurd cc
not_others (false ∷ t) zero out within = absurd cc
not_others (b ∷ t) (suc v) out within = not_others t v out within
