-- Sets of a part that are raised to the whole system keep their order, and are those of the part again where they are cut.
use Rattle.std.proofs.Common.{◌≡◌, ℕ, ◌+◌, ◌<◌, Bool, true, false, ◌||◌, List, [], ◌∷◌, map, length, cond, refl, sym, ap, ◌∙◌, arith, Less, Equal, Greater}
use Rattle.std.specs.Ordering.{nat_cmp, ordering_then}
use Rattle.std.specs.Cmp.Lexicographic.{slice_cmp}
use Rattle.std.specs.declared.cmp.Ordering.{Ordering}
use Rattle.std.proofs.lemmas.Bool.Decides.{nat_tests}
use Rattle.fbas_model.specs.Nodes.{Table, size, listed_from, set_cmp}
use Rattle.fbas_model.specs.Counting.{is_inhabited}
use Rattle.fbas_model.specs.Restriction.{kept}
use Rattle.fbas_model.proofs.Sizes.{size-cons}
use Rattle.enumeration_journal.specs.Order.{by_order, with_set, ordered}
use Rattle.enumeration_journal.proofs.Elements.{first_in, later_in}
use Rattle.enumeration_journal.proofs.OrderLaws.{HavePlaces, ordered_has}
use Rattle.cert_writer.specs.Texts.{raised_table}
use Rattle.cert_writer.proofs.Raised.{spread, is_raised}

-- one node fewer
fewer : (m : Bool) (t u : Table) → length (m ∷ u) ≡ size (true ∷ t) → length u ≡ size t
fewer m t u e = omega (arith, e, size-cons true t)

out : (t u : Table) → length u ≡ size (false ∷ t) → length u ≡ size t
out t u e = omega (arith, e, size-cons false t)

nobody_of : (t : Table) → length (let x : Table = [] in x) ≡ size (true ∷ t) → ⊥
nobody_of t e = omega (arith, e, size-cons true t)

pub kept_of_spread : (t u : Table) → length u ≡ size t → kept t (spread t u) ≡ u
kept_of_spread [] [] e = refl
kept_of_spread [] (m ∷ u) e = absurd (omega (arith, e))
kept_of_spread (false ∷ t) u e = kept_of_spread t u (out t u e)
kept_of_spread (true ∷ t) [] e = absurd (nobody_of t e)
kept_of_spread (true ∷ t) (m ∷ u) e = ap (λ (ms : Table). m ∷ ms) (kept_of_spread t u (fewer m t u e))

less : (a b : ℕ) → a < b → nat_cmp a b ≡ Less
less a b h = grind (arith, nat_tests)

greater : (a b : ℕ) → a < b → nat_cmp b a ≡ Greater
greater a b h = grind (arith, nat_tests)

equal : (a : ℕ) → nat_cmp a a ≡ Equal
equal a = grind (arith, nat_tests)

-- a list that begins with a node below all of the other's
first_cmp : (j i : ℕ) (xs : List ℕ) (w : Table) → j < i → slice_cmp nat_cmp (j ∷ xs) (listed_from i w) ≡ cond (is_inhabited w) Less Greater
first_cmp j i xs [] h = refl
first_cmp j i xs (true ∷ w) h = ap (λ (o : Ordering). ordering_then o (slice_cmp nat_cmp xs (listed_from (i + 1) w))) (less j i h)
first_cmp j i xs (false ∷ w) h = first_cmp j (i + 1) xs w (omega arith)

second_cmp : (j i : ℕ) (xs : List ℕ) (w : Table) → j < i → slice_cmp nat_cmp (listed_from i w) (j ∷ xs) ≡ cond (is_inhabited w) Greater Less
second_cmp j i xs [] h = refl
second_cmp j i xs (true ∷ w) h = ap (λ (o : Ordering). ordering_then o (slice_cmp nat_cmp (listed_from (i + 1) w) xs)) (greater j i h)
second_cmp j i xs (false ∷ w) h = second_cmp j (i + 1) xs w (omega arith)

spread_inhabited : (t u : Table) → length u ≡ size t → is_inhabited (spread t u) ≡ is_inhabited u
spread_inhabited [] [] e = refl
spread_inhabited [] (m ∷ u) e = absurd (omega (arith, e))
spread_inhabited (false ∷ t) u e = spread_inhabited t u (out t u e)
spread_inhabited (true ∷ t) [] e = absurd (nobody_of t e)
spread_inhabited (true ∷ t) (m ∷ u) e = ap (λ (b : Bool). m || b) (spread_inhabited t u (fewer m t u e))

spread_cmp : (j k : ℕ) (t u w : Table) → length u ≡ size t → length w ≡ size t → slice_cmp nat_cmp (listed_from k (spread t u)) (listed_from k (spread t w)) ≡ slice_cmp nat_cmp (listed_from j u) (listed_from j w)
spread_cmp j k [] [] [] e e' = refl
spread_cmp j k [] (m ∷ u) w e e' = absurd (omega (arith, e))
spread_cmp j k [] [] (n ∷ w) e e' = absurd (omega (arith, e'))
spread_cmp j k (false ∷ t) u w e e' = spread_cmp j (k + 1) t u w (out t u e) (out t w e')
spread_cmp j k (true ∷ t) [] w e e' = absurd (nobody_of t e)
spread_cmp j k (true ∷ t) (m ∷ u) [] e e' = absurd (nobody_of t e')
spread_cmp j k (true ∷ t) (true ∷ u) (true ∷ w) e e' =
    ap (λ (o : Ordering). ordering_then o (slice_cmp nat_cmp (listed_from (k + 1) (spread t u)) (listed_from (k + 1) (spread t w)))) (equal k)
    ∙ spread_cmp (j + 1) (k + 1) t u w (fewer true t u e) (fewer true t w e')
    ∙ sym (ap (λ (o : Ordering). ordering_then o (slice_cmp nat_cmp (listed_from (j + 1) u) (listed_from (j + 1) w))) (equal j))
spread_cmp j k (true ∷ t) (true ∷ u) (false ∷ w) e e' =
    first_cmp k (k + 1) (listed_from (k + 1) (spread t u)) (spread t w) (omega arith)
    ∙ ap (λ (b : Bool). cond b Less Greater) (spread_inhabited t w (fewer false t w e'))
    ∙ sym (first_cmp j (j + 1) (listed_from (j + 1) u) w (omega arith))
spread_cmp j k (true ∷ t) (false ∷ u) (true ∷ w) e e' =
    second_cmp k (k + 1) (listed_from (k + 1) (spread t w)) (spread t u) (omega arith)
    ∙ ap (λ (b : Bool). cond b Greater Less) (spread_inhabited t u (fewer false t u e))
    ∙ sym (second_cmp j (j + 1) (listed_from (j + 1) w) u (omega arith))
spread_cmp j k (true ∷ t) (false ∷ u) (false ∷ w) e e' = spread_cmp (j + 1) (k + 1) t u w (fewer false t u e) (fewer false t w e')

pub same_order : (t u w : Table) → length u ≡ size t → length w ≡ size t → set_cmp (spread t u) (spread t w) ≡ set_cmp u w
same_order t u w e e' = spread_cmp 0 0 t u w e e'

pub all_raised : (t : Table) (sets : List Table) → map (spread t) sets ≡ map (raised_table t) sets
all_raised t [] = refl
all_raised t (s ∷ sets) = ap (λ (x : Table). x ∷ map (spread t) sets) (is_raised t s) ∙ ap (λ (xs : List Table). raised_table t s ∷ xs) (all_raised t sets)

-- ---- lists of them, in order

module _ (n : ℕ) (h : Table → Table) (keeps : (s t : Table) → length s ≡ n → length t ≡ n → set_cmp (h s) (h t) ≡ set_cmp s t) where
  with_set-map : (s : Table) (ts : List Table) → length s ≡ n → HavePlaces n ts → with_set (h s) (map h ts) ≡ map h (with_set s ts)
  with_set-map s [] size sizes = refl
  with_set-map s (t ∷ ts) size sizes =
      ap (λ (o : Ordering). by_order o (h s ∷ h t ∷ map h ts) (h t ∷ map h ts) (h t ∷ with_set (h s) (map h ts))) (keeps s t size (sizes t (first_in t ts)))
      ∙ elim (set_cmp s t) as (λ o. by_order o (h s ∷ h t ∷ map h ts) (h t ∷ map h ts) (h t ∷ with_set (h s) (map h ts)) ≡ map h (by_order o (s ∷ t ∷ ts) (t ∷ ts) (t ∷ with_set s ts))) [
        | Less ↦ refl
        | Equal ↦ refl
        | Greater ↦ ap (λ (ys : List Table). h t ∷ ys) (with_set-map s ts size (λ x there. sizes x (later_in t ts x there)))
      ]

  pub ordered-map : (ss : List Table) → HavePlaces n ss → ordered (map h ss) ≡ map h (ordered ss)
  ordered-map [] sizes = refl
  ordered-map (s ∷ ss) sizes =
      let rest : HavePlaces n ss = λ x there. sizes x (later_in s ss x there) in
      ap (with_set (h s)) (ordered-map ss rest)
      ∙ with_set-map s (ordered ss) (sizes s (first_in s ss)) (λ x there. rest x ((ordered_has n ss rest x).0 there))
