-- What is left of a list at the marked places, and the places that the items have there.
use Rattle.std.proofs.Common.{◌≡◌, ℕ, zero, suc, ◌+◌, ◌<◌, ◌≤◌, Bool, true, false, List, [], ◌∷◌, ◌++◌, length, take, map, refl, ◌∙◌, ap, arith, add-one, cond, Some, slice_get}
use Rattle.std.specs.Prelude.{All}
use Rattle.std.proofs.lemmas.Bool.{false≢true}
use Rattle.std.proofs.lemmas.List.Elements.{All-nil, All-cons, All-head, All-tail}
use Rattle.fbas_model.specs.Nodes.{Table, members, size}
use Rattle.fbas_model.specs.Restriction.{kept, rank}
use Rattle.fbas_model.proofs.Sizes.{size-cons}

-- ---- lengths

pub length-kept : {A : Type 0} (t : Table) (xs : List A) → length t ≡ length xs → length (kept t xs) ≡ size t
length-kept [] xs e = refl
length-kept (m ∷ ms) [] e = absurd (omega arith)
length-kept (true ∷ ms) (x ∷ xs) e = omega (arith, size-cons true ms, length-kept ms xs (omega arith))
length-kept (false ∷ ms) (x ∷ xs) e = omega (arith, size-cons false ms, length-kept ms xs (omega arith))

-- what is kept of the items before v is as long as its rank
pub length-kept-take : {A : Type 0} (t : Table) (xs : List A) (v : ℕ) → length t ≡ length xs → length (kept (take v t) xs) ≡ rank t v
length-kept-take [] xs zero e = refl
length-kept-take [] xs (suc v) e = refl
length-kept-take (m ∷ ms) [] v e = absurd (omega arith)
length-kept-take (m ∷ ms) (x ∷ xs) zero e = refl
length-kept-take (true ∷ ms) (x ∷ xs) (suc v) e = omega (arith, size-cons true (take v ms), length-kept-take ms xs v (omega arith))
length-kept-take (false ∷ ms) (x ∷ xs) (suc v) e = omega (arith, size-cons false (take v ms), length-kept-take ms xs v (omega arith))

pub kept_le : {A : Type 0} (t : Table) (xs : List A) → length (kept t xs) ≤ length xs
kept_le [] xs = omega arith
kept_le (m ∷ ms) [] = omega arith
kept_le (true ∷ ms) (x ∷ xs) = omega (arith, kept_le ms xs)
kept_le (false ∷ ms) (x ∷ xs) = omega (arith, kept_le ms xs)

-- ---- ranks

pub rank-cons : (m : Bool) (ms : Table) (v : ℕ) → rank (m ∷ ms) (suc v) ≡ cond m 1 0 + rank ms v
rank-cons m ms v = size-cons m (take v ms)

-- a marked place has its rank among this many
pub rank_lt : (t : Table) (v : ℕ) → members t v ≡ true → rank t v < size t
rank_lt [] v h = absurd (false≢true h)
rank_lt (true ∷ ms) zero h = omega (arith, size-cons true ms)
rank_lt (false ∷ ms) zero h = absurd (false≢true h)
rank_lt (m ∷ ms) (suc v) h = omega (arith, rank-cons m ms v, size-cons m ms, rank_lt ms v h)

rank_more : (t : Table) (v : ℕ) → v < length t → rank t (suc v) ≡ rank t v + cond (members t v) 1 0
rank_more [] v h = absurd (omega arith)
rank_more (m ∷ ms) zero h = omega (arith, rank-cons m ms zero)
rank_more (m ∷ ms) (suc v) h = omega (arith, rank-cons m ms v, rank-cons m ms (suc v), rank_more ms v (omega arith))

pub rank_more_yes : (t : Table) (v : ℕ) → v < length t → members t v ≡ true → rank t (v + 1) ≡ rank t v + 1
rank_more_yes t v h e = rw add-one (rank_more t v h ∙ ap {B = ℕ} (λ (b : Bool). rank t v + cond b 1 0) e)

pub rank_more_no : (t : Table) (v : ℕ) → v < length t → members t v ≡ false → rank t (v + 1) ≡ rank t v
rank_more_no t v h e = let more = rank_more t v h ∙ ap {B = ℕ} (λ (b : Bool). rank t v + cond b 1 0) e in rw add-one (omega (arith, more))

-- each number below their size is the rank of a marked place
abbrev pub HasRanked : Table → ℕ → Type 0
HasRanked t w = (v : ℕ) × (members t v ≡ true) × (rank t v ≡ w)

pub ranked : (t : Table) (w : ℕ) → w < size t → HasRanked t w
ranked [] w h = absurd (omega arith)
ranked (true ∷ ms) zero h = (0, refl, refl)
ranked (true ∷ ms) (suc w) h = let r = ranked ms w (omega (arith, size-cons true ms)) in (suc r.0, r.1, omega (arith, rank-cons true ms r.0, r.2))
ranked (false ∷ ms) w h = let r = ranked ms w (omega (arith, size-cons false ms)) in (suc r.0, r.1, omega (arith, rank-cons false ms r.0, r.2))

-- ---- the items

one_add : (n : ℕ) → 1 + n ≡ suc n
one_add n = omega arith

none_add : (n : ℕ) → 0 + n ≡ n
none_add n = omega arith

more_yes : {A : Type 0} (t : Table) (xs : List A) (v : ℕ) (x : A) → members t v ≡ true → slice_get xs v ≡ Some x → kept (take (suc v) t) xs ≡ kept (take v t) xs ++ x ∷ []
more_yes [] xs v x h e = absurd (false≢true h)
more_yes (m ∷ ms) [] v x h e = absurd cc
more_yes (true ∷ ms) (y ∷ ys) zero x h e = let same : y ≡ x = cc in ap (λ z. z ∷ []) same
more_yes (false ∷ ms) (y ∷ ys) zero x h e = absurd (false≢true h)
more_yes (true ∷ ms) (y ∷ ys) (suc v) x h e = ap (λ zs. y ∷ zs) (more_yes ms ys v x h e)
more_yes (false ∷ ms) (y ∷ ys) (suc v) x h e = more_yes ms ys v x h e

more_no : {A : Type 0} (t : Table) (xs : List A) (v : ℕ) → members t v ≡ false → kept (take (suc v) t) xs ≡ kept (take v t) xs
more_no [] xs zero h = refl
more_no [] xs (suc v) h = refl
more_no (m ∷ ms) [] zero h = refl
more_no (m ∷ ms) [] (suc v) h = refl
more_no (true ∷ ms) (y ∷ ys) zero h = absurd cc
more_no (false ∷ ms) (y ∷ ys) zero h = refl
more_no (true ∷ ms) (y ∷ ys) (suc v) h = ap (λ zs. y ∷ zs) (more_no ms ys v h)
more_no (false ∷ ms) (y ∷ ys) (suc v) h = more_no ms ys v h

-- a marked item stands at its rank
pub kept_at : {A : Type 0} (t : Table) (xs : List A) (v : ℕ) → members t v ≡ true → slice_get (kept t xs) (rank t v) ≡ slice_get xs v
kept_at [] xs v h = absurd (false≢true h)
kept_at (true ∷ ms) [] v h = refl
kept_at (false ∷ ms) [] v h = refl
kept_at (true ∷ ms) (x ∷ xs) zero h = refl
kept_at (false ∷ ms) (x ∷ xs) zero h = absurd (false≢true h)
kept_at (true ∷ ms) (x ∷ xs) (suc v) h = rw (rank-cons true ms v) (rw one_add (kept_at ms xs v h))
kept_at (false ∷ ms) (x ∷ xs) (suc v) h = rw (rank-cons false ms v) (rw none_add (kept_at ms xs v h))

pub kept_more_yes : {A : Type 0} (t : Table) (xs : List A) (v : ℕ) (x : A) → members t v ≡ true → slice_get xs v ≡ Some x → kept (take (v + 1) t) xs ≡ kept (take v t) xs ++ x ∷ []
kept_more_yes t xs v x h e = rw add-one (more_yes t xs v x h e)

pub kept_more_no : {A : Type 0} (t : Table) (xs : List A) (v : ℕ) → members t v ≡ false → kept (take (v + 1) t) xs ≡ kept (take v t) xs
kept_more_no t xs v h = rw add-one (more_no t xs v h)

-- what holds of each item holds of those kept
pub All-kept : {A : Type 0} (P : A → Type 0) (t : Table) (xs : List A) → All P xs → All P (kept t xs)
All-kept P [] xs h = All-nil P
All-kept P (m ∷ ms) [] h = All-nil P
All-kept P (true ∷ ms) (x ∷ xs) h = All-cons P x (kept ms xs) (All-head P x xs h) (All-kept P ms xs (All-tail P x xs h))
All-kept P (false ∷ ms) (x ∷ xs) h = All-kept P ms xs (All-tail P x xs h)

-- what holds of what each marked item becomes
pub kept_all : {A B : Type 0} (f : A → B) (P : B → Type 0) (t : Table) (xs : List A) → ((v : ℕ) (x : A) → members t v ≡ true → slice_get xs v ≡ Some x → P (f x)) → All P (kept t (map f xs))
kept_all f P [] xs h = All-nil P
kept_all f P (m ∷ ms) [] h = All-nil P
kept_all f P (true ∷ ms) (x ∷ xs) h = All-cons P (f x) (kept ms (map f xs)) (h 0 x refl refl) (kept_all f P ms xs (λ v y. h (suc v) y))
kept_all f P (false ∷ ms) (x ∷ xs) h = kept_all f P ms xs (λ v y. h (suc v) y)
