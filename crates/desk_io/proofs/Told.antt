-- What a clause says where a desk tells all that it holds.
use Rattle.std.proofs.Common.{IsTrue, List, [], ◌∷◌, length, ◌≡◌, Ok, Err, inl, inr, refl, arith, tests}
use Rattle.std.specs.Prelude.{◌⊎◌, ◌==◌, ℕ, ◌<◌, ◌≤◌, min, Result, OnOk, OnErr, IfOk, IsErr}
use Rattle.desk_io.specs.declared.memory.failing.Call.{Call}
use Rattle.desk_io.specs.Failing.{IsDue}
use Rattle.desk_io.specs.State.{DeskState, CannotPut}
use Rattle.desk_io.specs.declared.desk.To.{To}
use Rattle.desk_io.specs.declared.desk.To.TheVariants.{Out, Cert}

pub told_ok : {T E : Type 0} (r : Result T E) (told P : Type 0) → OnOk r P → OnOk r (told → P)
told_ok (Ok x) told P h = λ _. h
told_ok (Err e) told P h = tt

pub told_err : {T E : Type 0} (r : Result T E) (told P : Type 0) → OnErr r P → OnErr r (told → P)
told_err (Ok x) told P h = tt
told_err (Err e) told P h = λ _. h

pub told_if_ok : {T E : Type 0} (r : Result T E) (told : Type 0) (P : T → Type 0) → IfOk r P → IfOk r (λ x. told → P x)
told_if_ok (Ok x) told P h = λ _. h
told_if_ok (Err e) told P h = tt

none_due : (call : Call) (listed : List (Call × ℕ)) → IsDue call listed → IsTrue (length listed == 0) → ⊥
none_due call [] due none = absurd (omega (arith, due.1))
none_due call (x ∷ xs) due none = let empty : length (x ∷ xs) ≡ 0 = search (none, tests) in absurd (omega (arith, empty))

-- a desk where no call is listed fails only for the other cause
pub told_plain : {T E : Type 0} (r : Result T E) (told P : Type 0) (call : Call) (listed : List (Call × ℕ)) → OnErr r (IsDue call listed ⊎ P) → OnErr r (told → IsTrue (length listed == 0) → P)
told_plain (Ok x) told P call listed h = tt
told_plain (Err e) told P call listed h = λ _ none. elim h [
  | inl due ↦ absurd (none_due call listed due none)
  | inr p ↦ p
]

-- a desk where no call is listed does not fail where only a listed call does
pub told_never : {T E : Type 0} (r : Result T E) (told : Type 0) (call : Call) (listed : List (Call × ℕ)) → (IsErr r → IsDue call listed) → OnErr r (told → IsTrue (length listed == 0) → ⊥)
told_never (Ok x) told call listed h = tt
told_never (Err e) told call listed h = λ _ none. none_due call listed (h refl) none

-- where a front part can't be put, neither can the whole
pub cannot_more : (to : To) (n m : ℕ) (s : DeskState) → n ≤ m → CannotPut to n s → CannotPut to m s
cannot_more Out n m s less h = omega (arith, less, h)
cannot_more Cert n m s less (inl none) = inl none
cannot_more Cert n m s less (inr room) = inr (omega (arith, less, room))

-- as many as are there, as there is room for and as one call moves
pub moved_bound : (count left room piece : ℕ) → count ≡ min (min left room) piece → count ≤ room
moved_bound count left room piece is = omega (arith, is)

pub moved_none : (count left room piece : ℕ) → count ≡ min (min left room) piece → 0 < piece → 0 < room → count ≡ 0 → left ≡ 0
moved_none count left room piece is some fits none = omega (arith, is, some, fits, none)

pub put_bound : (count all piece : ℕ) → count ≡ min all piece → count ≤ all
put_bound count all piece is = omega (arith, is)

pub put_some : (count all piece : ℕ) → count ≡ min all piece → 0 < piece → 0 < all → 0 < count
put_some count all piece is some few = omega (arith, is, some, few)
