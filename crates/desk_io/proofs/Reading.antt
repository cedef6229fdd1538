-- What is known of a file that is read piece by piece.
use Rattle.std.proofs.Common.{◌≡◌, ◌<◌, ◌≤◌, ℕ, ◌+◌, List, ◌++◌, length, refl, sym, ap, subst, ◌∙◌, arith, append_assoc, length-append}
use Rattle.desk_io.specs.declared.desk.Which.{Which}
use Rattle.desk_io.specs.declared.desk.Which.TheVariants.{Config, Orgs, Script, Cert}
use Rattle.desk_io.specs.State.{DeskState, left_of, with_left}

left_twice : (which : Which) (a b : List ℕ) (s : DeskState) → with_left which a (with_left which b s) ≡ with_left which a s
left_twice Config a b s = refl
left_twice Orgs a b s = refl
left_twice Script a b s = refl
left_twice Cert a b s = refl

-- nothing but what is left changed, and then nothing but what is left
pub rest_more : (which : Which) (s t u : DeskState) → t ≡ with_left which (left_of which t) s → u ≡ with_left which (left_of which u) t → u ≡ with_left which (left_of which u) s
rest_more which s t u first then_ = then_ ∙ ap (with_left which (left_of which u)) first ∙ left_twice which (left_of which u) (left_of which t) s

-- nothing but what is left changed, and then nothing
pub rest_kept : (which : Which) (s t u : DeskState) → t ≡ with_left which (left_of which t) s → u ≡ t → u ≡ with_left which (left_of which u) s
rest_kept which s t u first same = subst (λ (x : DeskState). x ≡ with_left which (left_of which x) s) (sym same) first

-- a piece more is read
pub front_more : (whole read piece left after : List ℕ) → whole ≡ read ++ left → left ≡ piece ++ after → whole ≡ (read ++ piece) ++ after
front_more whole read piece left after first next = first ∙ ap (λ (xs : List ℕ). read ++ xs) next ∙ sym (append_assoc read piece after)

-- what was taken passes the limit
pub longer_by : (whole read piece left after : List ℕ) (limit : ℕ) → whole ≡ read ++ left → left ≡ piece ++ after → limit < length read + length piece → limit < length whole
longer_by whole read piece left after limit first next many = omega (arith, ap length first, ap length next, length-append read left, length-append piece after)

-- nothing was taken
pub taken_kept : (which : Which) (s t u : DeskState) (read : List ℕ) (limit : ℕ) → left_of which s ≡ read ++ left_of which t → u ≡ t → length read ≤ limit → length (left_of which s) ≤ length (left_of which u) + (limit + 1)
taken_kept which s t u read limit first same few = let left : length (left_of which u) ≡ length (left_of which t) = ap (λ (x : DeskState). length (left_of which x)) same in
    omega (arith, left, ap length first, length-append read (left_of which t))
