-- What is so of the members that a walk has passed, with one more.
use Rattle.std.proofs.Common.{◌≡◌, ◌&&◌, ◌||◌, Bool, true, false, refl, sym, ap, ◌∙◌}
use Rattle.std.proofs.Math.Bool.{or-false, and-or_distrib_right}

none_of : (e k : Bool) → (e ≡ true → k ≡ false) → (e && k) ≡ false
none_of true k h = h refl
none_of false k h = refl

all_of : (e k : Bool) → (e ≡ true → k ≡ true) → (e && k) ≡ e
all_of true k h = h refl
all_of false k h = refl

-- one that is not in the test
pub passed : (x e k : Bool) → (e ≡ true → k ≡ false) → (x && k) ≡ ((x || e) && k)
passed x e k h = sym (and-or_distrib_right x e k ∙ ap (λ (b : Bool). x && k || b) (none_of e k h) ∙ or-false (x && k))

-- one that is
pub added : (x e k : Bool) → (e ≡ true → k ≡ true) → ((x && k) || e) ≡ ((x || e) && k)
added x e k h = ap (λ (b : Bool). x && k || b) (sym (all_of e k h)) ∙ sym (and-or_distrib_right x e k)
