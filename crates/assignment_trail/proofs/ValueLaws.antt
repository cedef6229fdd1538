-- The values of variables when one changes.
use Rattle.std.proofs.Common.{◌≡◌, ◌≢◌, ℕ, zero, suc, ◌<◌, ◌≤◌, ◌+◌, Bool, true, false, ◌||◌, List, [], ◌∷◌, ◌++◌, length, get_or, set, drop, replicate, refl, sym, ap, ◌∙◌, subst, arith, ⊎_elim, inl, inr, get_or-set_same, get_or-set_other}
use Rattle.std.proofs.lemmas.Bool.{cases_eq, cases_lt, eq-eqb, false≢true, true≢false, false_from_ne_true}
use Rattle.std.proofs.lemmas.List.{drop_more, length-set, length-append}
use Rattle.std.proofs.lemmas.List.Elements.{All-push, All-pop, All-weaker}
use Rattle.std.proofs.Math.ListN.{get_or-append}
use Rattle.std.proofs.Math.Seq.{get_or-append_seam}
use Rattle.std.specs.Prelude.{◌⊎◌, All, Some}
use Rattle.std.proofs.Math.Bool.{or-false}
use Rattle.lrat_model.specs.Literal.{Literal, Plus, Minus, variable_of, negated, same, has}
use Rattle.lrat_model.proofs.Literals.{has-cons, has-push, has-first, has-rest, same-true, variable_of-negated}
use Rattle.assignment_trail.specs.declared.assignment.Value.{Value}
use Rattle.assignment_trail.specs.declared.assignment.Value.TheVariants.{Unassigned, True, False}
use Rattle.assignment_trail.specs.Values.{makes_true, true_by, value_of, assigned, ArePlaces, IsAssignment}

pub true_by-set_other : (values : List Value) (place : ℕ) (v : Value) (l : Literal) → variable_of l ≢ place → true_by (set values place v) l ≡ true_by values l
true_by-set_other values place v l other = ap (λ u. makes_true u l) (get_or-set_other values place (variable_of l) v Unassigned other)

pub true_by-set_same : (values : List Value) (place : ℕ) (v : Value) (l : Literal) → place < length values → variable_of l ≡ place → true_by (set values place v) l ≡ makes_true v l
true_by-set_same values place v l within here =
    ap (λ u. makes_true u l) (subst (λ k. get_or (set values place v) k Unassigned ≡ v) (sym here) (get_or-set_same values place v Unassigned within))

-- a variable whose value is taken away
pub unassigned_more : (values : List Value) (trail : List Literal) (i : ℕ) (d t : Literal) → i < length trail → t ≡ get_or trail i d → variable_of t < length values
    → ((l : Literal) → true_by values l ≡ true → has (drop i trail) l ≡ true)
    → (l : Literal) → true_by (set values (variable_of t) Unassigned) l ≡ true → has (drop (i + 1) trail) l ≡ true
unassigned_more values trail i d t within here inside so_far l is =
    ⊎_elim (λ same_variable. absurd (false≢true (sym (true_by-set_same values (variable_of t) Unassigned l inside same_variable) ∙ is)))
    (λ other.
    let was : has (drop i trail) l ≡ true = so_far l (sym (true_by-set_other values (variable_of t) Unassigned l other) ∙ is) in
    let split : drop i trail ≡ t ∷ drop (i + 1) trail = drop_more trail i d within ∙ ap (λ k. k ∷ drop (i + 1) trail) (sym here) in
    ⊎_elim (λ first. absurd (other (ap variable_of first))) (λ rest. rest) (has-cons t l (drop (i + 1) trail) (subst (λ ls. has ls l ≡ true) split was)))
    (cases_eq (variable_of l) (variable_of t))

pub none_true : (values : List Value) → ((l : Literal) → true_by values l ≡ true → has [] l ≡ true) → (l : Literal) → true_by values l ≡ false
none_true values none l = false_from_ne_true (true_by values l) (λ is. false≢true (none l is))

-- out of range no literal is true
pub in_range_where_true : (values : List Value) (l : Literal) → true_by values l ≡ true → variable_of l + 1 ≤ length values
in_range_where_true values l is = within_where values (variable_of l) l is where
  within_where : (values : List Value) (place : ℕ) (l : Literal) → makes_true (get_or values place Unassigned) l ≡ true → place + 1 ≤ length values
  within_where [] place l is = absurd (false≢true is)
  within_where (v ∷ values) zero l is = omega arith
  within_where (v ∷ values) (suc place) l is = omega (arith, within_where values place l is)

pub true_on_trail : (values : List Value) (trail : List Literal) (room : ℕ) → IsAssignment values trail room → (l : Literal) → true_by values l ≡ true → has trail l ≡ true
true_on_trail values trail room sound l is = sym (sound.agree l (in_range_where_true values l is)) ∙ is

-- a variable neither of whose literals is true has no value
pub open_value : (v : Value) (l : Literal) → makes_true v l ≡ false → makes_true v (negated l) ≡ false → v ≡ Unassigned
open_value Unassigned l first second = refl
open_value True (Plus x) first second = absurd (false≢true (sym first))
open_value True (Minus x) first second = absurd (false≢true (sym second))
open_value False (Plus x) first second = absurd (false≢true (sym second))
open_value False (Minus x) first second = absurd (false≢true (sym first))

pub assigned-below : (values : List Value) (place : ℕ) → place < length values → get_or values place Unassigned ≡ Unassigned → assigned values < length values
assigned-below [] place within is = absurd (omega arith)
assigned-below (Unassigned ∷ values) zero within is = at_most values where
  at_most : (values : List Value) → assigned values < suc (length values)
  at_most [] = omega arith
  at_most (Unassigned ∷ values) = omega (arith, at_most values)
  at_most (True ∷ values) = omega (arith, at_most values)
  at_most (False ∷ values) = omega (arith, at_most values)
assigned-below (True ∷ values) zero within is = cc
assigned-below (False ∷ values) zero within is = cc
assigned-below (Unassigned ∷ values) (suc place) within is = omega (arith, assigned-below values place (omega arith) is)
assigned-below (True ∷ values) (suc place) within is = omega (arith, assigned-below values place (omega arith) is)
assigned-below (False ∷ values) (suc place) within is = omega (arith, assigned-below values place (omega arith) is)

assigned-first : (l : Literal) (values : List Value) → assigned (value_of l ∷ values) ≡ 1 + assigned values
assigned-first (Plus x) values = refl
assigned-first (Minus x) values = refl

pub assigned-set : (values : List Value) (place : ℕ) (l : Literal) → place < length values → get_or values place Unassigned ≡ Unassigned → assigned (set values place (value_of l)) ≡ 1 + assigned values
assigned-set [] place l within is = absurd (omega arith)
assigned-set (Unassigned ∷ values) zero l within is = assigned-first l values
assigned-set (True ∷ values) zero l within is = cc
assigned-set (False ∷ values) zero l within is = cc
assigned-set (Unassigned ∷ values) (suc place) l within is = assigned-set values place l (omega arith) is
assigned-set (True ∷ values) (suc place) l within is = ap (λ n. 1 + n) (assigned-set values place l (omega arith) is)
assigned-set (False ∷ values) (suc place) l within is = ap (λ n. 1 + n) (assigned-set values place l (omega arith) is)

makes_true-value_of : (l m : Literal) → variable_of m ≡ variable_of l → makes_true (value_of l) m ≡ same m l
makes_true-value_of (Plus x) (Plus y) same_variable = sym (eq-eqb y x same_variable)
makes_true-value_of (Plus x) (Minus y) same_variable = refl
makes_true-value_of (Minus x) (Plus y) same_variable = refl
makes_true-value_of (Minus x) (Minus y) same_variable = sym (eq-eqb y x same_variable)

same-variable : (l m : Literal) → same m l ≡ true → variable_of m ≡ variable_of l
same-variable l m is = ap variable_of (same-true m l is)

module _ (values : List Value) (trail : List Literal) (room : ℕ) (sound : IsAssignment values trail room) (l : Literal) (within : variable_of l + 1 ≤ length values) (open_l : has trail l ≡ false) (open_negated : has trail (negated l) ≡ false) where
  pub no_value : get_or values (variable_of l) Unassigned ≡ Unassigned
  no_value = open_value (get_or values (variable_of l) Unassigned) l (sound.agree l within ∙ open_l)
      (subst (λ k. makes_true (get_or values k Unassigned) (negated l) ≡ false) (variable_of-negated l) (sound.agree (negated l) (omega (arith, within, variable_of-negated l)) ∙ open_negated))

  -- the trail has room for one more
  pub room_left : length trail < room
  room_left = omega (arith, sound.counted, sound.enough_room, assigned-below values (variable_of l) (omega (arith, within)) no_value)

  agree_more : (m : Literal) → variable_of m + 1 ≤ length values → true_by (set values (variable_of l) (value_of l)) m ≡ has (trail ++ l ∷ []) m
  agree_more m inside =
      ⊎_elim (λ same_variable.
      let none : has trail m ≡ false = sym (sound.agree m inside) ∙ ap (λ k. makes_true (get_or values k Unassigned) m) same_variable ∙ ap (λ u. makes_true u m) no_value in
      true_by-set_same values (variable_of l) (value_of l) m (omega (arith, within)) same_variable ∙ makes_true-value_of l m same_variable
      ∙ sym (has-push trail l m ∙ ap (λ b. same m l || b) none ∙ or-false (same m l)))
      (λ other.
      let differs : same m l ≡ false = false_from_ne_true (same m l) (λ is. other (same-variable l m is)) in
      true_by-set_other values (variable_of l) (value_of l) m other ∙ sound.agree m inside ∙ sym (has-push trail l m ∙ ap (λ b. b || has trail m) differs))
      (cases_eq (variable_of m) (variable_of l))

  pub sound_more : (more : ℕ) → room ≤ more → IsAssignment (set values (variable_of l) (value_of l)) (trail ++ l ∷ []) more
  sound_more more grows =
      let long : length (set values (variable_of l) (value_of l)) ≡ length values = length-set values (variable_of l) (value_of l) in
      record {
        some_place = omega (arith, long, sound.some_place);
        enough_room = omega (arith, long, sound.enough_room, grows);
        counted = omega (arith, sound.counted, assigned-set values (variable_of l) l (omega (arith, within)) no_value, length-append trail (l ∷ []));
        in_range = All-push (λ m. variable_of m + 1 ≤ length (set values (variable_of l) (value_of l))) trail l (All-weaker (λ m. variable_of m + 1 ≤ length values) (λ m. variable_of m + 1 ≤ length (set values (variable_of l) (value_of l))) (λ m inside. omega (arith, inside, long)) trail sound.in_range) (omega (arith, within, long));
        agree = λ m inside. agree_more m (omega (arith, inside, long));
      }

-- where no literal is true
pub sound_none : (values : List Value) (room : ℕ) → 1 ≤ length values → length values ≤ room → ((l : Literal) → true_by values l ≡ false) → IsAssignment values [] room
sound_none values room some enough none = record {
  some_place = some;
  enough_room = enough;
  counted = omega arith;
  in_range = λ k d within. absurd (omega arith);
  agree = λ l within. none l;
}

pub none_true-replicate : (n : ℕ) (l : Literal) → true_by (replicate n Unassigned) l ≡ false
none_true-replicate n l = ap (λ v. makes_true v l) (unassigned_at n (variable_of l)) where
  unassigned_at : (n place : ℕ) → get_or (replicate n Unassigned) place Unassigned ≡ Unassigned
  unassigned_at zero place = refl
  unassigned_at (suc n) zero = refl
  unassigned_at (suc n) (suc place) = unassigned_at n place

-- a value is taken away
assigned-unset : (values : List Value) (place : ℕ) → (get_or values place Unassigned ≡ Unassigned → ⊥) → assigned (set values place Unassigned) + 1 ≡ assigned values
assigned-unset [] place some = absurd (some refl)
assigned-unset (Unassigned ∷ values) zero some = absurd (some refl)
assigned-unset (True ∷ values) zero some = omega arith
assigned-unset (False ∷ values) zero some = omega arith
assigned-unset (Unassigned ∷ values) (suc place) some = assigned-unset values place some
assigned-unset (True ∷ values) (suc place) some = omega (arith, assigned-unset values place some)
assigned-unset (False ∷ values) (suc place) some = omega (arith, assigned-unset values place some)

false_or : (a b : Bool) → a ≡ false → (a || b) ≡ b
false_or a b e = ap (λ x. x || b) e

pub sound_less : (values : List Value) (trail : List Literal) (t : Literal) (room : ℕ) → IsAssignment values (trail ++ t ∷ []) room → ((m : Literal) → has trail m ≡ true → variable_of m ≢ variable_of t) → IsAssignment (set values (variable_of t) Unassigned) trail room
sound_less values trail t room sound apart =
    let x : ℕ = variable_of t in
    let long : length (set values x Unassigned) ≡ length values = length-set values x Unassigned in
    let inside : x + 1 ≤ length values = (All-pop (λ m. variable_of m + 1 ≤ length values) (trail ++ t ∷ []) trail (Some t) refl sound.in_range).1 in
    let rest : All (λ m. variable_of m + 1 ≤ length values) trail = (All-pop (λ m. variable_of m + 1 ≤ length values) (trail ++ t ∷ []) trail (Some t) refl sound.in_range).0 in
    let is_true : true_by values t ≡ true = sound.agree t inside ∙ has-push trail t t ∙ has-first t trail in
    record {
      some_place = omega (arith, long, sound.some_place);
      enough_room = omega (arith, long, sound.enough_room);
      counted = omega (arith, sound.counted, length-append trail (t ∷ []), assigned-unset values x (λ none. false≢true (sym (ap (λ u. makes_true u t) none) ∙ is_true)));
      in_range = All-weaker (λ m. variable_of m + 1 ≤ length values) (λ m. variable_of m + 1 ≤ length (set values x Unassigned)) (λ m less. omega (arith, less, long)) trail rest;
      agree = λ m less. ⊎_elim
          (λ own. true_by-set_same values x Unassigned m (omega (arith, inside)) own ∙ sym (false_from_ne_true (has trail m) (λ h. apart m h own)))
          (λ other. true_by-set_other values x Unassigned m other ∙ sound.agree m (omega (arith, less, long)) ∙ has-push trail t m
          ∙ false_or (same m t) (has trail m) (false_from_ne_true (same m t) (λ e. other (ap variable_of (same-true m t e)))))
          (cases_eq (variable_of m) x);
    }

has_member : (trail : List Literal) (i : ℕ) (d : Literal) → i < length trail → has trail (get_or trail i d) ≡ true
has_member [] i d within = absurd (omega arith)
has_member (x ∷ xs) zero d within = has-first x xs
has_member (x ∷ xs) (suc i) d within = has-rest x (get_or xs i d) xs (has_member xs i d (omega arith))

alike : (m l : Literal) → variable_of m ≡ variable_of l → (m ≡ l) ⊎ (m ≡ negated l)
alike (Plus x) (Plus y) e = inl (ap Plus e)
alike (Plus x) (Minus y) e = inr (ap Plus e)
alike (Minus x) (Plus y) e = inr (ap Minus e)
alike (Minus x) (Minus y) e = inl (ap Minus e)

-- the place of one literal more, whose variable has no value
pub placed_more : (trail : List Literal) (places : List ℕ) (l : Literal) (x n : ℕ) → ArePlaces trail places → x ≡ variable_of l → x < length places → n ≡ length trail → has trail l ≡ false → has trail (negated l) ≡ false → ArePlaces (trail ++ l ∷ []) (set places x n)
placed_more trail places l x n placed own inside at open_l open_negated i d within =
    ⊎_elim
    (λ less.
    let m : Literal = get_or trail i d in
    let there : has trail m ≡ true = has_member trail i d less in
    let other : variable_of m ≢ x = λ e. ⊎_elim
    (λ is. true≢false (sym there ∙ ap (λ k. has trail k) is ∙ open_l))
    (λ is. true≢false (sym there ∙ ap (λ k. has trail k) is ∙ open_negated))
    (alike m l (e ∙ own)) in
    ap (λ k. get_or (set places x n) (variable_of k) 0) (get_or-append trail (l ∷ []) d i less) ∙ get_or-set_other places x (variable_of m) n 0 other ∙ placed i d less)
    (λ more.
    let last : i ≡ length trail = omega (arith, within, length-append trail (l ∷ []), more) in
    ap (λ k. get_or (set places x n) (variable_of k) 0) (ap (λ k. get_or (trail ++ l ∷ []) k d) last ∙ get_or-append_seam trail l [] d)
    ∙ ap (λ k. get_or (set places x n) k 0) (sym own) ∙ get_or-set_same places x n 0 inside ∙ at ∙ sym last)
    (cases_lt i (length trail))
