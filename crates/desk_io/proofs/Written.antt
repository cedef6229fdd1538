-- Two puts in a row are one, and a put of nothing is none.
use Rattle.std.proofs.Common.{◌≡◌, inl, inr, ℕ, ◌+◌, ◌-◌, Bool, true, false, List, [], ◌++◌, length, Option, Some, None, refl, ap, arith, append_assoc, length-append}
use Rattle.std.proofs.lemmas.List.{append-nil}
use Rattle.std.specs.Prelude.{if◌then◌else◌}
use Rattle.std.specs.Option.{option_map}
use Rattle.std.specs.Str.{bytes_eq}
use Rattle.desk_io.specs.declared.desk.To.{To}
use Rattle.desk_io.specs.declared.desk.To.TheVariants.{Out, Cert}
use Rattle.desk_io.specs.State.{DeskState, Files, appended, written, CannotPut}

held_nil : (o : Option (List ℕ)) (b : Bool) → (if b then option_map (λ held. held ++ []) o else o) ≡ o
held_nil None true = refl
held_nil (Some held) true = ap Some (append-nil held)
held_nil o false = refl

pub appended-nil : (name : Option (List ℕ)) (files : Files) → appended name [] files ≡ files
appended-nil None files = refl
appended-nil (Some name) files = λ i n. held_nil (files n) (bytes_eq n name) i

held_append : (xs ys : List ℕ) (o : Option (List ℕ)) (b : Bool)
    → (if b then option_map (λ held. held ++ ys) (if b then option_map (λ held. held ++ xs) o else o) else (if b then option_map (λ held. held ++ xs) o else o))
    ≡ (if b then option_map (λ held. held ++ (xs ++ ys)) o else o)
held_append xs ys None true = refl
held_append xs ys (Some held) true = ap Some (append_assoc held xs ys)
held_append xs ys o false = refl

pub appended-append : (name : Option (List ℕ)) (xs ys : List ℕ) (files : Files) → appended name ys (appended name xs files) ≡ appended name (xs ++ ys) files
appended-append None xs ys files = refl
appended-append (Some name) xs ys files = λ i n. held_append xs ys (files n) (bytes_eq n name) i

pub written-nil : (to : To) (s : DeskState) → written to [] s ≡ s
written-nil Out s =
    let out : s.out ++ [] ≡ s.out = append-nil s.out in
    let room : s.room - 0 ≡ s.room = omega arith in
    λ i. record s { out = out i; room = room i }
written-nil Cert s =
    let files : appended s.created [] s.files ≡ s.files = appended-nil s.created s.files in
    let room : s.room - 0 ≡ s.room = omega arith in
    λ i. record s { files = files i; room = room i }

pub written-append : (to : To) (xs ys : List ℕ) (s : DeskState) → written to ys (written to xs s) ≡ written to (xs ++ ys) s
written-append Out xs ys s =
    let out : (s.out ++ xs) ++ ys ≡ s.out ++ (xs ++ ys) = append_assoc s.out xs ys in
    let room : s.room - length xs - length ys ≡ s.room - length (xs ++ ys) = omega (arith, length-append xs ys) in
    λ i. record s { out = out i; room = room i }
written-append Cert xs ys s =
    let files : appended s.created ys (appended s.created xs s.files) ≡ appended s.created (xs ++ ys) s.files = appended-append s.created xs ys s.files in
    let room : s.room - length xs - length ys ≡ s.room - length (xs ++ ys) = omega (arith, length-append xs ys) in
    λ i. record s { files = files i; room = room i }

pub written-room : (to : To) (xs : List ℕ) (s : DeskState) → (written to xs s).room ≡ s.room - length xs
written-room Out xs s = refl
written-room Cert xs s = refl

-- what can't take the rest could not take the whole
pub CannotPut-written : (to : To) (xs : List ℕ) (n : ℕ) (s : DeskState) → CannotPut to n (written to xs s) → CannotPut to (length xs + n) s
CannotPut-written Out xs n s small = omega arith
CannotPut-written Cert xs n s (inl none) = inl none
CannotPut-written Cert xs n s (inr small) = inr (omega arith)
