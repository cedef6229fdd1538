-- Entries by their names.
use Rattle.std.proofs.Common.{◌≡◌, ◌≢◌, ℕ, zero, suc, ◌+◌, ◌-◌, ◌<◌, ◌≤◌, Bool, true, false, List, [], ◌∷◌, ◌++◌, length, get_or, Option, Some, None, refl, sym, ◌∙◌, ap, subst, arith, length-append}
use Rattle.std.proofs.Math.ListN.{set, length-set}
use Rattle.std.proofs.lemmas.List.{get_or-set_same, get_or-set_other, get_or-map, length-map}
use Rattle.std.proofs.lemmas.Option.{slice_get-get_or}
use Rattle.std.proofs.Math.Seq.{map-set_same}
use Rattle.std.proofs.lemmas.Slice.Eq.{bytes_eq-Decides}
use Rattle.std.specs.Prelude.{if◌then◌else◌, map, Contains, IsSome, IsSomeAnd, is_some, All, String, Vec, string_bytes}
use Rattle.std.specs.declared.alloc.Global.{Global}
use Rattle.std.specs.Option.{option_map}
use Rattle.std.specs.Str.{bytes_eq}
use Rattle.desk_io.specs.State.{with_file, appended}
use Rattle.desk_io.specs.Entries.{Entry, files_of, name_at, IsFirst, IsMissing, IsOpen, entry_of, missing_of, held_in}

at_true : {A : Type 0} (b : Bool) (x y : A) → b ≡ true → (if b then x else y) ≡ x
at_true true x y h = refl
at_true false x y h = absurd (cc h)

at_false : {A : Type 0} (b : Bool) (x y : A) → b ≡ false → (if b then x else y) ≡ y
at_false false x y h = refl
at_false true x y h = absurd (cc h)

-- the rest of the entries, where the first has another name
first_of_rest : (e : Entry) (es : List Entry) (i : ℕ) (n : List ℕ) → IsFirst (e ∷ es) (suc i) n → IsFirst es i n
first_of_rest e es i n first = record { below = omega (arith, first.below); found = first.found; before = λ k d less. first.before (suc k) d (omega (arith, less)) }

pub files_of-first : (es : List Entry) (i : ℕ) (n : List ℕ) (d : Entry) → IsFirst es i n → files_of es n ≡ (get_or es i d).held
files_of-first [] i n d first = absurd (omega (arith, first.below))
files_of-first (e ∷ es) zero n d first = at_true (bytes_eq n e.name) e.held (files_of es n) (first.found d)
files_of-first (e ∷ es) (suc i) n d first =
    at_false (bytes_eq n e.name) e.held (files_of es n) (first.before 0 d (omega arith))
    ∙ files_of-first es i n d (first_of_rest e es i n first)

pub files_of-missing : (es : List Entry) (n : List ℕ) → IsMissing es n → files_of es n ≡ None
files_of-missing [] n missing = refl
files_of-missing (e ∷ es) n missing =
    at_false (bytes_eq n e.name) e.held (files_of es n) (missing 0 e (omega arith))
    ∙ files_of-missing es n (λ k d less. missing (suc k) d (omega (arith, less)))

named : (m n : List ℕ) → bytes_eq m n ≡ true → m ≡ n
named m n h = (bytes_eq-Decides m n).0 h

same_choice : {A : Type 0} (b b1 b2 : Bool) (held old rest : A) → b1 ≡ b → b2 ≡ b
    → (if b1 then held else rest) ≡ (if b then held else (if b2 then old else rest))
same_choice true true true held old rest p q = refl
same_choice false false false held old rest p q = refl
same_choice true false b2 held old rest p q = absurd (cc p)
same_choice false true b2 held old rest p q = absurd (cc p)
same_choice true true false held old rest p q = absurd (cc q)
same_choice false false true held old rest p q = absurd (cc q)

later_choice : {A : Type 0} (bn bx : Bool) (xh held rest all : A) → (bn ≡ true → bx ≡ false) → all ≡ (if bn then held else rest)
    → (if bx then xh else all) ≡ (if bn then held else (if bx then xh else rest))
later_choice true true xh held rest all apart is = absurd (cc (apart refl))
later_choice true false xh held rest all apart is = is
later_choice false true xh held rest all apart is = refl
later_choice false false xh held rest all apart is = is

-- the files after the first entry of a name is another of that name
pub files_of-set : (es : List Entry) (i : ℕ) (n : List ℕ) (e d : Entry) → IsFirst es i n → e.name ≡ (get_or es i d).name
    → (m : List ℕ) → files_of (set es i e) m ≡ (if bytes_eq m n then e.held else files_of es m)
files_of-set [] i n e d first same m = absurd (omega (arith, first.below))
files_of-set (x ∷ es) zero n e d first same m =
    let of_x : n ≡ x.name = named n x.name (first.found d) in
    let of_e : n ≡ e.name = of_x ∙ sym same in
    same_choice (bytes_eq m n) (bytes_eq m e.name) (bytes_eq m x.name) e.held x.held (files_of es m) (ap (λ (l : List ℕ). bytes_eq m l) (sym of_e)) (ap (λ (l : List ℕ). bytes_eq m l) (sym of_x))
files_of-set (x ∷ es) (suc i) n e d first same m =
    let other : bytes_eq n x.name ≡ false = first.before 0 d (omega arith) in
    later_choice (bytes_eq m n) (bytes_eq m x.name) x.held e.held (files_of es m) (files_of (set es i e) m)
    (λ is. subst (λ (l : List ℕ). bytes_eq l x.name ≡ false) (sym (named m n is)) other)
    (files_of-set es i n e d (first_of_rest x es i n first) same m)

-- an empty file is created
pub files_of-created : (es : List Entry) (i : ℕ) (n : List ℕ) (e d : Entry) → IsFirst es i n → e.name ≡ (get_or es i d).name → e.held ≡ Some []
    → files_of (set es i e) ≡ with_file n [] (files_of es)
files_of-created es i n e d first same empty =
    λ k m. (files_of-set es i n e d first same m ∙ ap (λ (held : Option (List ℕ)). if bytes_eq m n then held else files_of es m) empty) k

put_choice : (b : Bool) (new old : Option (List ℕ)) (file : Option (List ℕ)) (bytes : List ℕ) → new ≡ option_map (λ held. held ++ bytes) old → (b ≡ true → file ≡ old)
    → (if b then new else file) ≡ (if b then option_map (λ held. held ++ bytes) file else file)
put_choice true new old file bytes is at = is ∙ ap (λ (o : Option (List ℕ)). option_map (λ held. held ++ bytes) o) (sym (at refl))
put_choice false new old file bytes is at = refl

-- bytes are put to the first of a name
pub files_of-appended : (es : List Entry) (i : ℕ) (n : List ℕ) (e d : Entry) (bytes : List ℕ) → IsFirst es i n → e.name ≡ (get_or es i d).name
    → e.held ≡ option_map (λ held. held ++ bytes) (get_or es i d).held
    → files_of (set es i e) ≡ appended (Some n) bytes (files_of es)
files_of-appended es i n e d bytes first same more =
    λ k m. (files_of-set es i n e d first same m
    ∙ put_choice (bytes_eq m n) e.held (get_or es i d).held (files_of es m) bytes more
    (λ is. ap (files_of es) (named m n is) ∙ files_of-first es i n d first)) k

-- no entry has a name that is missing
pub missing_names : (es : List Entry) (n : List ℕ) → IsMissing es n → Contains (map (λ e. e.name) es) n → ⊥
missing_names es n missing (k, less, is) =
    let below : k < length es = omega (arith, length-map es (λ (e : Entry). e.name)) in
    let none : Entry = record { name = []; size = 0; held = None } in
    let name_is : (get_or es k none).name ≡ n = sym (get_or-map (λ (e : Entry). e.name) es k none n below) ∙ is in
    let found : bytes_eq n (get_or es k none).name ≡ true = (bytes_eq-Decides n (get_or es k none).name).1 (sym name_is) in
    absurd (cc (found, missing k none below))

-- an entry of a name is among the names
pub first_names : (es : List Entry) (i : ℕ) (n : List ℕ) → IsFirst es i n → Contains (map (λ e. e.name) es) n
first_names es i n first =
    let below : i < length (map (λ (e : Entry). e.name) es) = omega (arith, length-map es (λ (e : Entry). e.name), first.below) in
    let none : Entry = record { name = []; size = 0; held = None } in
    (i, below, get_or-map (λ (e : Entry). e.name) es i none n first.below ∙ sym (named n (get_or es i none).name (first.found none)))

-- the entry that is set has the name and is the first of it
pub IsFirst-set : (es : List Entry) (i : ℕ) (n : List ℕ) (e d : Entry) → IsFirst es i n → e.name ≡ (get_or es i d).name → IsFirst (set es i e) i n
IsFirst-set es i n e d first same = record {
  below = omega (arith, length-set es i e, first.below);
  found = λ d'. ap (λ (x : Entry). bytes_eq n x.name) (get_or-set_same es i e d' first.below) ∙ ap (λ (l : List ℕ). bytes_eq n l) same ∙ first.found d;
  before = λ k d' less. let apart : k ≢ i = omega arith in ap (λ (x : Entry). bytes_eq n x.name) (get_or-set_other es i k e d' apart) ∙ first.before k d' less;
}

-- what the desk tells of its entries after entry i is an empty file
pub record Created (es : List Entry) (i : ℕ) (n : List ℕ) (e : Entry) : Type 0 where
  pub files : files_of (set es i e) ≡ with_file n [] (files_of es)
  pub names : map (λ e. e.name) (set es i e) ≡ map (λ e. e.name) es
  pub created : name_at (Some i) (set es i e) ≡ Some n

pub created_at : (es : List Entry) (i : ℕ) (n : List ℕ) (e x : Entry) → IsFirst es i n → x ≡ get_or es i x → e ≡ record x { held = Some [] } → Created es i n e
created_at es i n e x first is made =
    let name_is : e.name ≡ (get_or es i x).name = ap (λ (y : Entry). y.name) made ∙ ap (λ (y : Entry). y.name) is in
    let of_n : n ≡ e.name = named n (get_or es i x).name (first.found x) ∙ sym name_is in
    let below : i < length (set es i e) = omega (arith, length-set es i e, first.below) in
    record {
      files = files_of-created es i n e x first name_is (ap (λ (y : Entry). y.held) made);
      names = map-set_same (λ (y : Entry). y.name) es i e x name_is;
      created = ap (option_map (λ (y : Entry). y.name)) (slice_get-get_or (set es i e) i e below ∙ ap Some (get_or-set_same es i e e first.below)) ∙ ap Some (sym of_n);
    }

-- the same after bytes are put to entry i
pub record Put (es : List Entry) (i : ℕ) (bytes : List ℕ) (e : Entry) : Type 0 where
  pub files : files_of (set es i e) ≡ appended (name_at (Some i) es) bytes (files_of es)
  pub names : map (λ e. e.name) (set es i e) ≡ map (λ e. e.name) es
  pub created : name_at (Some i) (set es i e) ≡ name_at (Some i) es

pub put_at : (es : List Entry) (room i : ℕ) (bytes : List ℕ) (e x : Entry) → IsOpen es room i → x ≡ get_or es i x → e ≡ record x { held = option_map (λ held. held ++ bytes) x.held } → Put es i bytes e
put_at es room i bytes e x opened is made =
    let first = opened.first x in
    let name_is : e.name ≡ (get_or es i x).name = ap (λ (y : Entry). y.name) made ∙ ap (λ (y : Entry). y.name) is in
    let below : i < length (set es i e) = omega (arith, length-set es i e, first.below) in
    let name : name_at (Some i) es ≡ Some (get_or es i x).name = ap (option_map (λ (y : Entry). y.name)) (slice_get-get_or es i x first.below) in
    let held : e.held ≡ option_map (λ held. held ++ bytes) (get_or es i x).held = ap (λ (y : Entry). y.held) made ∙ ap (λ (y : Entry). option_map (λ held. held ++ bytes) y.held) is in
    record {
      files = files_of-appended es i (get_or es i x).name e x bytes first name_is held ∙ ap (λ (o : Option (List ℕ)). appended o bytes (files_of es)) (sym name);
      names = map-set_same (λ (y : Entry). y.name) es i e x name_is;
      created = ap (option_map (λ (y : Entry). y.name)) (slice_get-get_or (set es i e) i e below ∙ ap Some (get_or-set_same es i e e first.below)) ∙ ap Some name_is ∙ sym name;
    }

some_appended : (old new : Option (List ℕ)) (bytes : List ℕ) → new ≡ option_map (λ held. held ++ bytes) old → IsSome old → IsSome new
some_appended None new bytes is some = absurd (cc some)
some_appended (Some held) new bytes is some = ap is_some is

some_same : (a b : List ℕ) → Some a ≡ Some b → a ≡ b
some_same a b is = cc

fits_appended : (old new : Option (List ℕ)) (bytes more : List ℕ) (room size size' : ℕ) → new ≡ option_map (λ held. held ++ bytes) old → size' ≡ size → length bytes ≤ room
    → ((held : List ℕ) → old ≡ Some held → length held + room ≤ size) → new ≡ Some more → length more + (room - length bytes) ≤ size'
fits_appended None new bytes more room size size' is same less roomy has = absurd (cc (is, has))
fits_appended (Some held) new bytes more room size size' is same less roomy has =
    let more_is : held ++ bytes ≡ more = some_same (held ++ bytes) more (sym is ∙ has) in
    omega (arith, roomy held refl, ap length more_is, length-append held bytes)

-- it is still open, with less room
pub open_after : (es : List Entry) (room i : ℕ) (bytes : List ℕ) (e x : Entry) → IsOpen es room i → x ≡ get_or es i x → e ≡ record x { held = option_map (λ held. held ++ bytes) x.held }
    → length bytes ≤ room → IsOpen (set es i e) (room - length bytes) i
open_after es room i bytes e x opened is made less =
    let size_is : e.size ≡ (get_or es i x).size = ap (λ (y : Entry). y.size) made ∙ ap (λ (y : Entry). y.size) is in
    let name_is : e.name ≡ (get_or es i x).name = ap (λ (y : Entry). y.name) made ∙ ap (λ (y : Entry). y.name) is in
    let held_is : e.held ≡ option_map (λ held. held ++ bytes) (get_or es i x).held = ap (λ (y : Entry). y.held) made ∙ ap (λ (y : Entry). option_map (λ held. held ++ bytes) y.held) is in
    let at_i : (d : Entry) → e ≡ get_or (set es i e) i d = λ d. sym (get_or-set_same es i e d (opened.first x).below) in
    record {
      first = λ d. subst (λ (y : Entry). IsFirst (set es i e) i y.name) (at_i d)
          (subst (λ (l : List ℕ). IsFirst (set es i e) i l) (sym name_is) (IsFirst-set es i (get_or es i x).name e x (opened.first x) name_is));
      exists = λ d. subst (λ (y : Entry). IsSome y.held) (at_i d) (some_appended (get_or es i x).held e.held bytes held_is (opened.exists x));
      roomy = λ d more has. subst (λ (y : Entry). length more + (room - length bytes) ≤ y.size) (at_i d)
          (fits_appended (get_or es i x).held e.held bytes more room (get_or es i x).size e.size held_is size_is less (opened.roomy x) (ap (λ (y : Entry). y.held) (at_i d) ∙ has));
    }

-- less room asks less
pub open_less : (es : List Entry) (room n i : ℕ) → IsOpen es room i → IsOpen es (room - n) i
open_less es room n i opened = record {
  first = opened.first;
  exists = opened.exists;
  roomy = λ d bytes has. omega (arith, opened.roomy d bytes has);
}

some_and : (o : Option (List ℕ)) (P : List ℕ → Type 0) → IsSome o → ((bytes : List ℕ) → o ≡ Some bytes → P bytes) → IsSomeAnd o P
some_and None P some each = absurd (cc some)
some_and (Some bytes) P some each = each bytes refl

pub can_append : (es : List Entry) (room i n : ℕ) (x : Entry) → IsOpen es room i → x ≡ get_or es i x → n ≤ room → IsSomeAnd x.held (λ bytes. length bytes + n ≤ x.size)
can_append es room i n x opened is less =
    subst (λ (y : Entry). IsSomeAnd y.held (λ bytes. length bytes + n ≤ y.size)) (sym is)
    (some_and (get_or es i x).held (λ bytes. length bytes + n ≤ (get_or es i x).size) (opened.exists x) (λ bytes has. omega (arith, opened.roomy x bytes has)))

pub open_named : (es : List Entry) (room i : ℕ) → IsOpen es room i → IsSome (name_at (Some i) es)
open_named es room i opened =
    let none : Entry = record { name = []; size = 0; held = None } in
    ap is_some (ap (option_map (λ (y : Entry). y.name)) (slice_get-get_or es i none (opened.first none).below))

none_either : (b : Bool) (o : Option (List ℕ)) → o ≡ None → (if b then None else o) ≡ None
none_either true o is = refl
none_either false o is = is

pub files_of-all : (size : ℕ) (files : List (String Global × Vec ℕ Global)) (names : List (String Global)) (n : List ℕ)
    → files_of (map (entry_of size) files ++ map (missing_of size) names) n ≡ held_in files n
files_of-all size [] [] n = refl
files_of-all size [] (name ∷ names) n = none_either (bytes_eq n (string_bytes name)) (files_of (map (missing_of size) names) n) (files_of-all size [] names n)
files_of-all size (file ∷ files) names n =
    ap (λ (o : Option (List ℕ)). if bytes_eq n (string_bytes file.0) then Some file.1.items else o) (files_of-all size files names n)

pub names-all : (size : ℕ) (files : List (String Global × Vec ℕ Global)) (names : List (String Global))
    → map (λ (e : Entry). e.name) (map (entry_of size) files ++ map (missing_of size) names) ≡ map (λ f. string_bytes f.0) files ++ map string_bytes names
names-all size [] [] = refl
names-all size [] (name ∷ names) = ap (λ (l : List (List ℕ)). string_bytes name ∷ l) (names-all size [] names)
names-all size (file ∷ files) names = ap (λ (l : List (List ℕ)). string_bytes file.0 ∷ l) (names-all size files names)

all_more : (size : ℕ) (e : Entry) (es : List Entry) → e.size ≡ size → All (λ f. f.size ≡ size) es → All (λ f. f.size ≡ size) (e ∷ es)
all_more size e es is all zero d less = is
all_more size e es is all (suc k) d less = all k d (omega (arith, less))

pub sized-all : (size : ℕ) (files : List (String Global × Vec ℕ Global)) (names : List (String Global))
    → All (λ f. f.size ≡ size) (map (entry_of size) files ++ map (missing_of size) names)
sized-all size [] [] = λ k d less. absurd (omega (arith, less))
sized-all size [] (name ∷ names) = all_more size (missing_of size name) (map (missing_of size) names) refl (sized-all size [] names)
sized-all size (file ∷ files) names = all_more size (entry_of size file) (map (entry_of size) files ++ map (missing_of size) names) refl (sized-all size files names)
