-- Parts of what is kept, once more is kept.
use Rattle.std.proofs.Common.{◌≡◌, ℕ, ◌+◌, ◌-◌, ◌≤◌, List, [], ◌++◌, Option, Some, None, length, take, drop, refl, sym, ap, subst, ◌∙◌, ◌⊎◌, inl, inr, arith, length-append}
use Rattle.std.proofs.lemmas.List.{take-append-le, drop-append-le, length-drop}
use Rattle.std.proofs.Math.Seq.{take_all}
use Rattle.std.specs.Option.{ForSome}
use Rattle.lent_desk.specs.declared.files.File.{File}
use Rattle.lent_desk.specs.declared.files.File.TheVariants.{Config, Orgs, Script, Cert, Made}
use Rattle.lent_desk.specs.declared.spans.Span.{Span}
use Rattle.lent_desk.specs.declared.spans.Spans.{Spans}
use Rattle.lent_desk.specs.declared.spans.Open.{Open}
use Rattle.lent_desk.specs.declared.left.AllLeft.{AllLeft}
use Rattle.lent_desk.specs.Spans.{slice_in, Fits, span_at, with_span, FitAll, IsOpen, held_by}
use Rattle.lent_desk.specs.Left.{FitsLeft}

some_span : (s t : Span) → Some s ≡ Some t → s ≡ t
some_span s t is = cc

some_open : (s t : Open) → Some s ≡ Some t → s ≡ t
some_open s t is = cc

same_file : (g f : File) → (g ≡ f) ⊎ (g ≡ f → ⊥)
same_file Config Config = inl refl
same_file Config Orgs = inr (λ is. absurd (cc is))
same_file Config Script = inr (λ is. absurd (cc is))
same_file Config Cert = inr (λ is. absurd (cc is))
same_file Config Made = inr (λ is. absurd (cc is))
same_file Orgs Config = inr (λ is. absurd (cc is))
same_file Orgs Orgs = inl refl
same_file Orgs Script = inr (λ is. absurd (cc is))
same_file Orgs Cert = inr (λ is. absurd (cc is))
same_file Orgs Made = inr (λ is. absurd (cc is))
same_file Script Config = inr (λ is. absurd (cc is))
same_file Script Orgs = inr (λ is. absurd (cc is))
same_file Script Script = inl refl
same_file Script Cert = inr (λ is. absurd (cc is))
same_file Script Made = inr (λ is. absurd (cc is))
same_file Cert Config = inr (λ is. absurd (cc is))
same_file Cert Orgs = inr (λ is. absurd (cc is))
same_file Cert Script = inr (λ is. absurd (cc is))
same_file Cert Cert = inl refl
same_file Cert Made = inr (λ is. absurd (cc is))
same_file Made Config = inr (λ is. absurd (cc is))
same_file Made Orgs = inr (λ is. absurd (cc is))
same_file Made Script = inr (λ is. absurd (cc is))
same_file Made Cert = inr (λ is. absurd (cc is))
same_file Made Made = inl refl

pub span_same : (f : File) (s : Span) (all : Spans) → span_at f (with_span f s all) ≡ Some s
span_same Config s all = refl
span_same Orgs s all = refl
span_same Script s all = refl
span_same Cert s all = refl
span_same Made s all = refl

pub span_other : (f g : File) (s : Span) (all : Spans) → (g ≡ f → ⊥) → span_at g (with_span f s all) ≡ span_at g all
span_other Config Config s all apart = absurd (apart refl)
span_other Config Orgs s all apart = refl
span_other Config Script s all apart = refl
span_other Config Cert s all apart = refl
span_other Config Made s all apart = refl
span_other Orgs Config s all apart = refl
span_other Orgs Orgs s all apart = absurd (apart refl)
span_other Orgs Script s all apart = refl
span_other Orgs Cert s all apart = refl
span_other Orgs Made s all apart = refl
span_other Script Config s all apart = refl
span_other Script Orgs s all apart = refl
span_other Script Script s all apart = absurd (apart refl)
span_other Script Cert s all apart = refl
span_other Script Made s all apart = refl
span_other Cert Config s all apart = refl
span_other Cert Orgs s all apart = refl
span_other Cert Script s all apart = refl
span_other Cert Cert s all apart = absurd (apart refl)
span_other Cert Made s all apart = refl
span_other Made Config s all apart = refl
span_other Made Orgs s all apart = refl
span_other Made Script s all apart = refl
span_other Made Cert s all apart = refl
span_other Made Made s all apart = absurd (apart refl)

-- a part stays as it was
pub slice_more : (s : Span) (xs ys : List ℕ) → Fits (length xs) s → slice_in s (xs ++ ys) ≡ slice_in s xs
slice_more s xs ys fits =
    ap (take (s.to - s.from)) (drop-append-le s.from xs ys (omega (arith, fits)))
    ∙ take-append-le (s.to - s.from) (drop s.from xs) ys (omega (arith, fits, length-drop s.from xs))

-- the last part has what is put after it
pub slice_last : (from : ℕ) (xs ys : List ℕ) (n : ℕ) → from ≤ length xs → n ≡ length xs + length ys
    → slice_in (record { from = from; to = n }) (xs ++ ys) ≡ slice_in (record { from = from; to = length xs }) xs ++ ys
slice_last from xs ys n fits is =
    ap (take (n - from)) (drop-append-le from xs ys fits)
    ∙ take_all (n - from) (drop from xs ++ ys) (omega (arith, is, length-append (drop from xs) ys, length-drop from xs))
    ∙ ap (λ (l : List ℕ). l ++ ys) (sym (take_all (length xs - from) (drop from xs) (omega (arith, length-drop from xs))))

pub slice_none : (at : ℕ) (xs : List ℕ) → slice_in (record { from = at; to = at }) xs ≡ []
slice_none at xs = let none : at - at ≡ 0 = omega arith in ap (λ n. take n (drop at xs)) none

pub held_more : (o : Option Span) (lent : Option (List ℕ)) (xs ys : List ℕ) → ForSome o (Fits (length xs)) → held_by o lent (xs ++ ys) ≡ held_by o lent xs
held_more None lent xs ys fits = refl
held_more (Some s) lent xs ys fits = ap Some (slice_more s xs ys (fits s refl))

fit_either : (o : Option Span) (s : Span) (at : Option Span) (kept : ℕ) → at ≡ o → ForSome o (Fits kept) → ForSome at (Fits kept)
fit_either o s at kept is fits = λ x held. fits x (sym is ∙ held)

fit_new : (s : Span) (at : Option Span) (kept : ℕ) → at ≡ Some s → Fits kept s → ForSome at (Fits kept)
fit_new s at kept is fits = λ x held. subst (Fits kept) (some_span s x (sym is ∙ held)) fits

more_room : (o : Option Span) (kept more : ℕ) → kept ≤ more → ForSome o (Fits kept) → ForSome o (Fits more)
more_room o kept more less fits = λ x held. ((fits x held).0, omega (arith, less, (fits x held).1))

-- each part fits once one of them is another that fits
pub fit_all_with : (f : File) (s : Span) (all : Spans) (kept more : ℕ) → Fits more s → kept ≤ more → FitAll kept all → FitAll more (with_span f s all)
fit_all_with f s all kept more new less fits = λ g. elim (same_file g f) [
  | inl same ↦ fit_new s (span_at g (with_span f s all)) more (ap (λ (h : File). span_at h (with_span f s all)) same ∙ span_same f s all) new
  | inr apart ↦ fit_either (span_at g all) s (span_at g (with_span f s all)) more (span_other f g s all apart) (more_room (span_at g all) kept more less (fits g))
]

pub is_open_with : (o : Open) (kept : ℕ) (all : Spans) → ForSome (Some o) (IsOpen kept (with_span o.file (record { from = o.from; to = kept }) all))
is_open_with o kept all = λ x held. subst (IsOpen kept (with_span o.file (record { from = o.from; to = kept }) all)) (some_open o x held) (span_same o.file (record { from = o.from; to = kept }) all)

pub more_left : (left : AllLeft) (kept more : ℕ) → kept ≤ more → FitsLeft kept left → FitsLeft more left
more_left left kept more less fits = λ which. ((fits which).0, omega (arith, less, (fits which).1))
