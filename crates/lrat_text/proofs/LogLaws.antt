-- What a log shows still, where numbers are put after others.
use Rattle.std.proofs.Common.{◌≡◌, ℕ, zero, ◌-◌, ◌<◌, ◌≤◌, List, [], ◌∷◌, ◌++◌, length, drop, map, get_or, refl, sym, ap, ◌∙◌, subst, arith, ℤ, pos, Result, Ok, Err, OnErr}
use Rattle.std.specs.Prelude.{All}
use Rattle.std.proofs.lemmas.List.{append-nil, map-append, length-append, length-drop, drop-append-le, take-append-le, drop_all, take_all, length-map, get_or-map}
use Rattle.std.proofs.lemmas.List.Elements.{All-tail, All-weaker, All-push}
use Rattle.lrat_model.specs.Literal.{Literal}
use Rattle.lrat_model.specs.Steps.{ProofStep, Addition, Deletion}
use Rattle.lrat_text.specs.declared.arena.Span.{Span}
use Rattle.lrat_text.specs.declared.entry.Entry.{Entry}
use Rattle.lrat_text.specs.declared.entry.Entry.TheVariants.{Short, Wide, Deletion as Deleted}
use Rattle.lrat_text.specs.Spans.{IsFront, IsPushed}
use Rattle.lrat_text.specs.Entries.{part, entry_step, IsSpan, IsInside}

pub front_same : {A : Type 0} (old new : List A) → new ≡ old → IsFront old new
front_same old new same = ([], same ∙ sym (append-nil old))

front_length : {A : Type 0} (old new : List A) → IsFront old new → length old ≤ length new
front_length old new front = omega (arith, ap length front.1, length-append old front.0)

span_kept : {A : Type 0} (old new : List A) (span : Span) → IsFront old new → IsSpan (length old) span → IsSpan (length new) span
span_kept old new span front inside = (inside.0, omega (arith, inside.1, front_length old new front))

part_longer : {A : Type 0} (xs ys : List A) (span : Span) → IsSpan (length xs) span → part (xs ++ ys) span ≡ part xs span
part_longer xs ys span inside =
    let low : span.start ≤ length xs = omega (arith, inside.0, inside.1) in
    let rest : span.end - span.start ≤ length (drop span.start xs) = omega (arith, inside.0, inside.1, length-drop span.start xs) in
    rw (drop-append-le span.start xs ys low) (take-append-le (span.end - span.start) (drop span.start xs) ys rest)

part_kept : {A : Type 0} (old new : List A) (span : Span) → IsFront old new → IsSpan (length old) span → part new span ≡ part old span
part_kept old new span front inside = ap (λ xs. part xs span) front.1 ∙ part_longer old front.0 span inside

-- what was put after the others stands there
pub part_pushed : {A : Type 0} (old new items : List A) (span : Span) → IsPushed old new items span → part new span ≡ items
part_pushed old new items span pushed =
    let cut : drop (length old) (old ++ items) ≡ drop (length old) old ++ items = drop-append-le (length old) old items (omega arith) in
    let none : drop (length old) old ≡ [] = drop_all (length old) old (omega arith) in
    let all : drop (length old) (old ++ items) ≡ items = cut ∙ ap (λ xs. xs ++ items) none in
    let ends : span.end ≡ length (old ++ items) = pushed.2 ∙ ap length pushed.0 in
    rw (pushed.1, ends, pushed.0, all) (take_all (length (old ++ items) - length old) items (omega (arith, length-append old items)))

pub span_pushed : {A : Type 0} (old new items : List A) (span : Span) → IsPushed old new items span → IsSpan (length new) span
span_pushed old new items span pushed = (omega (arith, pushed.1, pushed.2, ap length pushed.0, length-append old items), omega (arith, pushed.2))

-- entries in lists that have grown
module _ (lits lits2 : List Literal) (short short2 : List ℕ) (wide wide2 : List ℤ) (ids ids2 : List ℕ) (fl : IsFront lits lits2) (fs : IsFront short short2) (fw : IsFront wide wide2) (fi : IsFront ids ids2) where
  entry_kept : (e : Entry) → IsInside (length lits) (length short) (length wide) (length ids) e → entry_step lits2 short2 wide2 ids2 e ≡ entry_step lits short wide ids e
  entry_kept (Short id l h) inside = ap (λ xs. Addition id xs (map pos (part short2 h))) (part_kept lits lits2 l fl inside.0) ∙ ap (λ xs. Addition id (part lits l) (map pos xs)) (part_kept short short2 h fs inside.1)
  entry_kept (Wide id l h) inside = ap (λ xs. Addition id xs (part wide2 h)) (part_kept lits lits2 l fl inside.0) ∙ ap (λ xs. Addition id (part lits l) xs) (part_kept wide wide2 h fw inside.1)
  entry_kept (Deleted id d) inside = ap (λ xs. Deletion id xs) (part_kept ids ids2 d fi inside)

  inside_kept : (e : Entry) → IsInside (length lits) (length short) (length wide) (length ids) e → IsInside (length lits2) (length short2) (length wide2) (length ids2) e
  inside_kept (Short id l h) inside = (span_kept lits lits2 l fl inside.0, span_kept short short2 h fs inside.1)
  inside_kept (Wide id l h) inside = (span_kept lits lits2 l fl inside.0, span_kept wide wide2 h fw inside.1)
  inside_kept (Deleted id d) inside = span_kept ids ids2 d fi inside

  steps_kept : (es : List Entry) → All (IsInside (length lits) (length short) (length wide) (length ids)) es → map (entry_step lits2 short2 wide2 ids2) es ≡ map (entry_step lits short wide ids) es
  steps_kept [] all = refl
  steps_kept (e ∷ es) all =
      ap (λ s. s ∷ map (entry_step lits2 short2 wide2 ids2) es) (entry_kept e (all zero e (omega arith)))
      ∙ ap (λ ss. entry_step lits short wide ids e ∷ ss) (steps_kept es (All-tail (IsInside (length lits) (length short) (length wide) (length ids)) e es all))

  all_kept : (es : List Entry) → All (IsInside (length lits) (length short) (length wide) (length ids)) es → All (IsInside (length lits2) (length short2) (length wide2) (length ids2)) es
  all_kept es all = All-weaker (IsInside (length lits) (length short) (length wide) (length ids)) (IsInside (length lits2) (length short2) (length wide2) (length ids2)) inside_kept es all

  -- no entry more, and one
  module _ (es es2 : List Entry) (all : All (IsInside (length lits) (length short) (length wide) (length ids)) es) where
    pub shown_same : es2 ≡ es → map (entry_step lits2 short2 wide2 ids2) es2 ≡ map (entry_step lits short wide ids) es
    shown_same same = ap (map (entry_step lits2 short2 wide2 ids2)) same ∙ steps_kept es all

    module _ (e : Entry) (more : es2 ≡ es ++ e ∷ []) where
      pub shown_more : (s : ProofStep) → entry_step lits2 short2 wide2 ids2 e ≡ s → map (entry_step lits2 short2 wide2 ids2) es2 ≡ map (entry_step lits short wide ids) es ++ s ∷ []
      shown_more s is =
          ap (map (entry_step lits2 short2 wide2 ids2)) more ∙ map-append (entry_step lits2 short2 wide2 ids2) es (e ∷ [])
          ∙ ap (λ ss. ss ++ entry_step lits2 short2 wide2 ids2 e ∷ []) (steps_kept es all) ∙ ap (λ k. map (entry_step lits short wide ids) es ++ k ∷ []) is

      pub all_more : IsInside (length lits2) (length short2) (length wide2) (length ids2) e → All (IsInside (length lits2) (length short2) (length wide2) (length ids2)) es2
      all_more inside = subst (All (IsInside (length lits2) (length short2) (length wide2) (length ids2))) (sym more) (All-push (IsInside (length lits2) (length short2) (length wide2) (length ids2)) es e (all_kept es all) inside)

-- the step that a log shows at the place of an entry
pub shown_at : (f : Entry → ProofStep) (es : List Entry) (steps : List ProofStep) (place : ℕ) (e : Entry) (s : ProofStep) → map f es ≡ steps → place < length steps → e ≡ get_or es place e → f e ≡ s → s ≡ get_or steps place s
shown_at f es steps place e s all within there is =
    let inside : place < length es = omega (arith, within, ap length all, length-map es f) in
    sym is ∙ ap f there ∙ sym (get_or-map f es place e s inside) ∙ ap (λ (ss : List ProofStep). get_or ss place s) all

pub on_err : {A E : Type 0} (r : Result A E) (P : Type 0) → P → OnErr r P
on_err (Ok x) P p = tt
on_err (Err e) P p = p
