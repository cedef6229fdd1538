-- Where a loop stands over a list: what it is past, and what is left.
use Rattle.std.proofs.Common.{◌≡◌, [], ◌∷◌, ◌++◌, ◌∙◌, List, map, true, sym, ap, subst, append_assoc, All, Bool, Contains}
use Rattle.std.proofs.lemmas.List.{append-nil}
use Rattle.std.proofs.lemmas.List.Elements.{All-contains, Contains-append_right}
use Rattle.desk_io.specs.State.{DeskState}
use Rattle.desk_io.specs.Faults.{Faults}
use Rattle.enumeration_journal.proofs.Elements.{first_in}
use Rattle.cert_writer.specs.Texts.{Text, joined}
use Rattle.cert_writer.specs.Writing.{Pending, Writes}
use Rattle.cert_writer.proofs.WritingLaws.{writes_same, writes_failed}
use Rattle.cert_writer.proofs.TextSteps.{lines_left}

module _ {A : Type 0} (past left all : List A) (is : past ++ left ≡ all) where
  -- with the next one
  pub next_there : (x : A) (rest : List A) → left ≡ x ∷ rest → past ++ x ∷ rest ≡ all
  next_there x rest next = ap (λ (xs : List A). past ++ xs) (sym next) ∙ is

  -- past it
  pub next_past : (x : A) (rest : List A) → left ≡ x ∷ rest → (past ++ x ∷ []) ++ rest ≡ all
  next_past x rest next = append_assoc past (x ∷ []) rest ∙ next_there x rest next

  -- what is so of all is so of it
  pub next_has : (P : A → Type 0) (x : A) (rest : List A) → left ≡ x ∷ rest → All P all → P x
  next_has P x rest next each = All-contains P all x each (subst (λ (xs : List A). Contains xs x) (next_there x rest next) (Contains-append_right past (x ∷ rest) x (first_in x rest)))

  -- at its end
  pub all_past : left ≡ [] → past ≡ all
  all_past none = sym (append-nil past) ∙ ap (λ (xs : List A). past ++ xs) (sym none) ∙ is

  -- after a put failed, the lines that are left are not put
  pub rest_unput : (tells : Bool) (line : A → Text) (a b : Pending) (r s : DeskState) (e f : Faults) → b.failed ≡ true → Writes tells (joined (map line past)) a r e b s f → Writes tells (joined (map line all)) a r e b s f
  rest_unput tells line a b r s e f failed written =
      writes_same tells _ _ a b r s e f (lines_left line past left all is) (writes_failed tells (joined (map line past)) (joined (map line left)) a b r s e f failed written)
