-- What a line says, one word later.
use Rattle.std.proofs.Common.{◌≡◌, ℕ, ℤ, List, [], ◌∷◌, true, false, ◌<◌, refl, arith, Option, None, Some, rules, subst}
use Rattle.std.specs.Prelude.{is_some, IsSome, IfSome}
use Rattle.lrat_model.specs.Literal.{Literal}
use Rattle.lrat_model.specs.Clauses.{Held}
use Rattle.lrat_model.specs.Steps.{Database}
use Rattle.lrat_model.specs.declared.step.Rule.{Rule}
use Rattle.lrat_model.specs.declared.step.StepFault.{StepFault}
use Rattle.lrat_checker.specs.Adding.{Adding, HasPlace, GoesOn, StopsAt}
use Rattle.lrat_text.specs.Words.{Word}
use Rattle.lrat_text.specs.Lines.{is_mark, after_id}
use Rattle.lrat_stream.specs.declared.words.TheConstants.{MOST_HINTS}
use Rattle.lrat_stream.specs.declared.words.StepWords.{StepWords}
use Rattle.lrat_stream.specs.Outline.{outline_in}
use Rattle.lrat_stream.specs.Ahead.{ahead, addition_from, fault_then, IsOpen}

-- the word after the id, where it begins no deletion
pub begins_addition : (rule : Rule) (vars : ℕ) (database : Database) (id : ℕ) (word : Word) (rest : List Word) → is_mark word ≡ false → outline_in rule vars database (after_id id (word ∷ rest)) ≡ outline_in rule vars database (addition_from id [] (word ∷ rest))
begins_addition rule vars database id word rest mark = rw mark refl

-- without a fault the addition is open
pub opened : (id : ℕ) (lits : List Literal) (fault : Option StepFault) (now : Option Adding) → is_some fault ≡ false → IsOpen id lits fault now → IsSome now
opened id lits (Some f) now none is = cc
opened id lits None None none is = absurd is
opened id lits None (Some a) none is = search rules

-- what is so ahead of one checker is so of another with the same rule, variables and clauses
pub moved : (p q : Rule) (v w : ℕ) (d e : Database) → q ≡ p → w ≡ v → e ≡ d → (s t : StepWords) (now then : Option Adding) (ws us : List Word) → ahead q w e s now ws ≡ ahead q w e t then us → ahead p v d s now ws ≡ ahead p v d t then us
moved p q v w d e rule vars database s t now then ws us is =
    subst (λ (r : Rule). ahead r v d s now ws ≡ ahead r v d t then us) rule
    (subst (λ (n : ℕ). ahead q n d s now ws ≡ ahead q n d t then us) vars (subst (λ (b : Database). ahead q w b s now ws ≡ ahead q w b t then us) database is))

-- a hint at which the addition goes on or stops, whatever hints come after it
module _ (rule : Rule) (held : Held) (hint : ℤ) (id : ℕ) (lits : List Literal) where
  pub went : (kept : Option StepFault) (now then : Option Adding) → is_some kept ≡ false → IsOpen id lits kept now → GoesOn rule held hint now then → IfSome now (λ a. HasPlace a.hints)
      → (hints : List ℤ) → fault_then rule held kept now (hint ∷ hints) ≡ fault_then rule held kept then hints
  went (Some f) now then none is goes place hints = cc
  went None None then none is goes place hints = absurd is
  went None (Some a) None none is goes place hints = absurd goes
  went None (Some a) (Some b) none is goes place hints = goes.3 place hints

  pub stopped : (kept : Option StepFault) (now : Option Adding) (fault : StepFault) → is_some kept ≡ false → IsOpen id lits kept now → StopsAt rule held hint now fault → IfSome now (λ a. HasPlace a.hints)
      → (hints : List ℤ) → fault_then rule held kept now (hint ∷ hints) ≡ Some fault
  stopped (Some f) now fault none is stops place hints = cc
  stopped None None fault none is stops place hints = absurd is
  stopped None (Some a) fault none is stops place hints = stops place hints

-- the place of a hint after this many
pub has_place : (now : Option Adding) (hints : ℕ) → IfSome now (λ a. hints ≡ a.hints) → hints < MOST_HINTS → IfSome now (λ a. HasPlace a.hints)
has_place None hints is few = tt
has_place (Some a) hints is few = omega (arith, is, few)
