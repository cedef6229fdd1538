-- What a step line says, whatever words come next.
use Rattle.std.specs.Prelude.{◌≡◌, ℕ, List, [], ◌∷◌, ◌++◌, ℤ, Option, None, Some, Result, Ok, Err}
use Rattle.std.specs.Global.{Vec}
use Rattle.lrat_model.specs.Literal.{Literal}
use Rattle.lrat_model.specs.Clauses.{Held}
use Rattle.lrat_model.specs.Steps.{Database, ProofStep, Addition, Deletion}
use Rattle.lrat_model.specs.declared.step.Rule.{Rule}
use Rattle.lrat_model.specs.declared.step.StepFault.{StepFault}
use Rattle.lrat_checker.specs.Adding.{Adding, fault_after}
use Rattle.lrat_text.specs.Words.{Word}
use Rattle.lrat_text.specs.Numbers.{id_in, hint_in, literal_in}
use Rattle.lrat_text.specs.Lines.{and_then, closed_list, ended, after_id, step_of_words}
use Rattle.lrat_text.specs.declared.faults.LineFault.{LineFault}
use Rattle.lrat_stream.specs.Outline.{StepOutline, Adds, Deletes, outline_in}
use Rattle.lrat_stream.specs.declared.words.Stage.{Stage}
use Rattle.lrat_stream.specs.declared.words.Stage.TheVariants.{Start, Numbered, Literals, Hints, Added, Ids, Deleted, Bad}
use Rattle.lrat_stream.specs.declared.words.StepWords.{StepWords}

-- the fault that is kept, or else that of the open addition where these hints come next
abbrev pub fault_then : Rule → Held → Option StepFault → Option Adding → List ℤ → Option StepFault
fault_then rule held (Some fault) now hints = Some fault
fault_then rule held None None hints = None
fault_then rule held None (Some a) hints = fault_after rule held a hints

-- the outline, if no word is left
abbrev pub at_end : StepOutline → List Word → Option StepOutline
at_end o [] = Some o
at_end o (word ∷ words) = None

-- the outline of an addition, where these hints are left and then these words
abbrev pub added : ℕ → List Literal → (List ℤ → Option StepFault) → Result (List ℤ × List Word) LineFault → Option StepOutline
added id lits fault (Ok r) = at_end (Adds id lits (fault r.0)) r.1
added id lits fault (Err e) = None

-- an addition after these literals
abbrev pub addition_from : ℕ → List Literal → List Word → Result ProofStep LineFault
addition_from id lits words = and_then (closed_list literal_in words) (λ l. and_then (closed_list hint_in l.1) (λ h. ended (Addition id (lits ++ l.0) h.0) h.1))

-- a deletion after these ids
abbrev pub deletion_from : ℕ → List ℕ → List Word → Result ProofStep LineFault
deletion_from id ids words = and_then (closed_list id_in words) (λ l. ended (Deletion id (ids ++ l.0)) l.1)

-- what the line says if these words are left of it
abbrev pub ahead_at : Stage → Rule → ℕ → Database → List Literal → List ℕ → Option StepFault → Option Adding → List Word → Option StepOutline
ahead_at Start rule vars database lits ids fault now words = outline_in rule vars database (step_of_words words)
ahead_at (Numbered id) rule vars database lits ids fault now words = outline_in rule vars database (after_id id words)
ahead_at (Literals id) rule vars database lits ids fault now words = outline_in rule vars database (addition_from id lits words)
ahead_at (Hints id) rule vars database lits ids fault now words = added id lits (fault_then rule database.held fault now) (closed_list hint_in words)
ahead_at (Added id) rule vars database lits ids fault now words = at_end (Adds id lits (fault_then rule database.held fault now [])) words
ahead_at (Ids id) rule vars database lits ids fault now words = outline_in rule vars database (deletion_from id ids words)
ahead_at (Deleted id) rule vars database lits ids fault now words = at_end (Deletes id ids) words
ahead_at Bad rule vars database lits ids fault now words = None

abbrev pub ahead : Rule → ℕ → Database → StepWords → Option Adding → List Word → Option StepOutline
ahead rule vars database s now words = ahead_at s.stage rule vars database s.lits.items s.ids.items s.fault now words

-- the addition of this id and these literals is open, unless it has a fault
abbrev pub IsOpen : ℕ → List Literal → Option StepFault → Option Adding → Type 0
IsOpen id lits (Some fault) now = now ≡ None
IsOpen id lits None None = ⊥
IsOpen id lits None (Some a) = (a.id ≡ id) × (a.lits ≡ lits)

-- nothing is open, and there is no fault
pub record IsClear (fault : Option StepFault) (now : Option Adding) : Type 0 where
  pub sound : fault ≡ None
  pub closed : now ≡ None

-- the reader and the checker are at one place
abbrev pub FitsAt : Stage → List Literal → List ℕ → Option StepFault → Option Adding → Type 0
FitsAt Start lits ids fault now = IsClear fault now × (lits ≡ []) × (ids ≡ [])
FitsAt (Numbered id) lits ids fault now = IsClear fault now × (lits ≡ []) × (ids ≡ [])
FitsAt (Literals id) lits ids fault now = IsClear fault now
FitsAt (Hints id) lits ids fault now = IsOpen id lits fault now
FitsAt (Added id) lits ids fault now = IsOpen id lits fault now
FitsAt (Ids id) lits ids fault now = now ≡ None
FitsAt (Deleted id) lits ids fault now = now ≡ None
FitsAt Bad lits ids fault now = Unit {0}

abbrev pub Fits : StepWords → Option Adding → Type 0
Fits s now = FitsAt s.stage s.lits.items s.ids.items s.fault now
