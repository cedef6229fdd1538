-- For which words of a step line memory may be wanted.
use Rattle.std.specs.Prelude.{◌≡◌, ◌<◌, ◌≤◌, ℕ, true, false, List, [], Option, None, IsSome, IfSome}
use Rattle.lrat_model.specs.Literal.{Literal}
use Rattle.lrat_model.specs.Steps.{Database, literal_fault}
use Rattle.lrat_model.specs.declared.step.StepFault.{StepFault}
use Rattle.lrat_checker.specs.Adding.{Adding}
use Rattle.lrat_text.specs.Words.{Word}
use Rattle.lrat_text.specs.Numbers.{id_in, hint_in, literal_in}
use Rattle.lrat_text.specs.Lines.{is_zero}
use Rattle.lrat_stream.specs.declared.words.TheConstants.{MOST_HINTS}
use Rattle.lrat_stream.specs.declared.words.Stage.{Stage}
use Rattle.lrat_stream.specs.declared.words.Stage.TheVariants.{Start, Numbered, Literals, Hints, Added, Ids, Deleted, Bad}
use Rattle.lrat_stream.specs.declared.words.StepWords.{StepWords}

-- neither the id of an addition nor one of its literals is at fault
abbrev pub IsSound : ℕ → Database → ℕ → List Literal → Type 0
IsSound vars database id lits = (database.last < id) × (literal_fault vars [] lits ≡ None)

-- for a literal, which is kept; and for the 0 after the literals, with which the addition begins, if nothing is at fault
abbrev pub LiteralWants : ℕ → Database → ℕ → List Literal → Word → Type 0
LiteralWants vars database id lits word = (is_zero word ≡ true → IsSound vars database id lits) × (is_zero word ≡ false → IsSome (literal_in word))

-- for a hint after this many of an addition without a fault
abbrev pub HintWants : Option StepFault → Option Adding → Word → Type 0
HintWants fault now word = (is_zero word ≡ false) × IsSome (hint_in word) × (fault ≡ None) × IfSome now (λ a. MOST_HINTS ≤ a.hints)

-- for an id of a deletion, which is kept
abbrev pub IdWants : Word → Type 0
IdWants word = (is_zero word ≡ false) × IsSome (id_in word)

abbrev pub WantsAt : Stage → ℕ → Database → List Literal → Option StepFault → Option Adding → Word → Type 0
WantsAt Start vars database lits fault now word = ⊥
WantsAt (Numbered id) vars database lits fault now word = LiteralWants vars database id lits word
WantsAt (Literals id) vars database lits fault now word = LiteralWants vars database id lits word
WantsAt (Hints id) vars database lits fault now word = HintWants fault now word
WantsAt (Added id) vars database lits fault now word = ⊥
WantsAt (Ids id) vars database lits fault now word = IdWants word
WantsAt (Deleted id) vars database lits fault now word = ⊥
WantsAt Bad vars database lits fault now word = ⊥

-- for the next word of a line
abbrev pub WantsMemory : ℕ → Database → StepWords → Option Adding → Word → Type 0
WantsMemory vars database s now word = WantsAt s.stage vars database s.lits.items s.fault now word
