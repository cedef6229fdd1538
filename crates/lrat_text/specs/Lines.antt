-- The step that a line says: `ID literals 0 hints 0` holds a lemma, `ID d ids 0` deletes clauses (Cruz-Filipe et al. 2017).
-- The words are taken in order, so the first that is wrong decides.
use Rattle.std.specs.Prelude.{ℕ, List, [], ◌∷◌, drop, Bool, false, Option, Some, None, Result, Ok, Err, codes, if◌then◌else◌}
use Rattle.std.specs.Str.{bytes_eq}
use Rattle.lrat_model.specs.Steps.{ProofStep, Addition, Deletion}
use Rattle.lrat_text.specs.Words.{Word, words_of}
use Rattle.lrat_text.specs.Numbers.{id_in, hint_in, literal_in}
use Rattle.lrat_text.specs.declared.faults.LineFault.{LineFault}
use Rattle.lrat_text.specs.declared.faults.LineFault.TheVariants.{BadNumber, NoZero, Extra}

-- the first fault, or what follows from the value
abbrev pub and_then : {A B : Type 0} → Result A LineFault → (A → Result B LineFault) → Result B LineFault
and_then (Ok a) next = next a
and_then (Err fault) next = Err fault

-- the word that closes a list
abbrev pub is_zero : Word → Bool
is_zero word = bytes_eq word (codes "0")

-- the number that a word says, before those of a list
abbrev pub onto_list : {A : Type 0} → Option A → Result (List A × List Word) LineFault → Result (List A × List Word) LineFault
onto_list None list = Err BadNumber
onto_list (Some n) list = and_then list (λ l. Ok (n ∷ l.0, l.1))

-- the numbers up to the first 0, and the words after it
abbrev pub closed_list : {A : Type 0} → (Word → Option A) → List Word → Result (List A × List Word) LineFault
closed_list number_in [] = Err NoZero
closed_list number_in (word ∷ words) = if is_zero word then Ok ([], words) else onto_list (number_in word) (closed_list number_in words)

-- the step, if no word is left
abbrev pub ended : ProofStep → List Word → Result ProofStep LineFault
ended step [] = Ok step
ended step (word ∷ words) = Err Extra

-- `literals 0 hints 0`
abbrev pub addition : ℕ → List Word → Result ProofStep LineFault
addition id words = and_then (closed_list literal_in words) (λ lits. and_then (closed_list hint_in lits.1) (λ hints. ended (Addition id lits.0 hints.0) hints.1))

-- `ids 0`
abbrev pub deletion : ℕ → List Word → Result ProofStep LineFault
deletion id words = and_then (closed_list id_in words) (λ ids. ended (Deletion id ids.0) ids.1)

-- the word that begins a deletion
abbrev pub is_mark : Word → Bool
is_mark word = bytes_eq word (codes "d")

-- whether such a word comes first
abbrev pub is_marked : List Word → Bool
is_marked [] = false
is_marked (word ∷ words) = is_mark word

-- what follows the id
abbrev pub after_id : ℕ → List Word → Result ProofStep LineFault
after_id id words = if is_marked words then deletion id (drop 1 words) else addition id words

-- the id, and what follows it
abbrev pub with_id : Option ℕ → List Word → Result ProofStep LineFault
with_id None words = Err BadNumber
with_id (Some id) words = after_id id words

abbrev pub step_of_words : List Word → Result ProofStep LineFault
step_of_words [] = Err NoZero
step_of_words (word ∷ words) = with_id (id_in word) words

-- the step of a line without its line feed, or the first fault
abbrev pub step_in : List ℕ → Result ProofStep LineFault
step_in line = step_of_words (words_of line)
