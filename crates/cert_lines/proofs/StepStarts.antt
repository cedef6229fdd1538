-- The first bytes of a step's line.
use Rattle.std.proofs.Common.{◌≡◌, ℕ, ◌<◌, List, [], ◌∷◌, ◌++◌, length, true, false, refl, sym, ap, ◌∙◌, Option, arith}
use Rattle.std.proofs.lemmas.List.{append-nil}
use Rattle.lrat_model.specs.Steps.{Database}
use Rattle.lrat_model.specs.declared.step.Rule.{Rule}
use Rattle.lrat_checker.specs.Adding.{Adding}
use Rattle.lrat_text.specs.Words.{words_of}
use Rattle.lrat_text.specs.Lines.{step_in}
use Rattle.lrat_stream.specs.Outline.{outline_in}
use Rattle.lrat_stream.specs.Ahead.{ahead, ahead_at}
use Rattle.lrat_stream.specs.declared.words.Stage.{Stage}
use Rattle.lrat_stream.specs.declared.words.Stage.TheVariants.{Start}
use Rattle.lrat_stream.specs.declared.reader.StepReader.{StepReader}
use Rattle.cert_lines.specs.Steps.{is_other}
use Rattle.cert_lines.specs.Taking.{goes_on}
use Rattle.cert_lines.specs.declared.pieces.LineEnd.{LineEnd}
use Rattle.cert_lines.specs.declared.pieces.LineEnd.TheVariants.{More, Feed, Input}

-- before the first word the line says what its words do
pub at_start : (rule : Rule) (vars : ℕ) (database : Database) (r : StepReader) (now : Option Adding) (bytes : List ℕ) → r.words.stage ≡ Start → r.begun.items ≡ []
    → outline_in rule vars database (step_in bytes) ≡ ahead rule vars database r.words now (words_of (r.begun.items ++ bytes))
at_start rule vars database r now bytes stage none =
    ap (λ (st : Stage). ahead_at st rule vars database r.words.lits.items r.words.ids.items r.words.fault now (words_of bytes)) (sym stage)
    ∙ ap (λ (xs : List ℕ). ahead rule vars database r.words now (words_of (xs ++ bytes))) (sym none)

-- how a line begins is seen at its first part
other_front : (part more : List ℕ) → 0 < length part → is_other (part ++ more) ≡ is_other part
other_front [] more some = absurd (omega (arith, some))
other_front (b ∷ bytes) more some = refl

pub step_front : (first : LineEnd) (part suffix : List ℕ) → (goes_on first ≡ true → 0 < length part) → (goes_on first ≡ false → suffix ≡ []) → is_other (part ++ suffix) ≡ is_other part
step_front More part suffix grows none = other_front part suffix (grows refl)
step_front Feed part suffix grows none = ap (λ (xs : List ℕ). is_other (part ++ xs)) (none refl) ∙ ap is_other (append-nil part)
step_front Input part suffix grows none = ap (λ (xs : List ℕ). is_other (part ++ xs)) (none refl) ∙ ap is_other (append-nil part)
