-- What the definition answers for LRAT proofs that are written out.
use Rattle.std.specs.Prelude.{refl, ℕ, List, [], ◌∷◌, ◌++◌, false, None, Ok, Err, codes}
use Rattle.lrat_model.specs.declared.step.StepFault.TheVariants.{IdOrder, NotUnit, RatMissing}
use Rattle.clause_encoder.specs.Formula.{formula}
use Rattle.clause_encoder.specs.declared.version.Version.TheVariants.{Two, Three}
use Rattle.greatest_quorum.specs.Greatest.{greatest_of}
use Rattle.certificate_file.specs.Formulas.{formula_of}
use Rattle.certificate_file.specs.Verification.{verified}
use Rattle.certificate_file.specs.declared.places.Header.{Header}
use Rattle.cert_lines.specs.declared.faults.CertError.TheVariants.{BadLine, Step, NotRefuted}
use Rattle.certificate_file.proofs.WrittenOut.{two, crossed, Answers}

abbrev whole : Header
whole = record { from = None; faulty = false ∷ false ∷ [] }

abbrev proof : List ℕ
proof = codes "13 -1 0 7 6 3 4 2 0\n14 0 13 1 8 5 0"

proofs : Answers (λ text. verified two Two whole text) (
    -- a comment, and no last line feed
    (codes "c proof\n" ++ proof, Ok tt)
    -- a last line feed
    ∷ (proof ++ codes "\n", Ok tt)
    -- what follows is not looked at
    ∷ (proof ++ codes "\nand more\n", Ok tt)
    -- no line
    ∷ ([], Err (NotRefuted 1))
    -- two lines without a word, and one without a line feed
    ∷ (codes "\n \t\n ", Err (NotRefuted 4))
    -- a comment begins at once
    ∷ (codes " c proof\n" ++ proof, Err (BadLine 1))
    -- a carriage return is a word
    ∷ (codes "\r\n" ++ proof, Err (BadLine 1))
    -- the empty lemma is missing
    ∷ (codes "13 -1 0 7 6 3 4 2 0\n", Err (NotRefuted 2))
    -- lines that are passed over count
    ∷ (codes "c\n\n13 -1 0 6 7 3 4 2 0\n", Err (Step 3 (NotUnit 1)))
    -- a RAT step: clause 7, `-1 5`, has -1 as well as clause 3
    ∷ (codes "13 1 3 0 -3 0\n", Err (Step 1 (RatMissing 7)))
    ∷ [])
unfolding verified formula_of formula greatest_of
proofs = refl

-- two nodes that list one another in two orders have one gate a side in the third version alone
orders : Answers (λ text. verified crossed Three whole text) ((proof, Ok tt) ∷ [])
unfolding verified formula_of formula greatest_of
orders = refl

second_version : Answers (λ text. verified crossed Two whole text) ((proof, Err (Step 1 (IdOrder 16 13))) ∷ [])
unfolding verified formula_of formula greatest_of
second_version = refl
