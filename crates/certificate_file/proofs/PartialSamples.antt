-- What the definition answers for partial certificates that are written out.
use Rattle.std.specs.Prelude.{refl, ℕ, [], ◌∷◌, ◌++◌, false, None, Ok, Err, codes}
use Rattle.hex.specs.Hex.{encode_with, decode_pairs}
use Rattle.lrat_model.specs.declared.step.StepFault.TheVariants.{NotUnit}
use Rattle.clause_encoder.specs.Formula.{formula}
use Rattle.greatest_quorum.specs.Greatest.{greatest_of}
use Rattle.certificate_file.specs.Formulas.{formula_of}
use Rattle.certificate_file.specs.Acceptance.{checked, take_line}
use Rattle.certificate_file.specs.declared.places.Accepted.{Accepted}
use Rattle.certificate_file.specs.declared.places.Conclusion.TheVariants.{Partial}
use Rattle.cert_lines.specs.declared.faults.CertError.TheVariants.{BadLine, Formula, Step, NotNew, Truncated}
use Rattle.certificate_file.proofs.WrittenOut.{two, zeros_given, first_lines, Answers}

abbrev units : ℕ → Accepted
units n = record { header = record { from = None; faulty = false ∷ false ∷ [] }; answer = Partial n }

partial : Answers (λ body. checked two zeros_given (first_lines (codes "1") [] [] (codes "partial") ++ body)) (
    (codes "formula 8 16\nend\n", Ok (units 0))
    ∷ (codes "formula 8 16\n17 -1 0 7 6 3 4 2 0\nend\n", Ok (units 1))
    ∷ (codes "formula 8 16\n17 -1 0 7 6 3 4 2 0\n18 -1 0 17 0\nend\n", Err (NotNew 8))
    -- a clause of the formula is a subset of it
    ∷ (codes "formula 8 16\n17 1 2 0 1 0\nend\n", Err (NotNew 7))
    -- the empty lemma
    ∷ (codes "formula 8 16\n17 -1 0 7 6 3 4 2 0\n18 0 17 1 10 8 0\nend\n", Err (BadLine 8))
    -- a deletion is no unit, and what was deleted may be added again
    ∷ (codes "formula 8 16\n17 -1 0 7 6 3 4 2 0\n17 d 17 0\n18 -1 0 7 6 3 4 2 0\nend\n", Ok (units 2))
    -- the step's own fault comes before the question whether it is new
    ∷ (codes "formula 8 16\n17 -1 0 6 7 3 4 2 0\nend\n", Err (Step 7 (NotUnit 1)))
    ∷ (codes "formula 8 17\nend\n", Err (Formula 6))
    ∷ (codes "formula 8 16\n17 -1 0 7 6 3 4 2 0\n", Err (Truncated 8))
    ∷ [])
unfolding checked take_line encode_with decode_pairs formula_of formula greatest_of
partial = refl
