-- What the definition answers for lists that are written out: of three nodes that each need two of the three.
use Rattle.std.specs.Prelude.{◌≡◌, refl, List, [], ◌∷◌, ◌++◌, true, false, Some, None, Ok, Err, codes}
use Rattle.hex.specs.Hex.{encode_with, decode_pairs}
use Rattle.fbas_model.specs.Nodes.{Table}
use Rattle.lrat_model.specs.declared.step.StepFault.TheVariants.{IdOrder}
use Rattle.greatest_quorum.specs.Greatest.{greatest_of}
use Rattle.certificate_file.specs.Acceptance.{checked, take_line}
use Rattle.certificate_file.specs.declared.places.Accepted.{Accepted}
use Rattle.certificate_file.specs.declared.places.Conclusion.TheVariants.{Reached}
use Rattle.enumeration_journal.specs.declared.kinds.Listed.TheVariants as listed
use Rattle.reach_kinds.specs.declared.kinds.ReachKind.TheVariants.{Nodes}
use Rattle.reach_kinds.specs.declared.places.Reached.{Reached as Shown}
use Rattle.reach_kinds.specs.declared.places.Reached.TheVariants.{Minimal, Least, Partial}
use Rattle.cert_lines.specs.declared.faults.CertError.TheVariants.{BadLine, UnknownNode, NotQuorum, NotBlocking, NotMinimal, NotSmaller, Formula, Step, NotNew, NotRefuted}
use Rattle.certificate_file.proofs.WrittenOut.{three, nobody, zeros_given, first_lines, Answers}

abbrev shows : Shown → Accepted
shows answer = record { header = record { from = None; faulty = false ∷ false ∷ false ∷ [] }; answer = Reached answer }

abbrev all_three : List Table
all_three = (true ∷ true ∷ false ∷ []) ∷ (true ∷ false ∷ true ∷ []) ∷ (false ∷ true ∷ true ∷ []) ∷ []

blocking_sets : Answers (λ body. checked three zeros_given (first_lines (codes "1") [] [] (codes "blocking") ++ body)) (
    (codes "q 1 a b\nq 2 a c\nq 3 b c\nb 4 a b\nb 5 a c\nb 6 b c\n7 -1 0 4 5 3 0\n8 0 7 1 2 6 0\nend\n", Ok (shows (Minimal listed.Blocking all_three)))
    -- a set that is listed again after the deletion of its clause counts once
    ∷ (codes "b 1 b c\nb 2 a b\n2 d 2 0\nb 3 a b\nq 4 a b\nq 5 a c\nq 6 b c\nb 7 a c\n8 -1 0 3 7 6 0\n9 0 8 4 5 1 0\nend\n", Ok (shows (Minimal listed.Blocking all_three)))
    -- a blocking set has to be new; a whole list asks it of no quorum
    ∷ (codes "q 1 a b\nb 2 a b\nb 3 a b\nend\n", Err (NotNew 8))
    ∷ (codes "q 1 a b\nq 2 a b c\nend\n", Err (NotRefuted 8))
    ∷ (codes "b 1 a\nend\n", Err (NotBlocking 6))
    ∷ (codes "b 1 a b c\nend\n", Err (NotMinimal 6))
    ∷ (codes "q 1 a\nend\n", Err (NotQuorum 6))
    -- the id is asked for before the names, and both after the grammar
    ∷ (codes "q 1 a b\nq 1 z\nend\n", Err (Step 7 (IdOrder 1 1)))
    ∷ (codes "b 1 a z\nend\n", Err (UnknownNode 6))
    ∷ (codes "q 1 a b\nq 1 z a\nend\n", Err (BadLine 7))
    ∷ [])
unfolding checked take_line encode_with decode_pairs greatest_of
blocking_sets = refl

partial_blocking_sets : Answers (λ body. checked three zeros_given (first_lines (codes "1") [] [] (codes "partial-blocking") ++ body)) (
    (codes "q 1 a b\nend\n", Ok (shows (Partial (Nodes listed.Blocking) 1)))
    -- a quorum has to be new too
    ∷ (codes "q 1 a b\nq 2 a b c\nend\n", Err (NotNew 7))
    -- in a part the empty lemma is no line, whatever its hints
    ∷ (codes "q 1 a b\n2 0 1 0\nend\n", Err (BadLine 7))
    ∷ [])
unfolding checked take_line encode_with decode_pairs greatest_of
partial_blocking_sets = refl

-- a faulty node blocks nothing
faulty_named : checked three zeros_given (first_lines (codes "1") [] (codes " a") (codes "blocking") ++ codes "b 1 a b\nend\n") ≡ Err (NotBlocking 6)
unfolding checked take_line encode_with decode_pairs greatest_of
faulty_named = refl

-- minimal quorums: the letters change places
quorums : Answers (λ body. checked three zeros_given (first_lines (codes "2") [] [] (codes "quorums") ++ body)) (
    (codes "b 1 a b\nb 2 a c\nb 3 b c\nq 4 a b\nq 5 a c\nq 6 b c\n7 -1 0 4 5 3 0\n8 0 7 1 2 6 0\nend\n", Ok (shows (Minimal listed.Quorum all_three)))
    ∷ (codes "q 1 a b c\nend\n", Err (NotMinimal 6))
    -- of a blocking set it is not asked that it is minimal, nor in a whole list that it is new
    ∷ (codes "b 1 a b c\nb 2 a b c\nend\n", Err (NotRefuted 8))
    ∷ (codes "q 1 a b\nq 2 a b\nend\n", Err (NotNew 7))
    ∷ [])
unfolding checked take_line encode_with decode_pairs greatest_of
quorums = refl

-- in version one there is no such kind
quorums_in_version_one : checked three zeros_given (first_lines (codes "1") [] [] (codes "quorums") ++ codes "end\n") ≡ Err (BadLine 5)
unfolding checked take_line encode_with decode_pairs
quorums_in_version_one = refl

-- a smallest quorum: after the counter each quorum is smaller than the one before it
least : Answers (λ body. checked three zeros_given (first_lines (codes "2") [] [] (codes "least") ++ body)) (
    (codes "counter 9 9\ns 10 a b\nb 11 a b\nb 12 a c\nb 13 b c\n14 -2 0 3 10 8 7 4 1 12 0\n15 0 14 11 13 1 2 10 8 0\nend\n", Ok (shows (Least (Some (true ∷ true ∷ false ∷ [])))))
    ∷ (codes "counter 9 9\ns 10 a b\ns 11 a c\nend\n", Err (NotSmaller 8))
    -- a set that is no quorum is told as such, however large it is
    ∷ (codes "counter 9 9\ns 10 a b\ns 11 a\nend\n", Err (NotQuorum 8))
    -- a counter of another size, and none
    ∷ (codes "counter 9 8\nend\n", Err (Formula 6))
    ∷ (codes "s 10 a b\nend\n", Err (BadLine 6))
    -- its quorums have a letter of their own
    ∷ (codes "counter 9 9\nq 10 a b\nend\n", Err (BadLine 7))
    -- a blocking set may come twice
    ∷ (codes "counter 9 9\nb 10 a b\nb 11 a b\nend\n", Err (NotRefuted 9))
    ∷ [])
unfolding checked take_line encode_with decode_pairs greatest_of
least = refl

partial_least : Answers (λ body. checked three zeros_given (first_lines (codes "2") [] [] (codes "partial-least") ++ body)) (
    -- a listed quorum takes no unit
    (codes "counter 9 9\ns 10 a b c\ns 11 a b\nb 12 a b\nend\n", Ok (shows (Partial (Nodes listed.Smaller) 1)))
    -- in a part a blocking set may not come twice
    ∷ (codes "counter 9 9\nb 10 a b\nb 11 a b\nend\n", Err (NotNew 8))
    ∷ [])
unfolding checked take_line encode_with decode_pairs greatest_of
partial_least = refl

-- without a quorum the counter is empty, and nobody blocks
no_quorum : checked nobody zeros_given (first_lines (codes "2") [] [] (codes "least") ++ codes "counter 0 0\nb 1\n2 0 1 0\nend\n") ≡ Ok (record { header = record { from = None; faulty = [] }; answer = Reached (Least None) })
unfolding checked take_line encode_with decode_pairs greatest_of
no_quorum = refl
