-- What the definition answers for lists over organisations that are written out: of three nodes that each need two of the three, with one organisation of two.
use Rattle.std.specs.Prelude.{◌≡◌, refl, List, [], ◌∷◌, ◌++◌, true, false, ℕ, Some, None, Ok, Err, codes, replicate}
use Rattle.hex.specs.Hex.{encode_with, decode_pairs}
use Rattle.greatest_quorum.specs.Greatest.{greatest_of}
use Rattle.node_json.specs.Groups.{Group, groups_of}
use Rattle.certificate_file.specs.declared.given.Given.{Given}
use Rattle.certificate_file.specs.Acceptance.{checked, take_line}
use Rattle.certificate_file.specs.declared.places.Accepted.{Accepted}
use Rattle.certificate_file.specs.declared.places.Conclusion.TheVariants.{Reached}
use Rattle.reach_kinds.specs.declared.kinds.ReachKind.TheVariants.{Groups}
use Rattle.reach_kinds.specs.declared.places.Reached.{Reached as Shown}
use Rattle.reach_kinds.specs.declared.places.Reached.TheVariants.{OrgBlocking, Partial}
use Rattle.cert_lines.specs.declared.faults.CertError.TheVariants.{BadLine, NoOrgs, OrgsDigest, UnknownNode, NotQuorum, NotBlocking, NotMinimal, NotNew}
use Rattle.certificate_file.proofs.WrittenOut.{three, zeros, zeros_given, first_lines, Answers}

abbrev given : Given
given = record { digest = zeros; orgs = Some (record { orgs = record { id = codes "A"; members = true ∷ true ∷ false ∷ [] } ∷ []; digest = zeros }) }

-- the lines up to the digest of the organisations' file
abbrev header : (faulty kind : List ℕ) → List ℕ
header faulty kind = first_lines (codes "2") [] faulty kind ++ codes "orgs 0000000000000000000000000000000000000000000000000000000000000000\n"

abbrev shows : Shown → Accepted
shows answer = record { header = record { from = None; faulty = false ∷ false ∷ false ∷ [] }; answer = Reached answer }

abbrev two_groups : List Group
two_groups = (record { text = codes "node:c"; members = false ∷ false ∷ true ∷ [] }) ∷ (record { text = codes "org:A"; members = true ∷ true ∷ false ∷ [] }) ∷ []

blocking_sets : Answers (λ body. checked three given (header [] (codes "org-blocking") ++ body)) (
    (codes "q 1 a b\nb 2 org:A\n3 0 1 2 0\nend\n", Ok (shows (OrgBlocking two_groups ((false ∷ true ∷ []) ∷ []))))
    -- no such organisation; and a node that is in an organisation is no group of its own
    ∷ (codes "b 1 org:B\nend\n", Err (UnknownNode 7))
    ∷ (codes "b 1 node:a\nend\n", Err (UnknownNode 7))
    ∷ (codes "q 1 a\nend\n", Err (NotQuorum 7))
    ∷ (codes "b 1 node:c\nend\n", Err (NotBlocking 7))
    ∷ (codes "b 1 node:c org:A\nend\n", Err (NotMinimal 7))
    ∷ (codes "b 1 org:A\nb 2 org:A\nend\n", Err (NotNew 8))
    ∷ [])
unfolding checked take_line encode_with decode_pairs greatest_of groups_of
blocking_sets = refl

other_headers : Answers (λ text. checked three given text) (
    (header [] (codes "partial-org-blocking") ++ codes "q 1 a b\nend\n", Ok (shows (Partial Groups 1)))
    -- a group outside the greatest quorum has no variable
    ∷ (header (codes " c") (codes "org-blocking") ++ codes "b 1 node:c\nend\n", Err (UnknownNode 7))
    -- the other digest may not stand there
    ∷ (first_lines (codes "2") [] [] (codes "org-blocking") ++ codes "config 0000000000000000000000000000000000000000000000000000000000000000\nend\n", Err (BadLine 6))
    -- in version one there is no such kind
    ∷ (first_lines (codes "1") [] [] (codes "org-blocking"), Err (BadLine 5))
    ∷ [])
unfolding checked take_line encode_with decode_pairs greatest_of groups_of
other_headers = refl

-- organisations are asked for
none_given : checked three zeros_given (header [] (codes "org-blocking") ++ codes "q 1 a b\nend\n") ≡ Err NoOrgs
unfolding checked take_line encode_with decode_pairs greatest_of groups_of
none_given = refl

other_orgs : checked three (record { digest = zeros; orgs = Some (record { orgs = []; digest = 1 ∷ replicate 31 0 }) }) (header [] (codes "org-blocking") ++ codes "q 1 a b\nend\n") ≡ Err (OrgsDigest zeros (1 ∷ replicate 31 0))
unfolding checked take_line encode_with decode_pairs greatest_of groups_of
other_orgs = refl
