-- What the samples are written out of: small systems, the first lines of a certificate, and tables of texts with what each is answered.
use Rattle.std.specs.Prelude.{◌≡◌, ℕ, List, [], ◌∷◌, ◌++◌, map, Option, Some, None, Result, codes, replicate}
use Rattle.fbas_model.specs.Trees.{QuorumSet, quorum_set, none, node}
use Rattle.fbas_model.specs.Systems.{System}
use Rattle.certificate_file.specs.declared.given.Given.{Given}

-- two of a, b and c
abbrev pub two_of_three : Option QuorumSet
two_of_three = Some (quorum_set 2 (node 0 (node 1 (node 2 none))))

abbrev pub three : System
three = record { names = codes "a" ∷ codes "b" ∷ codes "c" ∷ []; sets = two_of_three ∷ two_of_three ∷ two_of_three ∷ [] }

-- both of p and q
abbrev pub both : Option QuorumSet
both = Some (quorum_set 2 (node 0 (node 1 none)))

abbrev pub two : System
two = record { names = codes "p" ∷ codes "q" ∷ []; sets = both ∷ both ∷ [] }

-- the same two, of which each names itself first
abbrev pub crossed : System
crossed = record { names = codes "p" ∷ codes "q" ∷ []; sets = both ∷ Some (quorum_set 2 (node 1 (node 0 none))) ∷ [] }

-- no nodes
abbrev pub nobody : System
nobody = record { names = []; sets = [] }

abbrev pub zeros : List ℕ
zeros = replicate 32 0

-- the digest of the configuration is all zeros, and no organisations are given
abbrev pub zeros_given : Given
zeros_given = record { digest = zeros; orgs = None }

-- the first lines, up to the kind: the lists of names have a space before each
abbrev pub first_lines : (version from faulty kind : List ℕ) → List ℕ
first_lines version from faulty kind =
    codes "fbas-cert " ++ version ++ codes "\nconfig 0000000000000000000000000000000000000000000000000000000000000000\nfrom" ++ from ++ codes "\nfaulty" ++ faulty ++ codes "\nkind " ++ kind ++ codes "\n"

-- each text of the table is answered as it stands there
abbrev pub Answers : {A E : Type 0} → (List ℕ → Result A E) → List (List ℕ × Result A E) → Type 0
Answers {A} {E} answer table = map (λ (row : List ℕ × Result A E). answer row.0) table ≡ map (λ (row : List ℕ × Result A E). row.1) table
