-- What is found in a quorum set: thresholds that leave no choice, and nodes that stand twice in one list.
use Rattle.std.specs.Prelude.{◌≡◌, ℕ, ◌+◌, ◌<◌, ◌^◌, ◌==◌, nat_lt, ◌||◌, List, [], ◌∷◌, ◌++◌, map, take, count_by, if◌then◌else◌}
use Rattle.fbas_model.specs.Trees.{QuorumSet, quorum_set, Entries, none, node, inner}
use Rattle.fbas_model.specs.QuorumSets.{count}
use Rattle.quorum_set.specs.declared.findings.Finding.{Finding}
use Rattle.quorum_set.specs.declared.findings.Finding.TheVariants.{BadThreshold, Repeated}

-- a finding, at the path of a set: the places of the inner sets from the outside in, counted from 0
pub data Found : Type 0 where
  bad_threshold : List ℕ → ℕ → ℕ → Found
  repeated : List ℕ → ℕ → Found

-- what a finding of the program says
abbrev pub found : Finding → Found
found (BadThreshold path threshold entries) = bad_threshold path.items threshold entries
found (Repeated path v) = repeated path.items v

abbrev pub found_all : List Finding → List Found
found_all findings = map found findings

-- a threshold of 0 or above the number of entries
abbrev pub threshold_found : List ℕ → ℕ → ℕ → List Found
threshold_found path threshold entries = if threshold == 0 || nat_lt entries threshold then bad_threshold path threshold entries ∷ [] else []

-- the nodes that stand among the entries themselves, in order
abbrev pub validators_of : Entries → List ℕ
validators_of none = []
validators_of (node w rest) = w ∷ validators_of rest
validators_of (inner q rest) = validators_of rest

-- how often the node stands in the list
abbrev pub times : ℕ → List ℕ → ℕ
times v ws = count_by (λ w. w == v) ws

-- those nodes of a list, after earlier ones, that stand there for the second time
abbrev pub second_times : List ℕ → List ℕ → List ℕ
second_times earlier [] = []
second_times earlier (w ∷ ws) = if times w earlier == 1 then w ∷ second_times (earlier ++ w ∷ []) ws else second_times (earlier ++ w ∷ []) ws

abbrev mutual
  -- of the set at this path first the threshold, then the repeated validators, then what is found in its inner sets
  pub findings_at : List ℕ → QuorumSet → List Found
  findings_at path (quorum_set k entries) =
      threshold_found path k (count entries) ++ (map (repeated path) (second_times [] (validators_of entries)) ++ findings_inside path 0 entries)

  -- in the inner sets among the entries, of which the first has place i
  pub findings_inside : List ℕ → ℕ → Entries → List Found
  findings_inside path i none = []
  findings_inside path i (node w rest) = findings_inside path i rest
  findings_inside path i (inner q rest) = findings_at (path ++ i ∷ []) q ++ findings_inside path (i + 1) rest

-- what is found in a quorum set
unfoldable pub findings_of : QuorumSet → List Found
findings_of q = findings_at [] q

-- how many inner sets stand among the entries themselves
abbrev pub inner_sets : Entries → ℕ
inner_sets none = 0
inner_sets (node w rest) = inner_sets rest
inner_sets (inner q rest) = 1 + inner_sets rest

abbrev mutual
  -- the place of each inner set fits 32 bits: no set in it has 2^32 or more of them
  pub HasPlaces : QuorumSet → Type 0
  HasPlaces (quorum_set k entries) = (inner_sets entries < 2 ^ 32) × HavePlaces entries

  pub HavePlaces : Entries → Type 0
  HavePlaces none = Unit {0}
  HavePlaces (node w rest) = HavePlaces rest
  HavePlaces (inner q rest) = HasPlaces q × HavePlaces rest

-- the list is what it was, followed by the first this many of the findings
pub record HoldsFirst (old findings new : List Found) : Type 0 where
  pub many : ℕ
  pub first : new ≡ old ++ take many findings
