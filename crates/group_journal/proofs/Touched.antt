-- Which groups have a member among some nodes, and the members of marked groups.
use Rattle.std.proofs.Common.{◌≡◌, ℕ, zero, suc, ◌+◌, ◌<◌, ◌≤◌, ◌==◌, ◌&&◌, ◌||◌, Bool, true, false, nat_lt, List, [], ◌∷◌, length, map, slice_index_or, refl, sym, ap, ap₂, ◌∙◌, arith, inl, inr}
use Rattle.std.specs.Prelude.{All}
use Rattle.std.proofs.Math.Bool.{or-true, and-false}
use Rattle.std.proofs.lemmas.Bool.{cases_Bool, cases_lt, or_cases, or_left, or_right, both_ways, eqb-true, eq-eqb, lt-ltb, ltb-true, false≢true, false_from_ne_true}
use Rattle.std.proofs.lemmas.List.{length-map, get_or-map}
use Rattle.std.proofs.lemmas.List.Elements.{All-head, All-tail}
use Rattle.fbas_model.specs.Nodes.{Nodes, Table, members, ◌∈◌, ◌⊆◌, ∅, only, ◌∪◌, Meets}
use Rattle.fbas_model.proofs.Sizes.{member_lt}
use Rattle.fbas_model.proofs.Tables.{table_ext}
use Rattle.enumeration_journal.specs.Tests.{is_meeting}
use Rattle.enumeration_journal.proofs.TestLaws.{meeting_to, meeting_from}
use Rattle.node_json.specs.Groups as spec
use Rattle.node_json.specs.Groups.{tables_of}
use Rattle.group_journal.specs.Groups.{joined, touching}
use Rattle.group_journal.proofs.Walks.{passed, added}

pub length-touching : (groups : List Table) (q : Table) → length (touching groups q) ≡ length groups
length-touching groups q = length-map groups (λ (group : Table). is_meeting group q)

-- whether one of them has
pub touching_at : (groups : List Table) (q : Table) (i : ℕ) → i < length groups → members (touching groups q) i ≡ is_meeting (slice_index_or groups i []) q
touching_at [] q i low = absurd (omega arith)
touching_at (group ∷ groups) q zero low = refl
touching_at (group ∷ groups) q (suc i) low = touching_at groups q i (omega arith)

-- a wider set touches more
pub touches_more : (groups : List Table) (q g : Table) → members q ⊆ members g → members (touching groups q) ⊆ members (touching groups g)
touches_more [] q g inside i here = absurd (false≢true here)
touches_more (group ∷ groups) q g inside zero here = let m = meeting_to group q here in meeting_from group g m.0 m.1 (inside m.0 m.2)
touches_more (group ∷ groups) q g inside (suc i) here = touches_more groups q g inside i here

-- a node of marked groups stands in one of them, which then touches each set with the node
pub touched_by : (groups : List Table) (marks q : Table) (v : ℕ) → v ∈ joined groups marks → v ∈ members q → (i : ℕ) × (members marks i ≡ true) × (members (touching groups q) i ≡ true)
touched_by [] marks q v here there = absurd (false≢true here)
touched_by (group ∷ groups) [] q v here there = absurd (false≢true here)
touched_by (group ∷ groups) (true ∷ marks) q v here there = elim (or_cases (members group v) (joined groups marks v) here) [
  | inl first ↦ (0, refl, meeting_from group q v first there)
  | inr rest ↦ let r = touched_by groups marks q v rest there in (suc r.0, r.1, r.2)
]
touched_by (group ∷ groups) (false ∷ marks) q v here there = let r = touched_by groups marks q v here there in (suc r.0, r.1, r.2)

-- a marked group that touches the nodes has one of them
pub met_by : (groups : List Table) (marks q : Table) (i : ℕ) → members marks i ≡ true → members (touching groups q) i ≡ true → (v : ℕ) × v ∈ members q × v ∈ joined groups marks
met_by [] marks q i marked touched = absurd (false≢true touched)
met_by (group ∷ groups) [] q i marked touched = absurd (false≢true marked)
met_by (group ∷ groups) (true ∷ marks) q zero marked touched = let m = meeting_to group q touched in (m.0, m.2, or_left (members group m.0) (joined groups marks m.0) m.1)
met_by (group ∷ groups) (false ∷ marks) q zero marked touched = absurd (false≢true marked)
met_by (group ∷ groups) (true ∷ marks) q (suc i) marked touched = let r = met_by groups marks q i marked touched in (r.0, r.1, or_right (members group r.0) (joined groups marks r.0) r.2)
met_by (group ∷ groups) (false ∷ marks) q (suc i) marked touched = met_by groups marks q i marked touched

-- members are nodes
pub joined_below : (n : ℕ) (groups : List Table) (s : Table) → All (λ (group : Table). length group ≡ n) groups → (v : ℕ) → joined groups s v ≡ true → v < n
joined_below n [] s sized v here = absurd (false≢true here)
joined_below n (g ∷ groups) [] sized v here = absurd (false≢true here)
joined_below n (g ∷ groups) (true ∷ s) sized v here = elim (or_cases (members g v) (joined groups s v) here) [
  | inl first ↦ let low = member_lt g v first in let e = All-head (λ (group : Table). length group ≡ n) g groups sized in omega (arith, low, e)
  | inr rest ↦ joined_below n groups s (All-tail (λ (group : Table). length group ≡ n) g groups sized) v rest
]
joined_below n (g ∷ groups) (false ∷ s) sized v here = joined_below n groups s (All-tail (λ (group : Table). length group ≡ n) g groups sized) v here

-- ---- the groups that are touched, one after another

-- those of the first groups are found
abbrev pub AreFound : List Table → Table → Table → ℕ → Type 0
AreFound groups nodes touched at = (length touched ≡ length groups) × ((i : ℕ) → members touched i ≡ (nat_lt i at && members (touching groups nodes) i))

pub found_first : (groups : List Table) (nodes touched : Table) → length touched ≡ length groups → members touched ≡ ∅ → AreFound groups nodes touched 0
found_first groups nodes touched size none = (size, λ i. ap (λ (s : Nodes). s i) none ∙ sym (ap (λ (b : Bool). b && members (touching groups nodes) i) (false_from_ne_true (nat_lt i 0) (λ e. absurd (let l = ltb-true i 0 e in omega arith)))))

module _ (groups : List Table) (nodes touched : Table) (at : ℕ) (low : at < length groups) (before : AreFound groups nodes touched at) where
  -- a number is below the next place if it is below this one or is this one
  below_next : (i : ℕ) → nat_lt i (at + 1) ≡ (nat_lt i at || (i == at))
  below_next i = elim (cases_Bool (i == at)) [
    | inl e ↦ let same = eqb-true i at e in lt-ltb i (at + 1) (omega (arith, same)) ∙ sym (ap (λ (b : Bool). nat_lt i at || b) e ∙ or-true (nat_lt i at))
    | inr e ↦ elim (cases_lt i at) [
      | inl less ↦ lt-ltb i (at + 1) (omega (arith, less)) ∙ sym (ap (λ (b : Bool). b || (i == at)) (lt-ltb i at less))
      | inr more ↦
          let past : nat_lt i (at + 1) ≡ false = false_from_ne_true (nat_lt i (at + 1)) (λ h. absurd (let l = ltb-true i (at + 1) h in let same : i ≡ at = omega (arith, l, more) in both_ways (i == at) e (eq-eqb i at same))) in
          let none : nat_lt i at ≡ false = false_from_ne_true (nat_lt i at) (λ h. absurd (let l = ltb-true i at h in omega (arith, l, more))) in
          past ∙ sym (ap₂ (λ (x y : Bool). x || y) none e)
    ]
  ]

  here : (i : ℕ) → (i == at) ≡ true → members (touching groups nodes) i ≡ is_meeting (slice_index_or groups at []) nodes
  here i e = ap (members (touching groups nodes)) (eqb-true i at e) ∙ touching_at groups nodes at low

  pub found_yes : (next : Table) → is_meeting (slice_index_or groups at []) nodes ≡ true → length next ≡ length touched → members next ≡ members touched ∪ only at → AreFound groups nodes next (at + 1)
  found_yes next meets size put = (
    size ∙ before.0,
    λ i.
        ap (λ (s : Nodes). s i) put ∙ ap (λ (b : Bool). b || (i == at)) (before.1 i)
        ∙ added (nat_lt i at) (i == at) (members (touching groups nodes) i) (λ e. here i e ∙ meets)
        ∙ ap (λ (b : Bool). b && members (touching groups nodes) i) (sym (below_next i)),
  )

  pub found_no : is_meeting (slice_index_or groups at []) nodes ≡ false → AreFound groups nodes touched (at + 1)
  found_no apart = (
    before.0,
    λ i. before.1 i ∙ passed (nat_lt i at) (i == at) (members (touching groups nodes) i) (λ e. here i e ∙ apart) ∙ ap (λ (b : Bool). b && members (touching groups nodes) i) (sym (below_next i)),
  )

pub found_whole : (groups : List Table) (nodes touched : Table) (at : ℕ) → length groups ≤ at → AreFound groups nodes touched at → touched ≡ touching groups nodes
found_whole groups nodes touched at past all = table_ext touched (touching groups nodes) (all.0 ∙ sym (length-touching groups nodes)) (λ i. all.1 i ∙ elim (cases_Bool (members (touching groups nodes) i)) [
  | inl there ↦
      let low : i < at = (let l = member_lt (touching groups nodes) i there in omega (arith, l, length-touching groups nodes, past)) in
      ap (λ (b : Bool). b && members (touching groups nodes) i) (lt-ltb i at low)
  | inr out ↦ ap (λ (b : Bool). nat_lt i at && b) out ∙ and-false (nat_lt i at) ∙ sym out
])

-- two sets meet if the test says so, and else not
pub meeting_yes : (s t : Table) (r : Bool) → r ≡ true → (r ≡ true → Meets (members s) (members t)) → is_meeting s t ≡ true
meeting_yes s t r here there = let m = there here in meeting_from s t m.0 m.1 m.2

pub meeting_no : (s t : Table) (r : Bool) → r ≡ false → (Meets (members s) (members t) → r ≡ true) → is_meeting s t ≡ false
meeting_no s t r gone back = false_from_ne_true (is_meeting s t) (λ h. both_ways r gone (back (meeting_to s t h)))

-- ---- groups as they are kept

pub sized_at : (groups : List spec.Group) (n at : ℕ) → All (λ (g : spec.Group). length g.members ≡ n) groups → at < length groups → length (slice_index_or (tables_of groups) at []) ≡ n
sized_at groups n at all low = ap (λ (t : Table). length t) (get_or-map (λ (g : spec.Group). g.members) groups at none [] low) ∙ all at none low
  where
    none : spec.Group
    none = record { text = []; members = [] }
