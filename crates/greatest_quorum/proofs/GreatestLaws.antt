-- The union of the quorums is the greatest quorum.
use Rattle.std.proofs.Common.{◌≡◌, ◌<◌, ℕ, zero, suc, ◌+◌, Bool, true, false, not, ◌&&◌, ◌||◌, [], ◌∷◌, length, inl, inr, sym, ◌∙◌, ap, subst, arith}
use Rattle.std.proofs.lemmas.Bool.{cases_Bool, or_cases, and_parts, and_from, both_ways, false≢true, ltb-true, lt-ltb}
use Rattle.std.proofs.Math.Bool.{or-true}
use Rattle.fbas_model.specs.Nodes.{Nodes, Table, members, ◌∈◌, ◌⊆◌, ◌∖◌}
use Rattle.fbas_model.specs.Fbas.{Fbas, Quorum, IsGreatestQuorum, all_nodes}
use Rattle.fbas_model.specs.Counting.{is_quorum}
use Rattle.fbas_model.specs.Restriction.{table_from}
use Rattle.fbas_model.proofs.Tables.{table_ext, length-table_from, members-table_from}
use Rattle.fbas_model.proofs.Sizes.{member_lt, empty_or_not}
use Rattle.fbas_model.proofs.QuorumLaw.{quorum-to, quorum-from}
use Rattle.fbas_model.proofs.Unions.{slice_wider}
use Rattle.greatest_quorum.specs.Greatest.{some_set, in_some_quorum, greatest_of}

pub some_set-has : (n : ℕ) (test : Table → Bool) → some_set n test ≡ true → (u : Table) × (test u ≡ true)
some_set-has zero test h = ([], h)
some_set-has (suc n) test h = elim (or_cases (some_set n (λ u. test (false ∷ u))) (some_set n (λ u. test (true ∷ u))) h) [
  | inl e ↦ let r = some_set-has n (λ u. test (false ∷ u)) e in (false ∷ r.0, r.1)
  | inr e ↦ let r = some_set-has n (λ u. test (true ∷ u)) e in (true ∷ r.0, r.1)
]

pub some_set-from : (u : Table) (test : Table → Bool) → test u ≡ true → some_set (length u) test ≡ true
some_set-from [] test h = h
some_set-from (false ∷ u) test h = ap (λ (b : Bool). b || some_set (length u) (λ w. test (true ∷ w))) (some_set-from u (λ w. test (false ∷ w)) h)
some_set-from (true ∷ u) test h =
    let before = some_set (length u) (λ w. test (false ∷ w)) in
    ap (λ (b : Bool). before || b) (some_set-from u (λ w. test (true ∷ w)) h) ∙ or-true before

-- a node of some quorum
quorum_with : (f : Fbas) (b : Table) (v : ℕ) → in_some_quorum f b v ≡ true → (u : Table) × Quorum f (members b) (members u) × v ∈ members u
quorum_with f b v h =
    let r = some_set-has (length f) (λ u. is_quorum f b u && members u v) h in
    let parts = and_parts (is_quorum f b r.0) (members r.0 v) r.1 in
    (r.0, quorum-to f b r.0 parts.0, parts.1)

-- the table of a set of nodes of the system
table_at : (f : Fbas) (w : Nodes) → w ⊆ all_nodes f → (v : ℕ) → members (table_from 0 (length f) w) v ≡ w v
table_at f w low v = elim (cases_Bool (all_nodes f v)) [
  | inl e ↦ let start : 0 + v ≡ v = omega arith in members-table_from 0 (length f) w v (ltb-true v (length f) e) ∙ ap w start
  | inr e ↦ elim (cases_Bool (w v)) [
    | inl m ↦ absurd (both_ways (all_nodes f v) e (low v m))
    | inr m ↦ elim (cases_Bool (members (table_from 0 (length f) w) v)) [
      | inl k ↦
          let less : v < length f = let l = member_lt (table_from 0 (length f) w) v k in omega (arith, length-table_from 0 (length f) w) in
          absurd (both_ways (all_nodes f v) e (lt-ltb v (length f) less))
      | inr k ↦ k ∙ sym m
    ]
  ]
]

pub table_of : (f : Fbas) (w : Nodes) → w ⊆ all_nodes f → members (table_from 0 (length f) w) ≡ w
table_of f w low = λ i v. table_at f w low v i

left_nodes : (f : Fbas) (b w : Nodes) → Quorum f b w → w ⊆ all_nodes f
left_nodes f b w q v at = (and_parts (all_nodes f v) (not (b v)) (q.left v at)).0

member_of_some : (f : Fbas) (b : Table) (w : Nodes) (v : ℕ) → length b ≡ length f → Quorum f (members b) w → v ∈ w → in_some_quorum f b v ≡ true
member_of_some f b w v same q at =
    let t = table_from 0 (length f) w in
    let size : length t ≡ length f = length-table_from 0 (length f) w in
    let is = table_of f w (left_nodes f (members b) w q) in
    let counted = quorum-from f b t (same ∙ sym size) (sym size) (subst (λ (s : Nodes). Quorum f (members b) s) (sym is) q) in
    let there : members t v ≡ true = ap (λ (s : Nodes). s v) is ∙ at in
    let test = λ (u : Table). is_quorum f b u && members u v in
    subst (λ (n : ℕ). some_set n test ≡ true) size (some_set-from t test (and_from (is_quorum f b t) (members t v) counted there))

pub length-greatest_of : (f : Fbas) (b : Table) → length (greatest_of f b) ≡ length f
unfolding greatest_of
length-greatest_of f b = length-table_from 0 (length f) (in_some_quorum f b)

greatest_at : (f : Fbas) (b : Table) (v : ℕ) → v < length f → members (greatest_of f b) v ≡ in_some_quorum f b v
unfolding greatest_of
greatest_at f b v h = let start : 0 + v ≡ v = omega arith in members-table_from 0 (length f) (in_some_quorum f b) v h ∙ ap (in_some_quorum f b) start

member_there : (f : Fbas) (b : Table) (v : ℕ) → v ∈ members (greatest_of f b) → in_some_quorum f b v ≡ true
member_there f b v at =
    let low : v < length f = let l = member_lt (greatest_of f b) v at in omega (arith, length-greatest_of f b) in
    sym (greatest_at f b v low) ∙ at

quorum_inside : (f : Fbas) (b : Table) (w : Nodes) → length b ≡ length f → Quorum f (members b) w → w ⊆ members (greatest_of f b)
quorum_inside f b w same q v at = greatest_at f b v (ltb-true v (length f) (left_nodes f (members b) w q v at)) ∙ member_of_some f b w v same q at

pub greatest_is : (f : Fbas) (b : Table) → length b ≡ length f → IsGreatestQuorum f (members b) (all_nodes f) (members (greatest_of f b))
greatest_is f b same =
    let g = greatest_of f b in
    let left : members g ⊆ (all_nodes f ∖ members b) = λ v at. let r = quorum_with f b v (member_there f b v at) in r.1.left v r.2 in
    record {
      within = left;
      quorum = elim (empty_or_not g) [
        | inl none ↦ inl none
        | inr some ↦ inr (record {
          inhabited = some;
          left = left;
          slices = λ v at. let r = quorum_with f b v (member_there f b v at) in slice_wider f (members b) (members r.0) (members g) v (quorum_inside f b (members r.0) same r.1) (r.1.slices v r.2);
        })
      ];
      greatest = λ w q low. quorum_inside f b w same q;
    }

greatest_within : (f : Fbas) (b u r s : Nodes) → IsGreatestQuorum f b u r → IsGreatestQuorum f b u s → r ⊆ s
greatest_within f b u r s first second = elim first.quorum [
  | inl none ↦ λ v at. absurd (false≢true (sym (ap (λ (x : Nodes). x v) none) ∙ at))
  | inr q ↦ second.greatest r q (λ v at. (and_parts (u v) (not (b v)) (first.within v at)).0)
]

same_at : (s t : Nodes) (v : ℕ) → s ⊆ t → t ⊆ s → s v ≡ t v
same_at s t v there back = elim (cases_Bool (t v)) [
  | inl e ↦ back v e ∙ sym e
  | inr e ↦ elim (cases_Bool (s v)) [ inl m ↦ absurd (both_ways (t v) e (there v m)) | inr m ↦ m ∙ sym e ]
]

-- no other table is the greatest quorum
pub greatest_only : (f : Fbas) (b t : Table) → length b ≡ length f → length t ≡ length f → IsGreatestQuorum f (members b) (all_nodes f) (members t) → t ≡ greatest_of f b
greatest_only f b t same size is =
    let g = greatest_of f b in
    let other = greatest_is f b same in
    table_ext t g (size ∙ sym (length-greatest_of f b)) (λ v. same_at (members t) (members g) v (greatest_within f (members b) (all_nodes f) (members t) (members g) is other) (greatest_within f (members b) (all_nodes f) (members g) (members t) other is))
