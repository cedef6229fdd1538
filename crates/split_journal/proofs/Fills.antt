-- Two quorums that share no node once the members of some groups are deleted are told by a satisfying assignment of the split
-- formula, in which just these groups' variables are true.
use Rattle.std.proofs.Common.{◌≡◌, ℕ, ◌+◌, ◌<◌, ◌≤◌, inl, inr, Bool, true, false, not, ◌&&◌, ◌||◌, List, ◌∷◌, ◌++◌, length, slice_get, refl, ap, sym, ◌∙◌, subst, arith}
use Rattle.std.proofs.lemmas.Bool.{cases_Bool, and_parts, and_from, or_cases, or_left, or_right, both_ways, false≢true, ltb-true}
use mathlib.Core.Path.{fun_ext}
use Rattle.fbas_model.specs.Nodes.{Nodes, Table, members, size, listed_from, ◌∈◌, ◌⊆◌, ◌∪◌}
use Rattle.fbas_model.specs.Fbas.{Fbas, Quorum, all_nodes}
use Rattle.fbas_model.proofs.Kept.{rank_lt}
use Rattle.lrat_model.specs.Literal.{clause_true, formula_true}
use Rattle.threshold_circuit.specs.Value.{circuit_value}
use Rattle.clause_encoder.specs.declared.version.Version.{Version}
use Rattle.clause_encoder.specs.declared.version.Version.TheVariants.{One}
use Rattle.clause_encoder.specs.Formula.{side_from, side_clauses, some_node, no_node_on_both, circuit_at}
use Rattle.clause_encoder.specs.Meaning.{told, AreDisjointQuorums}
use Rattle.clause_encoder.proofs.Bools.{true_both}
use Rattle.clause_encoder.proofs.GateFills.{Agree, agree_through}
use Rattle.clause_encoder.proofs.CircuitLaws.{Reads}
use Rattle.clause_encoder.proofs.CircuitFills.{VariablesBelow}
use Rattle.clause_encoder.proofs.Members.{each_of, each_from}
use Rattle.clause_encoder.proofs.QuorumLaws.{IsReady, slice_counts, value_from_met}
use Rattle.enumeration_journal.specs.Numbering.{variable_in}
use Rattle.group_journal.specs.Groups.{joined, touching}
use Rattle.group_journal.proofs.Touched.{joined_below}
use Rattle.split_journal.specs.Formula.{able_of, head_a, head_b, leaf_a, leaf_b, first_gate, by_number, variable_a, variable_b, circuit_behind, none_lying, present, on_lying, split_clauses}
use Rattle.split_journal.specs.Meaning.{AreGroups, IsMarking, TellsSplit}
use Rattle.split_journal.proofs.Left.{IsLeft, left_from, met_more, joined_from, joined_by, holding_touches}
use Rattle.split_journal.proofs.Telling.{telling, tells_before, tells_head_a, tells_head_b, tells_leaf_a, tells_leaf_b}
use Rattle.split_journal.proofs.Able.{same_truth, of_present, of_behind, each_number, low, able_parts, able_from, inside, inside_present, inside_behind, value_behind, ready_behind}
use Rattle.split_journal.proofs.Sides.{side_fill, some_true as some_node_true, apart_true}
use Rattle.split_journal.proofs.Heads.{LiesNot, none_lying_true, IsPresent, present_true}

module _ (version : Version) (f : Fbas) (b : Table) (first : ℕ) (left : Table) (groups : List Table) (base : ℕ → Bool) (s : Table) (u w : Nodes)
    (is : IsLeft f b left) (are : AreGroups f groups) (few : size (touching groups left) ≤ first) (marking : IsMarking base (touching groups left) s)
    (pair : AreDisjointQuorums f (members b ∪ joined groups s) u w) where
  -- what is present to the members of a quorum
  seen : Nodes → Nodes
  seen q n = members left n && (q n || joined groups s n)

  seen_within : (q : Nodes) → seen q ⊆ members left
  unfolding seen
  seen_within q n here = (and_parts (members left n) (q n || joined groups s n) here).0

  not_either : (x y : Bool) → not (x || y) ≡ true → (x ≡ false) × (y ≡ false)
  not_either true y h = absurd (false≢true h)
  not_either false true h = absurd (false≢true h)
  not_either false false h = (refl, refl)

  -- a member of a quorum is left, and does not lie
  good : (q : Nodes) → Quorum f (members b ∪ joined groups s) q → (n : ℕ) → n ∈ q → (n ∈ members left) × (joined groups s n ≡ false)
  good q quorum n here =
      let parts = and_parts (all_nodes f n) (not (members b n || joined groups s n)) (quorum.left n here) in
      let out = not_either (members b n) (joined groups s n) parts.1 in
      (left_from f b left is n (ltb-true n (length f) parts.0) out.0, out.1)

  more : (q : Nodes) → Quorum f (members b ∪ joined groups s) q → (q ∪ (members b ∪ joined groups s)) ⊆ (seen q ∪ members b)
  unfolding seen
  more q quorum n here = elim (or_cases (q n) (members b n || joined groups s n) here) [
    | inl own ↦ or_left (members left n && (q n || joined groups s n)) (members b n) (and_from (members left n) (q n || joined groups s n) (good q quorum n own).0 (or_left (q n) (joined groups s n) own))
    | inr rest ↦ elim (cases_Bool (members b n)) [
      | inl faulty ↦ or_right (members left n && (q n || joined groups s n)) (members b n) faulty
      | inr not_faulty ↦ elim (or_cases (members b n) (joined groups s n) rest) [
        | inl faulty ↦ absurd (both_ways (members b n) not_faulty faulty)
        | inr lying ↦ or_left (members left n && (q n || joined groups s n)) (members b n)
            (and_from (members left n) (q n || joined groups s n) (left_from f b left is n (joined_below (length f) groups s are n lying) not_faulty) (or_right (q n) (joined groups s n) lying))
      ]
    ]
  ]

  met : (q : Nodes) → Quorum f (members b ∪ joined groups s) q → (n : ℕ) → n ∈ q → circuit_value (seen q) (circuit_at version f b left n) ≡ true
  met q quorum n on =
      value_from_met version (members b) (members left) (seen q) (slice_get f n) (seen_within q)
      (met_more (q ∪ (members b ∪ joined groups s)) (seen q ∪ members b) (slice_get f n) (more q quorum) (slice_counts f (members b ∪ joined groups s) q n (quorum.slices n on)))

  wider : (q : Nodes) → (seen q ∪ members b) ⊆ (members left ∪ members b)
  unfolding seen
  wider q n here = elim (or_cases (members left n && (q n || joined groups s n)) (members b n) here) [
    | inl one ↦ or_left (members left n) (members b n) (and_parts (members left n) (q n || joined groups s n) one).0
    | inr faulty ↦ or_right (members left n) (members b n) faulty
  ]

  able : (q : Nodes) → Quorum f (members b ∪ joined groups s) q → (n : ℕ) → n ∈ q → n ∈ members (able_of f b left)
  able q quorum n on =
      able_from f b left is n (good q quorum n on).0
      (value_from_met One (members b) (members left) (members left) (slice_get f n) (λ m here. here)
      (met_more (seen q ∪ members b) (members left ∪ members b) (slice_get f n) (wider q)
      (met_more (q ∪ (members b ∪ joined groups s)) (seen q ∪ members b) (slice_get f n) (more q quorum) (slice_counts f (members b ∪ joined groups s) q n (quorum.slices n on)))))

  -- what is present and what is of the quorum, by the two numbers of a node
  both : Nodes → Nodes
  both q = by_number (length f) (seen q) q

  both_present : (q : Nodes) (n : ℕ) → n < length f → both q n ≡ seen q n
  unfolding both
  both_present q n under = of_present (length f) (seen q) q n under

  both_behind : (q : Nodes) (n : ℕ) → both q (length f + n) ≡ q n
  unfolding both
  both_behind q n = of_behind (length f) (seen q) q n

  value : (q : Nodes) → Quorum f (members b ∪ joined groups s) q → (n : ℕ) → both q (length f + n) ≡ true → circuit_value (both q) (circuit_behind version f b left (length f + n)) ≡ true
  value q quorum n on =
      value_behind f b left is version (both q) (seen q) n (λ x here. both_present q x (low f b left is x here))
      ∙ met q quorum n (sym (both_behind q n) ∙ on)

  low_group : (i : ℕ) → i ∈ members (touching groups left) → variable_in (touching groups left) i ≤ first
  low_group i here = omega (arith, rank_lt (touching groups left) i here, few)

  -- ---- of one side

  module _ (l h : ℕ → ℕ) (start : ℕ) (low_l : (n : ℕ) → n ∈ members left → l n < start) (low_h : (n : ℕ) → n ∈ members (able_of f b left) → h n < start) where
    variables_below : VariablesBelow (by_number (length f) l h) (inside f b left is) start
    variables_below = each_number (length f) (λ x. inside f b left is x ≡ true → by_number (length f) l h x < start)
        (λ n under here. subst (λ (x : ℕ). x < start) (sym (of_present (length f) l h n under)) (low_l n (sym (inside_present f b left is n under) ∙ here)))
        (λ n here. subst (λ (x : ℕ). x < start) (sym (of_behind (length f) l h n)) (low_h n (sym (inside_behind f b left is n) ∙ here)))

  module _ (q : Nodes) (l h : ℕ → ℕ) (v : ℕ → Bool) (sees : (n : ℕ) → n ∈ members left → v (l n) ≡ seen q n) (tells : (n : ℕ) → n ∈ members (able_of f b left) → v (h n) ≡ q n) where
    reads : Reads v (by_number (length f) l h) (inside f b left is) (both q)
    reads = each_number (length f) (λ x. inside f b left is x ≡ true → v (by_number (length f) l h x) ≡ both q x)
        (λ n under here. ap v (of_present (length f) l h n under) ∙ sees n (sym (inside_present f b left is n under) ∙ here) ∙ sym (both_present q n under))
        (λ n here. ap v (of_behind (length f) l h n) ∙ tells n (sym (inside_behind f b left is n) ∙ here) ∙ sym (both_behind q n))

    told_is : Quorum f (members b ∪ joined groups s) q → told h (able_of f b left) v ≡ q
    told_is quorum = fun_ext (λ n. same_truth (members (able_of f b left) n && v (h n)) (q n)
        (λ here. let parts = and_parts (members (able_of f b left) n) (v (h n)) here in sym (tells n parts.0) ∙ parts.1)
        (λ here. let at = able q quorum n here in and_from (members (able_of f b left) n) (v (h n)) at (tells n at ∙ here)))

    module _ (quorum : Quorum f (members b ∪ joined groups s) q) (before : (y : ℕ) → y ≤ first → base y ≡ v y) where
      marked : (i : ℕ) → i ∈ members (touching groups left) → v (variable_in (touching groups left) i) ≡ members s i
      marked i here = sym (before (variable_in (touching groups left) i) (low_group i here)) ∙ marking i here

      lies_not : (n : ℕ) → n ∈ members (able_of f b left) → LiesNot v h (variable_in (touching groups left)) groups n
      lies_not n at i has on lying =
          let in_q : q n ≡ true = sym (tells n at) ∙ on in
          let here : members s i ≡ true = sym (marked i (holding_touches groups left n i (able_parts f b left is n at).0 has)) ∙ lying in
          both_ways (joined groups s n) (good q quorum n in_q).1 (joined_by groups s n i here has)

      is_present : (n : ℕ) → n ∈ members left → IsPresent v l h (able_of f b left) (variable_in (touching groups left)) groups n
      unfolding seen
      is_present n in_left on =
          let here = and_parts (members left n) (q n || joined groups s n) (sym (sees n in_left) ∙ on) in
          elim (or_cases (q n) (joined groups s n) here.1) [
            | inl own ↦ let at = able q quorum n own in inl (at, tells n at ∙ own)
            | inr lying ↦ let r = joined_from groups s n lying in inr (r.0, r.2, marked r.0 (holding_touches groups left n r.0 in_left r.2) ∙ r.1)
          ]

      some_true : clause_true v (some_node (by_number (length f) l h) (listed_from (length f) (able_of f b left))) ≡ true
      some_true =
          let one = quorum.inhabited in
          let at = able q quorum one.0 one.1 in
          some_node_true v (by_number (length f) l h) (length f) (able_of f b left) one.0 at (ap v (of_behind (length f) l h one.0) ∙ tells one.0 at ∙ one.1)

  -- ---- the assignment

  pub split_fills : TellsSplit version f b first left groups base u w
  unfolding split_clauses
  split_fills =
      let n = length f in
      let t = able_of f b left in
      let ns = listed_from n t in
      let lies = variable_in (touching groups left) in
      let there = inside f b left is in
      let circuit = circuit_behind version f b left in
      let p = variable_a n first t left in
      let q = variable_b n first t left in
      let v = telling first t left base u w (seen u) (seen w) in
      let start = first_gate first t left in
      let low_ha : (x : ℕ) → x ∈ members t → head_a first t x < start = (λ x at. omega (arith, rank_lt t x at)) in
      let low_hb : (x : ℕ) → x ∈ members t → head_b first t x < start = (λ x at. omega (arith, rank_lt t x at)) in
      let low_la : (x : ℕ) → x ∈ members left → leaf_a first t left x < start = (λ x at. omega (arith, rank_lt left x at)) in
      let low_lb : (x : ℕ) → x ∈ members left → leaf_b first t left x < start = (λ x at. omega (arith, rank_lt left x at)) in
      let below_a : VariablesBelow p there start = variables_below (leaf_a first t left) (head_a first t) start low_la low_ha in
      let below_b : VariablesBelow q there start = variables_below (leaf_b first t left) (head_b first t) start low_lb low_hb in
      let reads_a : Reads v p there (both u) = reads u (leaf_a first t left) (head_a first t) v (tells_leaf_a first t left base u w (seen u) (seen w)) (tells_head_a first t left base u w (seen u) (seen w)) in
      let reads_b : Reads v q there (both w) = reads w (leaf_b first t left) (head_b first t) v (tells_leaf_b first t left base u w (seen u) (seen w)) (tells_head_b first t left base u w (seen u) (seen w)) in
      let all_ready = each_from (λ x. IsReady there (circuit x)) n t (ready_behind f b left is version) in
      let all_in = each_from (λ x. there x ≡ true) n t (λ x at. inside_behind f b left is x ∙ at) in
      let a = side_clauses version p circuit (side_from start) ns in
      let c = side_clauses version q circuit (side_from a.after.next) ns in
      let fill_a = side_fill version v p there (both u) circuit (side_from start) ns below_a reads_a all_ready tt all_in (each_from (λ x. both u x ≡ true → circuit_value (both u) (circuit x) ≡ true) n t (λ x at. value u pair.first x)) in
      let below_b' : VariablesBelow q there a.after.next = (λ x at. omega (arith, below_b x at, fill_a.grows)) in
      let reads_b' : Reads fill_a.filled q there (both w) = (λ x at. sym (fill_a.same (q x) (below_b x at)) ∙ reads_b x at) in
      let fill_b = side_fill version fill_a.filled q there (both w) circuit (side_from a.after.next) ns below_b' reads_b' all_ready tt all_in (each_from (λ x. both w x ≡ true → circuit_value (both w) (circuit x) ≡ true) n t (λ x at. value w pair.second x)) in
      let z = fill_b.filled in
      let same : Agree start v z = agree_through start a.after.next v fill_a.filled z fill_a.grows fill_a.same fill_b.same in
      let before : (y : ℕ) → y ≤ first → base y ≡ z y = (λ y under. sym (tells_before first t left base u w (seen u) (seen w) y under) ∙ same y (omega (arith, under))) in
      let on_a : (x : ℕ) → x ∈ members t → z (head_a first t x) ≡ u x = (λ x at. sym (same (head_a first t x) (low_ha x at)) ∙ tells_head_a first t left base u w (seen u) (seen w) x at) in
      let on_b : (x : ℕ) → x ∈ members t → z (head_b first t x) ≡ w x = (λ x at. sym (same (head_b first t x) (low_hb x at)) ∙ tells_head_b first t left base u w (seen u) (seen w) x at) in
      let see_a : (x : ℕ) → x ∈ members left → z (leaf_a first t left x) ≡ seen u x = (λ x at. sym (same (leaf_a first t left x) (low_la x at)) ∙ tells_leaf_a first t left base u w (seen u) (seen w) x at) in
      let see_b : (x : ℕ) → x ∈ members left → z (leaf_b first t left x) ≡ seen w x = (λ x at. sym (same (leaf_b first t left x) (low_lb x at)) ∙ tells_leaf_b first t left base u w (seen u) (seen w) x at) in
      let apart = apart_true z p q ns (each_from (λ x. z (p x) ≡ true → z (q x) ≡ true → ⊥) n t (λ x at one other.
      pair.disjoint (x, sym (on_a x at) ∙ sym (ap z (of_behind n (leaf_a first t left) (head_a first t) x)) ∙ one, sym (on_b x at) ∙ sym (ap z (of_behind n (leaf_b first t left) (head_b first t) x)) ∙ other))) in
      let heads_true = and_from (clause_true z (some_node p ns)) (formula_true z (some_node q ns ∷ no_node_on_both p q ns)) (some_true u (leaf_a first t left) (head_a first t) z see_a on_a pair.first before)
      (and_from (clause_true z (some_node q ns)) (formula_true z (no_node_on_both p q ns)) (some_true w (leaf_b first t left) (head_b first t) z see_b on_b pair.second before) apart) in
      let sides_true = true_both z a.clauses c.clauses (fill_a.holds z fill_b.same) (fill_b.holds z (λ y below. refl)) in
      let none_a = none_lying_true z (head_a first t) lies groups (listed_from 0 t) (each_of (LiesNot z (head_a first t) lies groups) t (lies_not u (leaf_a first t left) (head_a first t) z see_a on_a pair.first before)) in
      let none_b = none_lying_true z (head_b first t) lies groups (listed_from 0 t) (each_of (LiesNot z (head_b first t) lies groups) t (lies_not w (leaf_b first t left) (head_b first t) z see_b on_b pair.second before)) in
      let present_a = present_true z (leaf_a first t left) (head_a first t) t lies groups (listed_from 0 left) (each_of (IsPresent z (leaf_a first t left) (head_a first t) t lies groups) left (is_present u (leaf_a first t left) (head_a first t) z see_a on_a pair.first before)) in
      let present_b = present_true z (leaf_b first t left) (head_b first t) t lies groups (listed_from 0 left) (each_of (IsPresent z (leaf_b first t left) (head_b first t) t lies groups) left (is_present w (leaf_b first t left) (head_b first t) z see_b on_b pair.second before)) in
      let heads = some_node p ns ∷ some_node q ns ∷ no_node_on_both p q ns in
      let lie_a = none_lying (head_a first t) lies groups (listed_from 0 t) in
      let lie_b = none_lying (head_b first t) lies groups (listed_from 0 t) in
      let here_a = present (leaf_a first t left) (head_a first t) t lies groups (listed_from 0 left) in
      let here_b = present (leaf_b first t left) (head_b first t) t lies groups (listed_from 0 left) in
      record {
        assignment = z;
        before = before;
        holds = true_both z (heads ++ (a.clauses ++ c.clauses)) (on_lying first t left groups) (true_both z heads (a.clauses ++ c.clauses) heads_true sides_true)
            (true_both z lie_a (lie_b ++ (here_a ++ here_b)) none_a
            (true_both z lie_b (here_a ++ here_b) none_b
            (true_both z here_a here_b present_a present_b)));
        one = told_is u (leaf_a first t left) (head_a first t) z see_a on_a pair.first;
        two = told_is w (leaf_b first t left) (head_b first t) z see_b on_b pair.second;
      }
