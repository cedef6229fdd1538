-- A satisfying assignment of the split formula tells two quorums that share no node once the members of the groups whose
-- variables are true are deleted.
use Rattle.std.proofs.Common.{◌≡◌, ℕ, inl, inr, Bool, true, false, not, ◌&&◌, ◌||◌, List, ◌∷◌, ◌++◌, length, slice_get, refl, ap, sym, ◌∙◌}
use Rattle.std.proofs.lemmas.Bool.{and_parts, and_from, or_cases, or_left, or_right, false≢true, false_from_ne_true}
use Rattle.fbas_model.specs.Nodes.{Nodes, Table, members, listed_from, ◌∈◌, ◌⊆◌, ◌∪◌, ◌∖◌}
use Rattle.fbas_model.specs.Fbas.{Fbas, Quorum, all_nodes}
use Rattle.lrat_model.specs.Literal.{clause_true, formula_true}
use Rattle.threshold_circuit.specs.Value.{circuit_value}
use Rattle.clause_encoder.specs.declared.version.Version.{Version}
use Rattle.clause_encoder.specs.CircuitClauses.{Place}
use Rattle.clause_encoder.specs.Formula.{side_from, side_clauses, some_node, no_node_on_both}
use Rattle.clause_encoder.specs.Meaning.{told, AreDisjointQuorums}
use Rattle.clause_encoder.specs.SharedGates.{EachGate}
use Rattle.clause_encoder.proofs.Bools.{true_parts}
use Rattle.clause_encoder.proofs.CircuitLaws.{Reads, Says}
use Rattle.clause_encoder.proofs.Members.{Each, each_from, each_at, each_member}
use Rattle.clause_encoder.proofs.QuorumLaws.{IsReady, slice_from, met_from_value}
use Rattle.enumeration_journal.specs.Numbering.{variable_in}
use Rattle.group_journal.specs.Groups.{joined, touching}
use Rattle.split_journal.specs.Formula.{able_of, head_a, head_b, leaf_a, leaf_b, first_gate, by_number, variable_a, variable_b, circuit_behind, none_lying, present, on_lying, split_clauses}
use Rattle.split_journal.specs.Meaning.{IsMarking, told_a, told_b}
use Rattle.split_journal.proofs.Left.{IsLeft, left_parts, met_more, joined_from, joined_by, holding_touches}
use Rattle.split_journal.proofs.Able.{of_present, of_behind, low, able_parts, inside, inside_present, value_behind, ready_behind}
use Rattle.split_journal.proofs.Sides.{side_says, some_says, apart_says}
use Rattle.split_journal.proofs.Heads.{LiesNot, none_lying_says, IsPresent, present_says}

module _ (version : Version) (f : Fbas) (b : Table) (left : Table) (groups : List Table) (s : Table) (is : IsLeft f b left) (v : ℕ → Bool) (marking : IsMarking v (touching groups left) s) where
  -- of one side
  module _ (l h : ℕ → ℕ) (place : Place) where
    -- what the assignment says of each number
    says_of : Nodes
    says_of x = inside f b left is x && v (by_number (length f) l h x)

    module _ (none : EachGate (Says v says_of) place.gates) (some : clause_true v (some_node (by_number (length f) l h) (listed_from (length f) (able_of f b left))) ≡ true)
        (apart : Each (LiesNot v h (variable_in (touching groups left)) groups) (listed_from 0 (able_of f b left)))
        (seen : Each (IsPresent v l h (able_of f b left) (variable_in (touching groups left)) groups) (listed_from 0 left))
        (sat : formula_true v (side_clauses version (by_number (length f) l h) (circuit_behind version f b left) place (listed_from (length f) (able_of f b left))).clauses ≡ true) where
      told_lies_not : (n : ℕ) → n ∈ told h (able_of f b left) v → joined groups s n ≡ false
      told_lies_not n here =
          let parts = and_parts (members (able_of f b left) n) (v (h n)) here in
          false_from_ne_true (joined groups s n) (λ lying.
          let r = joined_from groups s n lying in
          each_member (LiesNot v h (variable_in (touching groups left)) groups) (able_of f b left) apart n parts.0 r.0 r.2 parts.1 (marking r.0 (holding_touches groups left n r.0 (able_parts f b left is n parts.0).0 r.2) ∙ r.1))

      told_left : told h (able_of f b left) v ⊆ (all_nodes f ∖ (members b ∪ joined groups s))
      told_left n here =
          let in_left = (able_parts f b left is n (and_parts (members (able_of f b left) n) (v (h n)) here).0).0 in
          let out = and_parts (all_nodes f n) (not (members b n)) (left_parts f b left is n in_left) in
          and_from (all_nodes f n) (not (members b n || joined groups s n)) out.0 (neither (members b n) (joined groups s n) out.1 (told_lies_not n here))
        where
          neither : (x y : Bool) → not x ≡ true → y ≡ false → not (x || y) ≡ true
          neither true y no_x no_y = absurd (false≢true no_x)
          neither false true no_x no_y = absurd (false≢true (sym no_y))
          neither false false no_x no_y = refl

      -- what is present, of the nodes that are left
      is_seen : Nodes
      is_seen n = members left n && v (l n)

      told_more : (is_seen ∪ members b) ⊆ (told h (able_of f b left) v ∪ (members b ∪ joined groups s))
      unfolding is_seen
      told_more n here = elim (or_cases (members left n && v (l n)) (members b n) here) [
        | inl sees ↦
            let parts = and_parts (members left n) (v (l n)) sees in
            elim (each_member (IsPresent v l h (able_of f b left) (variable_in (touching groups left)) groups) left seen n parts.0 parts.1) [
              | inl head ↦ or_left (told h (able_of f b left) v n) (members b n || joined groups s n) (and_from (members (able_of f b left) n) (v (h n)) head.0 head.1)
              | inr other ↦ or_right (told h (able_of f b left) v n) (members b n || joined groups s n) (or_right (members b n) (joined groups s n)
                  (joined_by groups s n other.0 (sym (marking other.0 (holding_touches groups left n other.0 parts.0 other.1)) ∙ other.2) other.1))
            ]
        | inr faulty ↦ or_right (told h (able_of f b left) v n) (members b n || joined groups s n) (or_left (members b n) (joined groups s n) faulty)
      ]

      says_seen : (x : ℕ) → x ∈ members left → says_of x ≡ is_seen x
      unfolding says_of is_seen
      says_seen x here =
          let under = low f b left is x here in
          ap (λ (y : Bool). y && v (by_number (length f) l h x)) (inside_present f b left is x under)
          ∙ ap (λ (y : ℕ). members left x && v y) (of_present (length f) l h x under)

      told_quorum : Quorum f (members b ∪ joined groups s) (told h (able_of f b left) v)
      unfolding says_of is_seen
      told_quorum =
          let n = length f in
          let t = able_of f b left in
          let p = by_number n l h in
          let reads : Reads v p (inside f b left is) says_of = (λ x at. ap (λ (y : Bool). y && v (p x)) (sym at)) in
          let all_ready = each_from (λ x. IsReady (inside f b left is) (circuit_behind version f b left x)) n t (ready_behind f b left is version) in
          let says = side_says version v p (inside f b left is) says_of (circuit_behind version f b left) place (listed_from n t) reads all_ready none sat in
          let one = some_says v p n t some in
          record {
            inhabited = (one.0, and_from (members t one.0) (v (h one.0)) one.1 (sym (ap v (of_behind n l h one.0)) ∙ one.2));
            left = told_left;
            slices = λ x here.
                let parts = and_parts (members t x) (v (h x)) here in
                let on = each_at (λ y. v (p y) ≡ true → circuit_value says_of (circuit_behind version f b left y) ≡ true) n t says x parts.0 (ap v (of_behind n l h x) ∙ parts.1) in
                slice_from f (members b ∪ joined groups s) (told h t v) x here
                (met_more (is_seen ∪ members b) (told h t v ∪ (members b ∪ joined groups s)) (slice_get f x) told_more
                (met_from_value version (members b) (members left) is_seen (slice_get f x) (λ m at. (and_parts (members left m) (v (l m)) at).0)
                (sym (value_behind f b left is version says_of is_seen x says_seen) ∙ on)));
          }

  pub split_says : (first : ℕ) → formula_true v (split_clauses version f b first left groups) ≡ true → AreDisjointQuorums f (members b ∪ joined groups s) (told_a f b first left v) (told_b f b first left v)
  unfolding split_clauses
  split_says first sat =
      let n = length f in
      let t = able_of f b left in
      let ns = listed_from n t in
      let lies = variable_in (touching groups left) in
      let circuit = circuit_behind version f b left in
      let ha = head_a first t in
      let hb = head_b first t in
      let la = leaf_a first t left in
      let lb = leaf_b first t left in
      let p = variable_a n first t left in
      let q = variable_b n first t left in
      let start = first_gate first t left in
      let a = side_clauses version p circuit (side_from start) ns in
      let c = side_clauses version q circuit (side_from a.after.next) ns in
      let heads = some_node p ns ∷ some_node q ns ∷ no_node_on_both p q ns in
      let parts = true_parts v (heads ++ (a.clauses ++ c.clauses)) (on_lying first t left groups) sat in
      let over = true_parts v heads (a.clauses ++ c.clauses) parts.0 in
      let sides = true_parts v a.clauses c.clauses over.1 in
      let lie_a = none_lying ha lies groups (listed_from 0 t) in
      let lie_b = none_lying hb lies groups (listed_from 0 t) in
      let here_a = present la ha t lies groups (listed_from 0 left) in
      let here_b = present lb hb t lies groups (listed_from 0 left) in
      let p1 = true_parts v lie_a (lie_b ++ (here_a ++ here_b)) parts.1 in
      let p2 = true_parts v lie_b (here_a ++ here_b) p1.1 in
      let p3 = true_parts v here_a here_b p2.1 in
      let some_a = and_parts (clause_true v (some_node p ns)) (formula_true v (some_node q ns ∷ no_node_on_both p q ns)) over.0 in
      let some_b = and_parts (clause_true v (some_node q ns)) (formula_true v (no_node_on_both p q ns)) some_a.1 in
      let apart = apart_says v p q ns some_b.1 in
      record {
        first = told_quorum la ha (side_from start) tt some_a.0 (none_lying_says v ha lies groups (listed_from 0 t) p1.0) (present_says v la ha t lies groups (listed_from 0 left) p3.0) sides.0;
        second = told_quorum lb hb (side_from a.after.next) tt some_b.0 (none_lying_says v hb lies groups (listed_from 0 t) p2.0) (present_says v lb hb t lies groups (listed_from 0 left) p3.1) sides.1;
        disjoint = λ m.
            let on_a = and_parts (members t m.0) (v (ha m.0)) m.1 in
            let on_b = and_parts (members t m.0) (v (hb m.0)) m.2 in
            each_at (λ x. v (p x) ≡ true → v (q x) ≡ true → ⊥) n t apart m.0 on_a.0 (ap v (of_behind n la ha m.0) ∙ on_a.1) (ap v (of_behind n lb hb m.0) ∙ on_b.1);
      }
