-- A quorum that does not meet every other, once b and s are deleted, shows that s splits; and each set that splits has one.
use Rattle.std.proofs.Common.{◌≡◌, ℕ, Bool, true, false, not, ◌&&◌, length, sym, ap, ◌∙◌, subst, arith, inl, inr}
use Rattle.std.proofs.lemmas.Bool.{cases_Bool, and_parts, and_from, or_cases, both_ways, false_from_ne_true, not_from_false, lt-ltb}
use Rattle.fbas_model.specs.Nodes.{Nodes, Table, members, ◌∪◌, ◌⊆◌}
use Rattle.fbas_model.specs.Fbas.{Fbas, all_nodes}
use Rattle.fbas_model.specs.Counting.{is_quorum}
use Rattle.fbas_model.specs.Restriction.{table_from, union}
use Rattle.fbas_model.proofs.Tables.{length-table_from}
use Rattle.fbas_model.proofs.QuorumLaw.{quorum-to, quorum-from}
use Rattle.fbas_model.proofs.Sizes.{member_lt}
use Rattle.greatest_quorum.specs.Greatest.{some_set}
use Rattle.greatest_quorum.proofs.GreatestLaws.{table_of, some_set-has}
use Rattle.clause_encoder.specs.Meaning.{AreDisjointQuorums}
use Rattle.enumeration_journal.specs.Tests.{is_meeting, is_blocking}
use Rattle.enumeration_journal.proofs.TestLaws.{blocks_to, meeting_to, meeting_from, refutes}
use Rattle.split_journal.specs.Splitting.{Splits}
use Rattle.split_journal.specs.Nodes.{is_split_by}

-- a set with places for the nodes has nodes alone
nodes_alone : (f : Fbas) (s : Table) → length s ≡ length f → members s ⊆ all_nodes f
nodes_alone f s size v here = lt-ltb v (length f) (let low = member_lt s v here in omega arith)

union_is : (f : Fbas) (b s : Table) → length b ≡ length f → length s ≡ length f → members (union b s) ≡ (members b ∪ members s)
union_is f b s same size =
    ap (λ (n : ℕ). members (table_from 0 n (members b ∪ members s))) same
    ∙ table_of f (members b ∪ members s) (λ v here. elim (or_cases (members b v) (members s v) here) [
      | inl one ↦ nodes_alone f b same v one
      | inr other ↦ nodes_alone f s size v other
    ])

rival : (f : Fbas) (b a : Table) → is_quorum f b a ≡ true → is_blocking f b a ≡ false → (u : Table) × AreDisjointQuorums f (members b) (members a) (members u)
rival f b a quorum off =
    let q = quorum-to f b a quorum in
    let apart : not (is_meeting a b) ≡ true = not_from_false (is_meeting a b) (false_from_ne_true (is_meeting a b) (λ h.
    let m = meeting_to a b h in refutes (members b m.0) (and_parts (all_nodes f m.0) (not (members b m.0)) (q.left m.0 m.1)).1 m.2)) in
    let test : Table → Bool = λ u. is_quorum f b u && not (is_meeting a u) in
    elim (cases_Bool (some_set (length f) test)) [
      | inl some ↦
          let r = some_set-has (length f) test some in
          let parts = and_parts (is_quorum f b r.0) (not (is_meeting a r.0)) r.1 in
          (r.0, record { first = q; second = quorum-to f b r.0 parts.0; disjoint = λ m. refutes (is_meeting a r.0) parts.1 (meeting_from a r.0 m.0 m.1 m.2) })
      | inr none ↦ absurd (both_ways (is_blocking f b a) off (and_from (not (is_meeting a b)) (not (some_set (length f) test)) apart (not_from_false (some_set (length f) test) none)))
    ]

pub split_by : (f : Fbas) (b s a : Table) → length b ≡ length f → length s ≡ length f → is_split_by f b s a ≡ true → Splits f (members b) (members s)
split_by f b s a same size h =
    let parts = and_parts (is_quorum f (union b s) a) (not (is_blocking f (union b s) a)) h in
    let r = rival f (union b s) a parts.0 (false_from_ne_true (is_blocking f (union b s) a) (refutes (is_blocking f (union b s) a) parts.1)) in
    (members a, members r.0, subst (λ (d : Nodes). AreDisjointQuorums f d (members a) (members r.0)) (union_is f b s same size) r.1)

-- the first of two quorums that share no node is evidence
pub shown_by : (f : Fbas) (b s a : Table) (w : Nodes) → length b ≡ length f → length s ≡ length f → length a ≡ length f → AreDisjointQuorums f (members b ∪ members s) (members a) w → is_split_by f b s a ≡ true
shown_by f b s a w same size places pair =
    let d = union b s in
    let e : length d ≡ length f = length-table_from 0 (length b) (members b ∪ members s) ∙ same in
    let p = subst (λ (x : Nodes). AreDisjointQuorums f x (members a) w) (sym (union_is f b s same size)) pair in
    and_from (is_quorum f d a) (not (is_blocking f d a)) (quorum-from f d a (e ∙ sym places) (sym places) p.first)
    (not_from_false (is_blocking f d a) (false_from_ne_true (is_blocking f d a) (λ h. p.disjoint ((blocks_to f d a e places h).meets w p.second))))
