-- What the code decides is what the tests compute.
use Rattle.std.proofs.Common.{◌≡◌, Bool, true, false, not, ◌&&◌, length, sym, ap, subst, arith}
use Rattle.std.proofs.lemmas.Bool.{and_from, false_from_ne_true, not_from_false, lt-ltb}
use Rattle.std.specs.Cmp.{both_ways as same_answer}
use Rattle.fbas_model.specs.Nodes.{Nodes, Table, members, ◌⊆◌, Meets}
use Rattle.fbas_model.specs.Fbas.{Fbas, MeetsQuorums, all_nodes}
use Rattle.fbas_model.specs.Counting.{is_quorum}
use Rattle.fbas_model.proofs.Sizes.{member_lt}
use Rattle.greatest_quorum.specs.Greatest.{some_set}
use Rattle.enumeration_journal.specs.Tests.{is_meeting, is_blocking, is_minimal}
use Rattle.enumeration_journal.specs.Kinds.{Is, IsMinimal}
use Rattle.enumeration_journal.specs.declared.kinds.Listed.{Listed}
use Rattle.enumeration_journal.proofs.Duality.{is_of, minimal_of, same_nodes}
use Rattle.enumeration_journal.proofs.TestLaws.{meeting_from, blocks_to, blocks_from, minimal_to, minimal_from}

pub faulty_blocks_not : (f : Fbas) (b s : Table) → Meets (members s) (members b) → false ≡ is_blocking f b s
faulty_blocks_not f b s m = sym (ap (λ (x : Bool). not x && not (some_set (length f) (λ u. is_quorum f b u && not (is_meeting s u)))) (meeting_from s b m.0 m.1 m.2))

pub blocking_is : (f : Fbas) (b s : Table) (r : Bool) → length s ≡ length f → length b ≡ length f → (Meets (members s) (members b) → ⊥) → (r ≡ true → MeetsQuorums f (members b) (members s)) → (MeetsQuorums f (members b) (members s) → r ≡ true) → r ≡ is_blocking f b s
blocking_is f b s r size same apart there back = same_answer r (is_blocking f b s)
    (λ h. blocks_from f b s (record {
      left = λ v here. and_from (all_nodes f v) (not (members b v)) (lt-ltb v (length f) (let l = member_lt s v here in omega arith))
          (not_from_false (members b v) (false_from_ne_true (members b v) (λ in_b. apart (v, here, in_b))));
      meets = there h;
    }))
    (λ h. back (blocks_to f b s same size h).meets)

pub minimal_is : (k : Listed) (f : Fbas) (b s t : Table) (r : Bool) → length b ≡ length f → length t ≡ length s → members t ⊆ members s → IsMinimal k f (members b) (members t) → (r ≡ true → t ≡ s) → (t ≡ s → r ≡ true) → r ≡ is_minimal k f b s
minimal_is k f b s t r same size inside minimal there back = same_answer r (is_minimal k f b s)
    (λ h. minimal_from k f b s same (subst (λ (u : Table). (w : Nodes) → w ⊆ members u → Is k f (members b) w → members u ⊆ w) (there h) (λ w in_t one. minimal_of k f (members b) (members t) w minimal in_t one)))
    (λ h. back (same_nodes t s size inside (minimal_to k f b s same h (members t) inside (is_of k f (members b) (members t) minimal))))
