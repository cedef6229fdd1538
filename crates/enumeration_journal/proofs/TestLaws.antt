-- The tests of sets say what they are named for.
use Rattle.std.proofs.Common.{◌≡◌, ℕ, zero, suc, Bool, true, false, not, ◌&&◌, ◌||◌, [], ◌∷◌, length, refl, sym, ap, ◌∙◌, subst, arith, inl, inr}
use Rattle.std.proofs.lemmas.Bool.{cases_Bool, or_cases, or_left, or_right, and_parts, and_from, both_ways, false≢true, false_from_ne_true, lt-ltb, not_from_false}
use Rattle.fbas_model.specs.Nodes.{Nodes, Table, members, ◌∈◌, ◌⊆◌, ◌∖◌, Meets, size}
use Rattle.fbas_model.specs.Fbas.{Fbas, Quorum as IsQuorum, Blocks, all_nodes}
use Rattle.fbas_model.specs.Counting.{is_quorum}
use Rattle.fbas_model.specs.Restriction.{table_from}
use Rattle.fbas_model.proofs.Tables.{length-table_from}
use Rattle.fbas_model.proofs.Sizes.{member_lt}
use Rattle.fbas_model.proofs.QuorumLaw.{quorum-to, quorum-from}
use Rattle.greatest_quorum.specs.Greatest.{some_set}
use Rattle.enumeration_journal.specs.Tests.{is_within, is_meeting, is_blocking, is_kind, is_minimal}
use Rattle.enumeration_journal.specs.Kinds.{Is}
use Rattle.enumeration_journal.specs.declared.kinds.Listed.{Listed}
use Rattle.enumeration_journal.specs.declared.kinds.Listed.TheVariants.{Quorum, Blocking, Smaller}
use Rattle.greatest_quorum.proofs.GreatestLaws.{some_set-from, table_of}

-- ---- sets of this many nodes

some_of : (n : ℕ) (test : Table → Bool) → some_set n test ≡ true → (u : Table) × (length u ≡ n) × (test u ≡ true)
some_of zero test h = ([], refl, h)
some_of (suc n) test h = elim (or_cases (some_set n (λ u. test (false ∷ u))) (some_set n (λ u. test (true ∷ u))) h) [
  | inl e ↦ let r = some_of n (λ u. test (false ∷ u)) e in (false ∷ r.0, ap suc r.1, r.2)
  | inr e ↦ let r = some_of n (λ u. test (true ∷ u)) e in (true ∷ r.0, ap suc r.1, r.2)
]

-- a test that some set would pass is passed by this one too, where none passes it
pub none_of : (n : ℕ) (test : Table → Bool) → not (some_set n test) ≡ true → (u : Table) → length u ≡ n → test u ≡ false
none_of n test none u size = false_from_ne_true (test u) (λ h. false≢true (sym (ap not (subst (λ (m : ℕ). some_set m test ≡ true) size (some_set-from u test h))) ∙ none))

pub none_from : (n : ℕ) (test : Table → Bool) → ((u : Table) → length u ≡ n → test u ≡ true → ⊥) → not (some_set n test) ≡ true
none_from n test none = not_from_false (some_set n test) (false_from_ne_true (some_set n test) (λ h. let r = some_of n test h in none r.0 r.1 r.2))

pub refutes : (b : Bool) → not b ≡ true → b ≡ true → ⊥
refutes true n h = false≢true n
refutes false n h = false≢true h

-- ---- inside and meeting

pub within_to : (s t : Table) → is_within s t ≡ true → members s ⊆ members t
within_to [] t h v here = absurd (false≢true here)
within_to (m ∷ s) [] h zero here = absurd (refutes m (and_parts (not m) (is_within s []) h).0 here)
within_to (m ∷ s) [] h (suc v) here = within_to s [] (and_parts (not m) (is_within s []) h).1 v here
within_to (true ∷ s) (n ∷ t) h zero here = (and_parts n (is_within s t) h).0
within_to (false ∷ s) (n ∷ t) h zero here = absurd (false≢true here)
within_to (m ∷ s) (n ∷ t) h (suc v) here = within_to s t (and_parts (not m || n) (is_within s t) h).1 v here

pub within_from : (s t : Table) → members s ⊆ members t → is_within s t ≡ true
within_from [] t h = refl
within_from (true ∷ s) [] h = absurd (false≢true (h 0 refl))
within_from (false ∷ s) [] h = within_from s [] (λ v here. h (suc v) here)
within_from (true ∷ s) (n ∷ t) h = and_from n (is_within s t) (h 0 refl) (within_from s t (λ v here. h (suc v) here))
within_from (false ∷ s) (n ∷ t) h = within_from s t (λ v here. h (suc v) here)

pub meeting_to : (s t : Table) → is_meeting s t ≡ true → Meets (members s) (members t)
meeting_to [] t h = absurd (false≢true h)
meeting_to (m ∷ s) [] h = absurd (false≢true h)
meeting_to (m ∷ s) (n ∷ t) h = elim (or_cases (m && n) (is_meeting s t) h) [
  | inl e ↦ let p = and_parts m n e in (0, p.0, p.1)
  | inr e ↦ let r = meeting_to s t e in (suc r.0, r.1, r.2)
]

pub meeting_from : (s t : Table) (v : ℕ) → v ∈ members s → v ∈ members t → is_meeting s t ≡ true
meeting_from [] t v here there = absurd (false≢true here)
meeting_from (m ∷ s) [] v here there = absurd (false≢true there)
meeting_from (m ∷ s) (n ∷ t) zero here there = or_left (m && n) (is_meeting s t) (and_from m n here there)
meeting_from (m ∷ s) (n ∷ t) (suc v) here there = or_right (m && n) (is_meeting s t) (meeting_from s t v here there)

-- ---- blocking sets

table_size : (f : Fbas) (u : Nodes) → length (table_from 0 (length f) u) ≡ length f
table_size f u = length-table_from 0 (length f) u

low_nodes : (f : Fbas) (b u : Nodes) → u ⊆ (all_nodes f ∖ b) → u ⊆ all_nodes f
low_nodes f b u left v here = (and_parts (all_nodes f v) (not (b v)) (left v here)).0

pub blocks_to : (f : Fbas) (b s : Table) → length b ≡ length f → length s ≡ length f → is_blocking f b s ≡ true → Blocks f (members b) (members s)
blocks_to f b s same size h =
    let parts = and_parts (not (is_meeting s b)) (not (some_set (length f) (λ u. is_quorum f b u && not (is_meeting s u)))) h in
    record {
      left = λ v here. and_from (all_nodes f v) (not (members b v))
          (lt-ltb v (length f) (let l = member_lt s v here in omega arith))
          (not_from_false (members b v) (false_from_ne_true (members b v) (λ there. refutes (is_meeting s b) parts.0 (meeting_from s b v here there))));
      meets = λ u q.
          let t : Table = table_from 0 (length f) u in
          let is : members t ≡ u = table_of f u (low_nodes f (members b) u q.left) in
          elim (cases_Bool (is_meeting s t)) [
            | inl meets ↦ subst (λ (w : Nodes). Meets (members s) w) is (meeting_to s t meets)
            | inr apart ↦
                let counted = quorum-from f b t (same ∙ sym (table_size f u)) (sym (table_size f u)) (subst (λ (w : Nodes). IsQuorum f (members b) w) (sym is) q) in
                absurd (both_ways (is_quorum f b t && not (is_meeting s t)) (none_of (length f) (λ w. is_quorum f b w && not (is_meeting s w)) parts.1 t (table_size f u)) (and_from (is_quorum f b t) (not (is_meeting s t)) counted (not_from_false (is_meeting s t) apart)))
          ];
    }

pub blocks_from : (f : Fbas) (b s : Table) → Blocks f (members b) (members s) → is_blocking f b s ≡ true
blocks_from f b s is = and_from (not (is_meeting s b)) (not (some_set (length f) (λ u. is_quorum f b u && not (is_meeting s u))))
    (not_from_false (is_meeting s b) (false_from_ne_true (is_meeting s b) (λ h.
    let m = meeting_to s b h in refutes (members b m.0) (and_parts (all_nodes f m.0) (not (members b m.0)) (is.left m.0 m.1)).1 m.2)))
    (none_from (length f) (λ u. is_quorum f b u && not (is_meeting s u)) (λ u size h.
    let parts = and_parts (is_quorum f b u) (not (is_meeting s u)) h in
    let m = is.meets (members u) (quorum-to f b u parts.0) in
    refutes (is_meeting s u) parts.1 (meeting_from s u m.0 m.1 m.2)))

-- ---- sets of a kind, and minimal ones

pub is_kind_to : (k : Listed) (f : Fbas) (b s : Table) → length b ≡ length f → length s ≡ length f → is_kind k f b s ≡ true → Is k f (members b) (members s)
is_kind_to Quorum f b s same size h = quorum-to f b s h
is_kind_to Blocking f b s same size h = blocks_to f b s same size h
is_kind_to Smaller f b s same size h = absurd (false≢true h)

pub is_kind_from : (k : Listed) (f : Fbas) (b s : Table) → length b ≡ length f → length s ≡ length f → Is k f (members b) (members s) → is_kind k f b s ≡ true
is_kind_from Quorum f b s same size is = quorum-from f b s (same ∙ sym size) (sym size) is
is_kind_from Blocking f b s same size is = blocks_from f b s is
is_kind_from Smaller f b s same size is = absurd is

kind_left : (k : Listed) (f : Fbas) (b u : Nodes) → Is k f b u → u ⊆ all_nodes f
kind_left Quorum f b u is = low_nodes f b u is.left
kind_left Blocking f b u is = low_nodes f b u is.left
kind_left Smaller f b u is = absurd is

pub minimal_to : (k : Listed) (f : Fbas) (b s : Table) → length b ≡ length f → is_minimal k f b s ≡ true → (t : Nodes) → t ⊆ members s → Is k f (members b) t → members s ⊆ t
minimal_to k f b s same h t inside is_one =
    let u : Table = table_from 0 (length f) t in
    let is : members u ≡ t = table_of f t (kind_left k f (members b) t is_one) in
    elim (cases_Bool (is_within s u)) [
      | inl e ↦ subst (λ (w : Nodes). members s ⊆ w) is (within_to s u e)
      | inr e ↦
          let test : Table → Bool = λ w. is_within w s && (not (is_within s w) && is_kind k f b w) in
          let yes_inside = within_from u s (subst (λ (w : Nodes). w ⊆ members s) (sym is) inside) in
          let yes_kind = is_kind_from k f b u same (table_size f t) (subst (λ (w : Nodes). Is k f (members b) w) (sym is) is_one) in
          absurd (both_ways (test u) (none_of (length f) test h u (table_size f t)) (and_from (is_within u s) (not (is_within s u) && is_kind k f b u) yes_inside (and_from (not (is_within s u)) (is_kind k f b u) (not_from_false (is_within s u) e) yes_kind)))
    ]

pub minimal_from : (k : Listed) (f : Fbas) (b s : Table) → length b ≡ length f → ((t : Nodes) → t ⊆ members s → Is k f (members b) t → members s ⊆ t) → is_minimal k f b s ≡ true
minimal_from k f b s same least = none_from (length f) (λ w. is_within w s && (not (is_within s w) && is_kind k f b w)) (λ u size h.
    let parts = and_parts (is_within u s) (not (is_within s u) && is_kind k f b u) h in
    let more = and_parts (not (is_within s u)) (is_kind k f b u) parts.1 in
    refutes (is_within s u) more.0 (within_from s u (least (members u) (within_to u s parts.0) (is_kind_to k f b u same size more.1))))
