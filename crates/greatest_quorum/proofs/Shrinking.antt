-- Taking out a node that has no slice inside what is left takes out no quorum, and leaves a slice to each node that does not mention it.
use Rattle.std.proofs.Common.{◌≡◌, ℕ, suc, ◌+◌, ◌*◌, ◌<◌, ◌&&◌, ◌||◌, ◌==◌, Bool, true, false, not, length, refl, sym, ◌∙◌, subst, ap, arith, inl, inr, ◌⊎◌, ◌↔◌, nat_lt, Some, None, slice_index_or}
use Rattle.std.proofs.lemmas.Bool.{false≢true, cases_Bool, or_cases, and_cases, and_from, and_parts, eqb-true, eq-eqb, not_from_false, not-true, both_ways, lt-ltb, false_from_ne_true, MatchBool-at_false, not-false, or_parts}
use Rattle.std.proofs.lemmas.Nat.{row_fits}
use Rattle.std.proofs.lemmas.Option.{get_or_from_slice_get}
use Rattle.std.specs.Bool.{MatchBool}
use Rattle.fbas_model.specs.Nodes.{Nodes, Table, members, ◌∈◌, ◌⊆◌, ◌∪◌, ◌∖◌, ∅, only, size, IsInhabited}
use Rattle.fbas_model.specs.Trees.{QuorumSet}
use Rattle.fbas_model.specs.QuorumSets.{mentioned}
use Rattle.fbas_model.specs.Fbas.{Fbas, HasSliceWithin, Quorum, all_nodes, IsGreatestQuorum, MeetsQuorums}
use Rattle.fbas_core.specs.Mentioning.{mentioning, stands_in}
use Rattle.greatest_quorum.specs.Looks.{AreWaiting, IsLook, IsKept, IsTaken, HasNoneWith, IsQuorumWith, IsSettled}
use Rattle.fbas_model.proofs.Slices.{meets_or_outside}
use Rattle.fbas_model.proofs.Unions.{slice_wider}
use Rattle.fbas_model.proofs.Mentioned.{choice_mentioned}
use Rattle.fbas_model.proofs.Closure.{size_le_length}
use Rattle.fbas_model.proofs.Sizes.{size_lt, member_lt, empty_or_not}

pub quorum_stays : (f : Fbas) (b w u : Nodes) (v : ℕ) → (HasSliceWithin f b v u → ⊥) → Quorum f b w → w ⊆ u → w ⊆ (u ∖ only v)
quorum_stays f b w u v stuck q h x at = and_from (u x) (not (x == v)) (h x at) (not_from_false (x == v) (elim (cases_Bool (x == v)) [
  | inl e ↦ absurd (stuck (slice_wider f b w u v h (q.slices v (subst (λ (y : ℕ). y ∈ w) (eqb-true x v e) at))))
  | inr e ↦ e
]))

pub without_within : (u : Nodes) (v : ℕ) → (u ∖ only v) ⊆ u
without_within u v x at = (and_parts (u x) (not (x == v)) at).0

pub without_gone : (u : Nodes) (v : ℕ) → v ∈ (u ∖ only v) → ⊥
without_gone u v at = both_ways (v == v) (not-true (v == v) (and_parts (u v) (not (v == v)) at).1) (eq-eqb v v refl)

pub quorum_outside : (f : Fbas) (b w u : Nodes) → Quorum f b w → w ⊆ u → w ⊆ (u ∖ b)
quorum_outside f b w u q h x at = and_from (u x) (not (b x)) (h x at) (and_parts (all_nodes f x) (not (b x)) (q.left x at)).1

-- a set outside b of which no node is stuck is empty or a quorum
pub settled_quorum : (f : Fbas) (b u : Nodes) (t : Table) → length t ≡ length f → members t ⊆ (u ∖ b) → ((v : ℕ) → v ∈ members t → HasSliceWithin f b v (members t)) → (members t ≡ ∅) ⊎ Quorum f b (members t)
settled_quorum f b u t e h slices = elim (empty_or_not t) [
  | inl none ↦ inl none
  | inr some ↦ inr (record {
    inhabited = some;
    left = λ x at. and_from (all_nodes f x) (not (b x)) (lt-ltb x (length f) (let low = member_lt t x at in omega arith)) (and_parts (u x) (not (b x)) (h x at)).1;
    slices = slices;
  })
]

-- ---- looks

-- what is left of a set once its nodes were looked at, all but those that have to be looked at again
pub record Shrinking (f : Fbas) (b : Nodes) (start now again : Table) : Type 0 where
  pub same_n : length now ≡ length start
  pub same_again : length again ≡ length start
  pub within : members now ⊆ (members start ∖ b)
  pub keeps : (w : Nodes) → Quorum f b w → w ⊆ members start → w ⊆ members now
  pub settled : (v : ℕ) → v ∈ members now → members again v ≡ false → HasSliceWithin f b v (members now)

pub shrinking_from : (f : Fbas) (b : Nodes) (start again : Table) → length again ≡ length start → AreWaiting f b (members start) (members again) → Shrinking f b start start again
shrinking_from f b start again e waiting = record {
  same_n = refl;
  same_again = e;
  within = waiting.left;
  keeps = λ w q h. h;
  settled = waiting.others;
}

-- at first all nodes are waiting that are not faulty
pub all_waiting : (f : Fbas) (b u cut again : Nodes) → cut ≡ (u ∖ b) → again ≡ cut → AreWaiting f b cut again
all_waiting f b u cut again m all = record {
  left = λ x at. and_from (cut x) (not (b x)) at (and_parts (u x) (not (b x)) (subst (λ (t : Nodes). x ∈ t) m at)).1;
  others = λ v at out. absurd (both_ways (again v) out (subst (λ (t : Nodes). v ∈ t) (sym all) at));
}

-- what is settled of those that are not faulty is settled of all
pub settled_with : (f : Fbas) (b u cut needed r : Nodes) (whole : Bool) → cut ≡ (u ∖ b) → IsSettled whole f b cut needed r → IsSettled whole f b u needed r
settled_with f b u cut needed r true m h =
    let g = h.0 in
    let greatest : IsGreatestQuorum f b u r = record {
      within = λ x at. subst (λ (t : Nodes). x ∈ t) m (and_parts (cut x) (not (b x)) (g.within x at)).0;
      quorum = g.quorum;
      greatest = λ w q sub. g.greatest w q (subst (λ (t : Nodes). w ⊆ t) (sym m) (quorum_outside f b w u q sub));
    } in
    (greatest, h.1)
settled_with f b u cut needed r false m h = record {
  some = h.some;
  none = λ w q sub holds. h.none w q (subst (λ (t : Nodes). w ⊆ t) (sym m) (quorum_outside f b w u q sub)) holds;
}

-- a slice of a node whose quorum set does not mention v has no v
slice_without : (f : Fbas) (b u : Nodes) (k v : ℕ) → (k == v) ≡ false → mentioning f v k ≡ false → HasSliceWithin f b k u → HasSliceWithin f b k (u ∖ only v)
slice_without f b u k v apart none h = (h.0, h.1, λ x at. and_from (u x) (not (x == v)) (h.2 x at) (not_from_false (x == v) (false_from_ne_true (x == v) (λ same. other x at (eqb-true x v same)))))
  where
    d : QuorumSet
    d = h.1.0

    stands : stands_in v (slice_index_or f k None) ≡ mentioned d v
    stands = ap (stands_in v) (get_or_from_slice_get f k (Some d) None h.1.1)

    other : (x : ℕ) → x ∈ (h.0 ∖ b) → x ≡ v → ⊥
    other x at same =
        let inside : x ∈ (only k ∪ h.1.2) = subst (λ (q : Nodes). x ∈ q) h.1.4 (and_parts (h.0 x) (not (b x)) at).0 in
        elim (or_cases (x == k) (h.1.2 x) inside) [
          | inl e ↦ both_ways (k == v) apart (eq-eqb k v (sym (eqb-true x k e) ∙ same))
          | inr e ↦ both_ways (mentioned d v) (sym stands ∙ none) (subst (λ (y : ℕ). mentioned d y ≡ true) same (choice_mentioned h.1.3 x e))
        ]

-- one node was looked at
module _ (f : Fbas) (b : Nodes) (start now next again later : Table) (v : ℕ) where
  stays : Shrinking f b start now again → length next ≡ length now → length later ≡ length again → IsKept f b v now next again later → Shrinking f b start next later
  stays s e n kept = record {
    same_n = e ∙ s.same_n;
    same_again = n ∙ s.same_again;
    within = λ x at. s.within x (subst (λ (t : Table). x ∈ members t) kept.same at);
    keeps = λ w q h. subst (λ (t : Table). w ⊆ members t) (sym kept.same) (s.keeps w q h);
    settled = λ k at out.
        let here : k ∈ members now = subst (λ (t : Table). k ∈ members t) kept.same at in
        subst (λ (t : Table). HasSliceWithin f b k (members t)) (sym kept.same) (elim (and_cases (members again k) (not (k == v)) (sym (ap (λ (t : Nodes). t k) kept.waiting) ∙ out)) [
          | inl e ↦ s.settled k here e
          | inr e ↦
              let same : k ≡ v = eqb-true k v (not-false (k == v) e) in
              subst (λ (y : ℕ). HasSliceWithin f b y (members now)) (sym same) (kept.has (subst (λ (y : ℕ). y ∈ members now) same here))
        ]);
  }

  left_within : IsTaken f b v now next again later → members next ⊆ members now
  left_within gone x at = without_within (members now) v x (subst (λ (t : Nodes). x ∈ t) gone.taken at)

  goes : Shrinking f b start now again → length next ≡ length now → length later ≡ length again → IsTaken f b v now next again later → Shrinking f b start next later
  goes s e n gone = record {
    same_n = e ∙ s.same_n;
    same_again = n ∙ s.same_again;
    within = λ x at. s.within x (left_within gone x at);
    keeps = λ w q h. subst (λ (t : Nodes). w ⊆ t) (sym gone.taken) (quorum_stays f b w (members now) v gone.stuck q (s.keeps w q h));
    settled = λ k at out.
        let parts = and_parts (members now k) (not (k == v)) (subst (λ (t : Nodes). k ∈ t) gone.taken at) in
        let apart : (k == v) ≡ false = not-true (k == v) parts.1 in
        let no = or_parts (members again k && not (k == v)) (mentioning f v k) (left_false ((members again k && not (k == v)) || mentioning f v k) (members next k) (sym (ap (λ (t : Nodes). t k) gone.waiting) ∙ out) at) in
        let done : members again k ≡ false = elim (and_cases (members again k) (not (k == v)) no.0) [ inl e ↦ e | inr e ↦ absurd (both_ways (not (k == v)) e parts.1) ] in
        subst (λ (t : Nodes). HasSliceWithin f b k t) (sym gone.taken) (slice_without f b (members now) k v apart no.1 (s.settled k parts.0 done));
  }
    where
      left_false : (a c : Bool) → (a && c) ≡ false → c ≡ true → a ≡ false
      left_false true c e here = absurd (both_ways c e here)
      left_false false c e here = refl

  pub shrinking_more : (taken : Bool) → Shrinking f b start now again → IsLook f b v now next again later taken → Shrinking f b start next later
  shrinking_more true s l = goes s l.same_n l.same_again l.look
  shrinking_more false s l = stays s l.same_n l.same_again l.look

  -- fewer nodes are left, or as many, of which fewer are waiting
  pub fewer_left : (taken : Bool) → length again ≡ length start → IsLook f b v now next again later taken → v ∈ members again → size next * suc (length start) + size later < size now * suc (length start) + size again
  fewer_left true same l waits =
      let gone = l.look in
      let fewer = size_lt next now v l.same_n (left_within gone) gone.here (λ at. without_gone (members now) v (subst (λ (t : Nodes). v ∈ t) gone.taken at)) in
      let row = row_fits (size next) (suc (length start)) (size now) (suc (length start)) fewer (omega arith) in
      let few = size_le_length later in
      omega (arith, row, few, l.same_again, same)
  fewer_left false same_again l waits =
      let kept = l.look in
      let left : members later ⊆ members again = λ x at. without_within (members again) v x (subst (λ (t : Nodes). x ∈ t) kept.waiting at) in
      let fewer = size_lt later again v l.same_again left waits (λ at. without_gone (members again) v (subst (λ (t : Nodes). v ∈ t) kept.waiting at)) in
      let same : size next * suc (length start) ≡ size now * suc (length start) = ap {B = ℕ} (λ (t : Table). size t * suc (length start)) kept.same in
      omega (arith, fewer, same)

  -- the needed nodes are left, unless the node was one of them and was taken out
  pub needed_more : (needed : Nodes) (taken : Bool) → IsLook f b v now next again later taken → (taken && needed v) ≡ false → needed ⊆ members now → needed ⊆ members next
  needed_more needed true l out h x at = subst (λ (t : Nodes). x ∈ t) (sym l.look.taken) (and_from (members now x) (not (x == v)) (h x at) (not_from_false (x == v) (false_from_ne_true (x == v) (λ same. both_ways (needed v) out (subst (λ (y : ℕ). y ∈ needed) (eqb-true x v same) at)))))
  needed_more needed false l out h x at = subst (λ (t : Table). x ∈ members t) (sym l.look.same) (h x at)

  -- and then no quorum holds them all
  pub none_left : (needed : Nodes) (taken : Bool) → Shrinking f b start now again → IsLook f b v now next again later taken → (taken && needed v) ≡ true → HasNoneWith f b (members start) needed
  none_left needed true s l here = record {
    some = (v, here);
    none = λ w q sub holds.
        let after = shrinking_more true s l in
        without_gone (members now) v (subst (λ (t : Nodes). v ∈ t) l.look.taken (after.keeps w q sub v (holds v here)));
  }
  none_left needed false s l here = absurd (false≢true here)

-- a needed node is no member from the beginning
pub none_first : (f : Fbas) (b : Nodes) (start cut needed : Table) → members cut ≡ (members start ∖ b) → (members needed ⊆ members cut → ⊥) → HasNoneWith f b (members start) (members needed)
none_first f b start cut needed m fails = record {
  some = elim (empty_or_not needed) [
    | inl none ↦ absurd (fails (λ x at. absurd (false≢true (subst (λ (t : Nodes). x ∈ t) none at))))
    | inr some ↦ some
  ];
  none = λ w q sub holds. fails (λ x at. subst (λ (t : Nodes). x ∈ t) (sym m) (quorum_outside f b w (members start) q sub x (holds x at)));
}

-- where none is waiting, the greatest quorum is left
pub shrunk : (f : Fbas) (b : Nodes) (start now again : Table) → length start ≡ length f → members again ≡ ∅ → Shrinking f b start now again → IsGreatestQuorum f b (members start) (members now)
shrunk f b start now again e none s = record {
  within = s.within;
  quorum = settled_quorum f b (members start) now (s.same_n ∙ e) s.within (λ v at. s.settled v at (ap (λ (t : Nodes). t v) none));
  greatest = s.keeps;
}

-- where no node is needed, that is what is left
pub shrunk_all : (f : Fbas) (b u r : Nodes) (needed : Table) (whole : Bool) → members needed ≡ ∅ → MatchBool whole (IsGreatestQuorum f b u r × members needed ⊆ r) (HasNoneWith f b u (members needed)) → IsGreatestQuorum f b u r
shrunk_all f b u r needed true none h = h.0
shrunk_all f b u r needed false none h = absurd (false≢true (subst (λ (t : Nodes). h.some.0 ∈ t) none h.some.1))

-- where the greatest quorum outside s is empty, s meets every quorum
pub blocks_when_none : (f : Fbas) (b : Nodes) (s : Table) (r : Nodes) → IsGreatestQuorum f b (all_nodes f ∖ members s) r → r ≡ ∅ → MeetsQuorums f b (members s)
blocks_when_none f b s r g none u q = elim (meets_or_outside s u) [
  | inl m ↦ m
  | inr o ↦
      let x = q.inhabited.0 in
      let x_in = g.greatest u q (λ v at. and_from (all_nodes f v) (not (members s v)) (and_parts (all_nodes f v) (not (b v)) (q.left v at)).0 (o v at)) x q.inhabited.1 in
      absurd (false≢true (subst (λ (t : Nodes). x ∈ t) none x_in))
]

-- where it is not, it is a quorum that s does not meet
pub none_when_blocks : (f : Fbas) (b : Nodes) (s : Table) (r : Nodes) → IsGreatestQuorum f b (all_nodes f ∖ members s) r → IsInhabited r → MeetsQuorums f b (members s) → ⊥
none_when_blocks f b s r g some h = elim g.quorum [
  | inl none ↦ false≢true (subst (λ (t : Nodes). some.0 ∈ t) none some.1)
  | inr q ↦
      let m = h r q in
      let both = and_parts ((all_nodes f ∖ members s) m.0) (not (b m.0)) (g.within m.0 m.2) in
      both_ways (members s m.0) (not-true (members s m.0) (and_parts (all_nodes f m.0) (not (members s m.0)) both.0).1) m.1
]

pub blocks_iff : (f : Fbas) (b : Nodes) (s r : Table) (empty : Bool) → MatchBool empty (members r ≡ ∅) (IsInhabited (members r)) → IsGreatestQuorum f b (all_nodes f ∖ members s) (members r) → (empty ≡ true) ↔ MeetsQuorums f b (members s)
blocks_iff f b s r true e g = (λ t. blocks_when_none f b s (members r) g e, λ h. refl)
blocks_iff f b s r false e g = (λ t. absurd (false≢true t), λ h. absurd (none_when_blocks f b s (members r) g e h))

-- the greatest quorum inside a set, where it has a node
pub quorum_where_some : (f : Fbas) (b u : Nodes) (r : Table) (empty : Bool) → MatchBool empty (members r ≡ ∅) (IsInhabited (members r)) → empty ≡ false → IsGreatestQuorum f b u (members r) → Quorum f b (members r)
quorum_where_some f b u r empty e h g =
    let some = MatchBool-at_false (members r ≡ ∅) (IsInhabited (members r)) h e in
    elim g.quorum [ inl none ↦ absurd (false≢true (subst (λ (t : Nodes). some.0 ∈ t) none some.1)) | inr q ↦ q ]

-- the greatest quorum with the needed nodes is one, or there is none
pub with_or_none : (f : Fbas) (b u needed : Nodes) (r : Table) (empty : Bool) → MatchBool empty (members r ≡ ∅) (IsInhabited (members r)) → IsGreatestQuorum f b u (members r) → needed ⊆ members r → MatchBool (not empty) (IsQuorumWith f b u needed (members r)) ((w : Nodes) → Quorum f b w → w ⊆ u → needed ⊆ w → ⊥)
with_or_none f b u needed r true none g holds = λ w q sub has. false≢true (subst (λ (t : Nodes). q.inhabited.0 ∈ t) none (g.greatest w q sub q.inhabited.0 q.inhabited.1))
with_or_none f b u needed r false some g holds = record {
  quorum = quorum_where_some f b u r false some refl g;
  within = λ x at. (and_parts (u x) (not (b x)) (g.within x at)).0;
  holds = holds;
}

-- a set that meets every quorum with v in it does so without v where no quorum outside it holds v
pub blocks_without_iff : (f : Fbas) (b : Nodes) (s : Table) (v : ℕ) (u needed r : Nodes) (some : Bool) → u ≡ (all_nodes f ∖ members s) → needed ≡ only v → MeetsQuorums f b (members s ∪ only v) → MatchBool some (IsQuorumWith f b u needed r) ((w : Nodes) → Quorum f b w → w ⊆ u → needed ⊆ w → ⊥) → (not some ≡ true) ↔ MeetsQuorums f b (members s)
blocks_without_iff f b s v u needed r true out one with_v found = (
  λ t. absurd (false≢true t),
  λ h.
      let m = h r found.quorum in
      let outside = and_parts (all_nodes f m.0) (not (members s m.0)) (subst (λ (t : Nodes). m.0 ∈ t) out (found.within m.0 m.2)) in
      absurd (both_ways (members s m.0) (not-true (members s m.0) outside.1) m.1),
)
blocks_without_iff f b s v u needed r false out one with_v none = (
  λ t w q. elim (meets_or_outside s w) [
    | inl m ↦ m
    | inr o ↦
        let m = with_v w q in
        absurd (elim (or_cases (members s m.0) (m.0 == v) m.1) [
          | inl e ↦ both_ways (members s m.0) (not-true (members s m.0) (o m.0 m.2)) e
          | inr e ↦ none w q
              (λ x at. subst (λ (t : Nodes). x ∈ t) (sym out) (and_from (all_nodes f x) (not (members s x)) (and_parts (all_nodes f x) (not (b x)) (q.left x at)).0 (o x at)))
              (λ x at. let same : x ≡ m.0 = eqb-true x v (subst (λ (t : Nodes). x ∈ t) one at) ∙ sym (eqb-true m.0 v e) in subst (λ (y : ℕ). y ∈ w) (sym same) m.2)
        ])
  ],
  λ h. refl,
)

pub cut_all : (f : Fbas) (n : ℕ) (s t u : Nodes) → n ≡ length f → t ≡ (λ v. nat_lt v n) → u ≡ (t ∖ s) → u ≡ (all_nodes f ∖ s)
cut_all f n s t u e a m = m ∙ ap (λ (t : Nodes). t ∖ s) (a ∙ ap {B = Nodes} (λ n v. nat_lt v n) e)
