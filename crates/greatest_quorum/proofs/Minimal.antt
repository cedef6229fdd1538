-- A set from which no node can be taken out is minimal, for what only grows with a set.
use Rattle.std.proofs.Common.{◌≡◌, ℕ, ◌+◌, ◌<◌, ◌≤◌, inl, inr, false, not, ◌&&◌, ◌==◌, length, refl, sym, ◌∙◌, ap, subst, arith}
use Rattle.std.proofs.lemmas.Bool.{and_parts, and_from, or_left, or_right, or_cases, not_from_false, not-true, both_ways, false≢true, cases_Bool, cases_lt, eqb-true, eq-eqb}
use Rattle.fbas_model.specs.Nodes.{Nodes, Table, members, ◌∈◌, ◌⊆◌, ∅, only, ◌∪◌, ◌∖◌}
use Rattle.fbas_model.specs.Fbas.{Fbas, Quorum, MeetsQuorums, Blocks, BlocksMinimally, IsMinimalQuorum}
use Rattle.greatest_quorum.specs.Looks.{IsQuorumWith}
use Rattle.fbas_model.proofs.Sizes.{member_lt}

pub meets_wider : (f : Fbas) (b s t : Nodes) → s ⊆ t → MeetsQuorums f b s → MeetsQuorums f b t
meets_wider f b s t h m u q = let x = m u q in (x.0, h x.0 x.1, x.2)

-- a subset without v is inside the set without v
pub without : (s t : Nodes) (v : ℕ) → t ⊆ s → t v ≡ false → t ⊆ (s ∖ only v)
without s t v h out x at = and_from (s x) (not (x == v)) (h x at) (not_from_false (x == v) (elim (cases_Bool (x == v)) [
  | inl e ↦ absurd (both_ways (t v) out (subst (λ (y : ℕ). y ∈ t) (eqb-true x v e) at))
  | inr e ↦ e
]))

pub minus_wider : (s t : Nodes) (v : ℕ) → s ⊆ t → (s ∖ only v) ⊆ (t ∖ only v)
minus_wider s t v h x at = let p = and_parts (s x) (not (x == v)) at in and_from (t x) (not (x == v)) (h x p.0) p.1

pub minus_within : (s : Nodes) (v : ℕ) → (s ∖ only v) ⊆ s
minus_within s v x at = (and_parts (s x) (not (x == v)) at).0

pub minus_gone : (s : Nodes) (v k : ℕ) → k ∈ (s ∖ only v) → k ≡ v → ⊥
minus_gone s v k at e = both_ways (k == v) (not-true (k == v) (and_parts (s k) (not (k == v)) at).1) (eq-eqb k v e)

put_back : (s : Nodes) (v : ℕ) → s ⊆ ((s ∖ only v) ∪ only v)
put_back s v x at = elim (cases_Bool (x == v)) [
  | inl e ↦ or_right (s x && not (x == v)) (x == v) e
  | inr e ↦ or_left (s x && not (x == v)) (x == v) (and_from (s x) (not (x == v)) at (not_from_false (x == v) e))
]

back_within : (s : Nodes) (v : ℕ) → v ∈ s → ((s ∖ only v) ∪ only v) ⊆ s
back_within s v here x at = elim (or_cases (s x && not (x == v)) (x == v) at) [
  | inl e ↦ (and_parts (s x) (not (x == v)) e).0
  | inr e ↦ subst (λ (y : ℕ). y ∈ s) (sym (eqb-true x v e)) here
]

pub still_blocks : (f : Fbas) (b s t : Nodes) (v : ℕ) → t ≡ (s ∖ only v) → MeetsQuorums f b s → MeetsQuorums f b (t ∪ only v)
still_blocks f b s t v e h = subst (λ (u : Nodes). MeetsQuorums f b (u ∪ only v)) (sym e) (meets_wider f b s ((s ∖ only v) ∪ only v) (put_back s v) h)

-- where v is no member, the members up to it come before it
earlier : (now : Table) (v k : ℕ) → members now v ≡ false → k < v + 1 → k ∈ members now → k < v
earlier now v k out low at = elim (cases_lt k v) [
  | inl h ↦ h
  | inr h ↦ let same : k ≡ v = omega arith in absurd (both_ways (members now v) out (subst (λ (y : ℕ). y ∈ members now) same at))
]

-- the set blocks still, and does not without any one of its nodes below v
pub record Thinned (f : Fbas) (b : Nodes) (start now : Table) (scratch after : Table) (v : ℕ) : Type 0 where
  pub same_n : length now ≡ length start
  pub same_scratch : length after ≡ length scratch
  pub within : members now ⊆ members start
  pub meets : MeetsQuorums f b (members now)
  pub needed : (k : ℕ) → k < v → k ∈ members now → MeetsQuorums f b (members now ∖ only k) → ⊥

pub thinned_first : (f : Fbas) (b : Nodes) (start scratch : Table) → Blocks f b (members start) → Thinned f b start start scratch scratch 0
thinned_first f b start scratch h = record { same_n = refl; same_scratch = refl; within = λ x at. at; meets = h.meets; needed = λ k low. absurd (omega arith) }

-- v is not in the set
pub thinned_pass : {f : Fbas} {b : Nodes} {start now scratch after : Table} {v : ℕ} → Thinned f b start now scratch after v → members now v ≡ false → Thinned f b start now scratch after (v + 1)
thinned_pass {f} {b} {start} {now} {scratch} {after} {v} t out = record {
  same_n = t.same_n;
  same_scratch = t.same_scratch;
  within = t.within;
  meets = t.meets;
  needed = λ k low at. t.needed k (earlier now v k out low at) at;
}

-- the set blocks without v
pub thinned_take : {f : Fbas} {b : Nodes} {start now scratch after : Table} {v : ℕ} (next more : Table) → Thinned f b start now scratch after v → length next ≡ length now → members next ≡ (members now ∖ only v) → length more ≡ length after → MeetsQuorums f b (members next) → Thinned f b start next scratch more (v + 1)
thinned_take {f} {b} {start} {now} {scratch} {after} {v} next more t e m n meets =
    let sub : members next ⊆ members now = λ x at. minus_within (members now) v x (subst (λ (s : Nodes). x ∈ s) m at) in
    record {
      same_n = e ∙ t.same_n;
      same_scratch = n ∙ t.same_scratch;
      within = λ x at. t.within x (sub x at);
      meets = meets;
      needed = λ k low at h. elim (cases_lt k v) [
        | inl below ↦ t.needed k below (sub k at) (meets_wider f b (members next ∖ only k) (members now ∖ only k) (minus_wider (members next) (members now) k sub) h)
        | inr past ↦ minus_gone (members now) v k (subst (λ (s : Nodes). k ∈ s) m at) (omega arith)
      ];
    }

-- it does not, and v is put back
pub thinned_keep : {f : Fbas} {b : Nodes} {start now scratch after : Table} {v : ℕ} (taken next more : Table) → Thinned f b start now scratch after v → v ∈ members now → length taken ≡ length now → members taken ≡ (members now ∖ only v) → length more ≡ length after → (MeetsQuorums f b (members taken) → ⊥) → length next ≡ length taken → members next ≡ (members taken ∪ only v) → Thinned f b start next scratch more (v + 1)
thinned_keep {f} {b} {start} {now} {scratch} {after} {v} taken next more t here e m n fails d p =
    let whole : members next ≡ ((members now ∖ only v) ∪ only v) = p ∙ ap (λ (s : Nodes). s ∪ only v) m in
    let sub : members next ⊆ members now = λ x at. back_within (members now) v here x (subst (λ (s : Nodes). x ∈ s) whole at) in
    let sup : members now ⊆ members next = λ x at. subst (λ (s : Nodes). x ∈ s) (sym whole) (put_back (members now) v x at) in
    record {
      same_n = d ∙ (e ∙ t.same_n);
      same_scratch = n ∙ t.same_scratch;
      within = λ x at. t.within x (sub x at);
      meets = meets_wider f b (members now) (members next) sup t.meets;
      needed = λ k low at h. elim (cases_lt k v) [
        | inl below ↦ t.needed k below (sub k at) (meets_wider f b (members next ∖ only k) (members now ∖ only k) (minus_wider (members next) (members now) k sub) h)
        | inr past ↦
            let same : k ≡ v = omega arith in
            let gone : MeetsQuorums f b (members next ∖ only v) = subst (λ (y : ℕ). MeetsQuorums f b (members next ∖ only y)) same h in
            fails (subst (λ (s : Nodes). MeetsQuorums f b s) (sym m) (meets_wider f b (members next ∖ only v) (members now ∖ only v) (minus_wider (members next) (members now) v sub) gone))
      ];
    }

pub thinned_whole : (f : Fbas) (b : Nodes) (start now scratch after : Table) (n : ℕ) → length start ≤ n → Blocks f b (members start) → Thinned f b start now scratch after n → BlocksMinimally f b (members now)
thinned_whole f b start now scratch after n all h t = record {
  blocks = record { left = λ x at. h.left x (t.within x at); meets = t.meets };
  least = λ s sub blocks v at. elim (cases_Bool (s v)) [
    | inl e ↦ e
    | inr e ↦ absurd (t.needed v (let low = member_lt now v at in omega (arith, t.same_n)) at (meets_wider f b s (members now ∖ only v) (without (members now) s v sub e) blocks.meets))
  ];
}

-- the set is a quorum still, and has none inside without any one of its nodes below v, some of which are known to be needed
pub record Reduced (f : Fbas) (b : Nodes) (start now scratch after needed : Table) (v : ℕ) : Type 0 where
  pub same_n : length now ≡ length start
  pub same_scratch : length after ≡ length scratch
  pub same_needed : length needed ≡ length start
  pub within : members now ⊆ members start
  pub quorum : Quorum f b (members now)
  pub needs : (k : ℕ) → k < v → k ∈ members now → (w : Nodes) → Quorum f b w → w ⊆ (members now ∖ only k) → ⊥
  pub known : (k : ℕ) → k ∈ members needed → (k < v) × k ∈ members now

pub reduced_first : (f : Fbas) (b : Nodes) (start scratch needed : Table) → length needed ≡ length start → members needed ≡ ∅ → Quorum f b (members start) → Reduced f b start start scratch scratch needed 0
reduced_first f b start scratch needed e none q = record {
  same_n = refl;
  same_scratch = refl;
  same_needed = e;
  within = λ x at. at;
  quorum = q;
  needs = λ k low. absurd (omega arith);
  known = λ k at. absurd (false≢true (subst (λ (s : Nodes). k ∈ s) none at));
}

pub reduced_pass : (f : Fbas) (b : Nodes) (start now scratch after needed : Table) (v : ℕ) → Reduced f b start now scratch after needed v → members now v ≡ false → Reduced f b start now scratch after needed (v + 1)
reduced_pass f b start now scratch after needed v r out = record {
  same_n = r.same_n;
  same_scratch = r.same_scratch;
  same_needed = r.same_needed;
  within = r.within;
  quorum = r.quorum;
  needs = λ k low at. r.needs k (earlier now v k out low at) at;
  known = λ k at. let h = r.known k at in (omega (arith, h.0), h.1);
}

-- there is no quorum inside without v
pub reduced_keep : (f : Fbas) (b : Nodes) (start now taken scratch after more needed next : Table) (v : ℕ) → Reduced f b start now scratch after needed v → v ∈ members now → members taken ≡ (members now ∖ only v) → length more ≡ length scratch → length next ≡ length needed → members next ≡ (members needed ∪ only v) → ((w : Nodes) → Quorum f b w → w ⊆ members taken → members needed ⊆ w → ⊥) → Reduced f b start now scratch more next (v + 1)
reduced_keep f b start now taken scratch after more needed next v r here m n e p none = record {
  same_n = r.same_n;
  same_scratch = n;
  same_needed = e ∙ r.same_needed;
  within = r.within;
  quorum = r.quorum;
  needs = λ k low at w q h. elim (cases_lt k v) [
    | inl below ↦ r.needs k below at w q h
    | inr past ↦
        let same : k ≡ v = omega arith in
        let inside : w ⊆ members taken = λ x e. subst (λ (s : Nodes). x ∈ s) (sym m) (subst (λ (y : ℕ). x ∈ (members now ∖ only y)) same (h x e)) in
        none w q inside (λ x needs_x. held w q (λ y e. minus_within (members now) k y (h y e)) x needs_x)
  ];
  known = λ k at. elim (or_cases (members needed k) (k == v) (subst (λ (s : Nodes). k ∈ s) p at)) [
    | inl old ↦ let h = r.known k old in (omega (arith, h.0), h.1)
    | inr is ↦ let same = eqb-true k v is in (omega (arith, same), subst (λ (y : ℕ). y ∈ members now) (sym same) here)
  ];
}
  where
    held : (w : Nodes) → Quorum f b w → w ⊆ members now → members needed ⊆ w
    held w q sub k at = elim (cases_Bool (w k)) [
      | inl e ↦ e
      | inr e ↦ let h = r.known k at in absurd (r.needs k h.0 h.1 w q (without (members now) w k sub e))
    ]

-- the greatest quorum inside without v takes its place
pub reduced_take : (f : Fbas) (b : Nodes) (start now taken scratch after more needed : Table) (v : ℕ) → Reduced f b start now scratch after needed v → members taken ≡ (members now ∖ only v) → length more ≡ length scratch → length more ≡ length start → IsQuorumWith f b (members taken) (members needed) (members more) → Reduced f b start more scratch more needed (v + 1)
reduced_take f b start now taken scratch after more needed v r m n e found =
    let inside : members more ⊆ (members now ∖ only v) = λ x at. subst (λ (s : Nodes). x ∈ s) m (found.within x at) in
    let sub : members more ⊆ members now = λ x at. minus_within (members now) v x (inside x at) in
    record {
      same_n = e;
      same_scratch = n;
      same_needed = r.same_needed;
      within = λ x at. r.within x (sub x at);
      quorum = found.quorum;
      needs = λ k low at w q h. elim (cases_lt k v) [
        | inl below ↦ r.needs k below (sub k at) w q (λ x in_w. minus_wider (members more) (members now) k sub x (h x in_w))
        | inr past ↦ minus_gone (members now) v k (inside k at) (omega arith)
      ];
      known = λ k at. let h = r.known k at in (omega (arith, h.0), found.holds k at);
    }

pub reduced_whole : (f : Fbas) (b : Nodes) (start now scratch after needed : Table) (n : ℕ) → length start ≤ n → Reduced f b start now scratch after needed n → IsMinimalQuorum f b (members now)
reduced_whole f b start now scratch after needed n all r = record {
  quorum = r.quorum;
  least = λ w sub q v at. elim (cases_Bool (w v)) [
    | inl e ↦ e
    | inr e ↦ absurd (r.needs v (let low = member_lt now v at in omega (arith, r.same_n)) at w q (without (members now) w v sub e))
  ];
}
