-- Sets of groups from which one after another is taken out, if the others still block.
use Rattle.std.proofs.Common.{◌≡◌, ℕ, suc, ◌+◌, ◌≤◌, ◌<◌, true, false, not, ◌&&◌, List, [], ◌∷◌, length, refl, sym, ap, ◌∙◌, subst, arith, inl, inr, ⊎_elim}
use Rattle.std.specs.Prelude.{All}
use Rattle.std.proofs.lemmas.Bool.{cases_Bool, cases_lt, and_parts, and_from, or_cases, or_left, or_right, both_ways, false≢true, eqb-true, eq-eqb, lt-ltb}
use Rattle.fbas_model.specs.Nodes.{Nodes, Table, members, ◌∈◌, ◌⊆◌, only, ◌∪◌, ◌∖◌}
use Rattle.fbas_model.specs.Fbas.{Fbas, MeetsQuorums, all_nodes}
use Rattle.fbas_model.proofs.Sizes.{member_lt}
use Rattle.group_journal.specs.Groups.{joined, GroupsBlock, IsLeastBlock}
use Rattle.group_journal.proofs.Touched.{joined_below}

-- more marks have more members
joined_more : (groups : List Table) (s t : Table) → members s ⊆ members t → joined groups s ⊆ joined groups t
joined_more [] s t inside v here = absurd (false≢true here)
joined_more (g ∷ groups) [] t inside v here = absurd (false≢true here)
joined_more (g ∷ groups) (true ∷ s) [] inside v here = absurd (false≢true (inside 0 refl))
joined_more (g ∷ groups) (false ∷ s) [] inside v here = joined_none groups s (λ i. inside (suc i)) v here
  where
    joined_none : (groups : List Table) (s : Table) → ((i : ℕ) → members s i ≡ true → false ≡ true) → (v : ℕ) → joined groups s v ≡ true → false ≡ true
    joined_none [] s none v here = here
    joined_none (g ∷ groups) [] none v here = here
    joined_none (g ∷ groups) (true ∷ s) none v here = none 0 refl
    joined_none (g ∷ groups) (false ∷ s) none v here = joined_none groups s (λ i. none (suc i)) v here
joined_more (g ∷ groups) (true ∷ s) (true ∷ t) inside v here =
    ⊎_elim (λ first. or_left (members g v) (joined groups t v) first) (λ rest. or_right (members g v) (joined groups t v) (joined_more groups s t (λ i. inside (suc i)) v rest)) (or_cases (members g v) (joined groups s v) here)
joined_more (g ∷ groups) (true ∷ s) (false ∷ t) inside v here = absurd (false≢true (inside 0 refl))
joined_more (g ∷ groups) (false ∷ s) (true ∷ t) inside v here = or_right (members g v) (joined groups t v) (joined_more groups s t (λ i. inside (suc i)) v here)
joined_more (g ∷ groups) (false ∷ s) (false ∷ t) inside v here = joined_more groups s t (λ i. inside (suc i)) v here

-- groups block where their members meet every quorum
pub blocks_where_meets : (f : Fbas) (b : Nodes) (groups : List Table) (s : Table) → All (λ (g : Table). length g ≡ length f) groups → MeetsQuorums f b (joined groups s) → GroupsBlock f b groups s
blocks_where_meets f b groups s sized meets = record {
  left = λ v here.
      let parts = and_parts (joined groups s v) (not (b v)) here in
      and_from (all_nodes f v) (not (b v)) (lt-ltb v (length f) (joined_below (length f) groups s sized v parts.0)) parts.1;
  meets = λ u q.
      let m = meets u q in
      (m.0, and_from (joined groups s m.0) (not (b m.0)) m.1 (and_parts (all_nodes f m.0) (not (b m.0)) (q.left m.0 m.2)).1, m.2);
}

pub meets_where_blocks : (f : Fbas) (b : Nodes) (groups : List Table) (s : Table) → GroupsBlock f b groups s → MeetsQuorums f b (joined groups s)
meets_where_blocks f b groups s is u q = let m = is.meets u q in (m.0, (and_parts (joined groups s m.0) (not (b m.0)) m.1).0, m.2)

meets_more : (f : Fbas) (b : Nodes) (groups : List Table) (s t : Table) → members s ⊆ members t → MeetsQuorums f b (joined groups s) → MeetsQuorums f b (joined groups t)
meets_more f b groups s t inside meets u q = let m = meets u q in (m.0, joined_more groups s t inside m.0 m.1, m.2)

-- the groups below `at` were tried
pub record Thinned (f : Fbas) (b : Nodes) (groups : List Table) (start now : Table) (at : ℕ) : Type 0 where
  pub places : length now ≡ length start
  pub within : members now ⊆ members start
  pub blocks : GroupsBlock f b groups now
  pub tried : (i : ℕ) → i < at → i ∈ members now → (other : Table) → members other ⊆ members now → GroupsBlock f b groups other → i ∈ members other

pub thinned_first : (f : Fbas) (b : Nodes) (groups : List Table) (start : Table) → GroupsBlock f b groups start → Thinned f b groups start start 0
thinned_first f b groups start is = record { places = refl; within = λ i h. h; blocks = is; tried = λ i low. absurd (omega (arith, low)) }

pub thinned_pass : (f : Fbas) (b : Nodes) (groups : List Table) (start now : Table) (at : ℕ) → Thinned f b groups start now at → members now at ≡ false → Thinned f b groups start now (at + 1)
thinned_pass f b groups start now at t out = record {
  places = t.places;
  within = t.within;
  blocks = t.blocks;
  tried = λ i low here. elim (cases_lt i at) [
    | inl before ↦ t.tried i before here
    | inr past ↦ let same : at ≡ i = omega (arith, low, past) in absurd (both_ways (members now at) out (subst (λ k. k ∈ members now) (sym same) here))
  ];
}

pub thinned_take : (f : Fbas) (b : Nodes) (groups : List Table) (start now next : Table) (at : ℕ) → All (λ (g : Table). length g ≡ length f) groups → Thinned f b groups start now at → length next ≡ length now → members next ≡ (members now ∖ only at)
    → MeetsQuorums f b (joined groups next) → Thinned f b groups start next (at + 1)
thinned_take f b groups start now next at sized t same is meets =
    let inside : members next ⊆ members now = λ i h. (and_parts (members now i) (not (only at i)) (subst (λ (s : Nodes). i ∈ s) is h)).0 in record {
      places = same ∙ t.places;
      within = λ i h. t.within i (inside i h);
      blocks = blocks_where_meets f b groups next sized meets;
      tried = λ i low here other less blocks. elim (cases_lt i at) [
        | inl before ↦ t.tried i before (inside i here) other (λ k h. inside k (less k h)) blocks
        | inr past ↦
            let e : at ≡ i = omega (arith, low, past) in
            let gone = (and_parts (members now i) (not (only at i)) (subst (λ (s : Nodes). i ∈ s) is here)).1 in
            absurd (both_ways (not (only at i)) (ap not (eq-eqb i at (sym e))) gone)
      ];
    }

pub thinned_keep : (f : Fbas) (b : Nodes) (groups : List Table) (start now taken next : Table) (at : ℕ) → Thinned f b groups start now at → at ∈ members now → length taken ≡ length now → members taken ≡ (members now ∖ only at)
    → length next ≡ length taken → members next ≡ (members taken ∪ only at) → (MeetsQuorums f b (joined groups taken) → ⊥) → Thinned f b groups start next (at + 1)
thinned_keep f b groups start now taken next at t here_at same is same_next is_next stuck =
    let back : members next ⊆ members now = λ i h. ⊎_elim
    (λ one. (and_parts (members now i) (not (only at i)) (subst (λ (s : Nodes). i ∈ s) is one)).0)
    (λ two. subst (λ k. k ∈ members now) (sym (eqb-true i at two)) here_at)
    (or_cases (members taken i) (only at i) (subst (λ (s : Nodes). i ∈ s) is_next h)) in
    let forth : members now ⊆ members next = λ i h. subst (λ (s : Nodes). i ∈ s) (sym is_next) (elim (cases_Bool (only at i)) [
      | inl e ↦ or_right (members taken i) (only at i) e
      | inr e ↦ or_left (members taken i) (only at i) (subst (λ (s : Nodes). i ∈ s) (sym is) (and_from (members now i) (not (only at i)) h (ap not e)))
    ]) in record {
      places = same_next ∙ same ∙ t.places;
      within = λ i h. t.within i (back i h);
      blocks = record {
        left = λ v h. let parts = and_parts (joined groups next v) (not (b v)) h in t.blocks.left v (and_from (joined groups now v) (not (b v)) (joined_more groups next now back v parts.0) parts.1);
        meets = λ u q. let m = t.blocks.meets u q in let parts = and_parts (joined groups now m.0) (not (b m.0)) m.1 in (m.0, and_from (joined groups next m.0) (not (b m.0)) (joined_more groups now next forth m.0 parts.0) parts.1, m.2);
      };
      tried = λ i low here other less blocks. elim (cases_lt i at) [
        | inl before ↦ t.tried i before (back i here) other (λ k h. back k (less k h)) blocks
        | inr past ↦
            let e : at ≡ i = omega (arith, low, past) in
            subst (λ k. k ∈ members other) e (elim (cases_Bool (members other at)) [
              | inl there ↦ there
              | inr out ↦ absurd (stuck (meets_more f b groups other taken (λ k h. subst (λ (s : Nodes). k ∈ s) (sym is) (and_from (members now k) (not (only at k)) (back k (less k h)) (apart other k h out))) (meets_where_blocks f b groups other blocks)))
            ])
      ];
    }
  where
    apart : (other : Table) (k : ℕ) → k ∈ members other → members other at ≡ false → not (only at k) ≡ true
    apart other k h out = elim (cases_Bool (only at k)) [
      | inl e ↦ absurd (both_ways (members other at) out (subst (λ j. j ∈ members other) (eqb-true k at e) h))
      | inr e ↦ ap not e
    ]

pub thinned_whole : (f : Fbas) (b : Nodes) (groups : List Table) (start now : Table) (n : ℕ) → length start ≤ n → Thinned f b groups start now n → IsLeastBlock f b groups now
thinned_whole f b groups start now n all t = record {
  blocks = t.blocks;
  least = λ other places less blocks i here. t.tried i (let low = member_lt now i here in omega (arith, all, low, t.places)) here other less blocks;
}
