-- A closure grows: what is reached lies in each closed set with the node, until all of it is visited and it is closed itself.
use Rattle.std.proofs.Common.{◌≡◌, ℕ, ◌-◌, ◌<◌, true, not, ◌&&◌, ◌||◌, ◌==◌, length, refl, sym, ◌∙◌, ap, subst, arith, Some, None, slice_get, ◌⊎◌, inl, inr}
use Rattle.std.proofs.lemmas.Bool.{cases_Bool, both_ways, false≢true, or_cases, or_left, or_right, and_parts, and_from, not-true, not_from_false, eq-eqb, eqb-true}
use Rattle.fbas_model.specs.Nodes.{Nodes, ◌∈◌, ◌⊆◌, Table, members, size, ∅, only, ◌∪◌, ◌∖◌}
use Rattle.fbas_model.specs.Trees.{QuorumSet}
use Rattle.fbas_model.specs.QuorumSets.{mentioned}
use Rattle.fbas_model.specs.Fbas.{Fbas, HasQuorumSet, IsClosed, IsClosure}
use Rattle.fbas_model.proofs.Sizes.{member_lt, size_put}
use Rattle.fbas_model.proofs.Closure.{size_le_length}

pub record Closing (f : Fbas) (v : ℕ) (reached visited : Table) : Type 0 where
  pub same_n : length reached ≡ length f
  pub same_visited : length visited ≡ length f
  pub has : v ∈ members reached
  pub closed : (w : ℕ) (d : QuorumSet) → w ∈ members visited → HasQuorumSet f w d → mentioned d ⊆ members reached
  pub least : (other : Nodes) → v ∈ other → IsClosed f other → members reached ⊆ other

-- at first v alone is reached, and none is visited
pub closing_first : (f : Fbas) (v : ℕ) (none first : Table) → length none ≡ length f → members none ≡ ∅ → length first ≡ length none → members first ≡ members none ∪ only v → Closing f v first none
closing_first f v none first n empty same m =
    let here : (x : ℕ) → members first x ≡ (x == v) = λ x. ap (λ (s : Nodes). s x) m ∙ ap (λ (s : Nodes). s x || (x == v)) empty in
    record {
      same_n = same ∙ n;
      same_visited = n;
      has = here v ∙ eq-eqb v v refl;
      closed = λ w d at has. absurd (false≢true (sym (ap (λ (s : Nodes). s w) empty) ∙ at));
      least = λ other v_in closed x at. subst (λ (y : ℕ). y ∈ other) (sym (eqb-true x v (sym (here x) ∙ at))) v_in;
    }

-- a node that is reached is visited
module _ (f : Fbas) (v : ℕ) (reached visited next : Table) (node : ℕ) (c : Closing f v reached visited) (waits : node ∈ (members reached ∖ members visited)) where
  new : (node ∈ members reached) × (not (members visited node) ≡ true)
  new = and_parts (members reached node) (not (members visited node)) waits

  pub node_low : node < length f
  node_low = subst (λ (n : ℕ). node < n) c.same_n (member_lt reached node new.0)

  module _ (n : length next ≡ length visited) (m : members next ≡ members visited ∪ only node) where
    -- fewer are left to visit
    pub fewer : length f - size next < length f - size visited
    fewer =
        let low : node < length visited = subst (λ (k : ℕ). node < k) (sym c.same_visited) node_low in
        let one_more = size_put visited next node n low (not-true (members visited node) new.1) m in
        omega (arith, one_more, size_le_length next, c.same_visited, n)

    was : (w : ℕ) → w ∈ members next → (w ∈ members visited ⊎ (w ≡ node))
    was w at = elim (or_cases (members visited w) (w == node) (sym (ap (λ (s : Nodes). s w) m) ∙ at)) [ inl e ↦ inl e | inr e ↦ inr (eqb-true w node e) ]

    -- one without a quorum set mentions nothing
    pub closing_skip : slice_get f node ≡ Some None → Closing f v reached next
    closing_skip none = record {
      same_n = c.same_n;
      same_visited = n ∙ c.same_visited;
      has = c.has;
      closed = λ w d at has. elim (was w at) [
        | inl old ↦ c.closed w d old has
        | inr here ↦ let at_node = subst (λ (y : ℕ). slice_get f y ≡ Some (Some d)) here has in absurd cc
      ];
      least = c.least;
    }

    -- what its quorum set mentions is reached
    pub closing_next : (d : QuorumSet) (more : Table) → HasQuorumSet f node d → length more ≡ length reached → members more ≡ members reached ∪ mentioned d → Closing f v more next
    closing_next d more has_d k r =
        let now : (x : ℕ) → members more x ≡ (members reached x || mentioned d x) = λ x. ap (λ (s : Nodes). s x) r in
        let kept : members reached ⊆ members more = λ x at. now x ∙ or_left (members reached x) (mentioned d x) at in
        let gained : mentioned d ⊆ members more = λ x at. now x ∙ or_right (members reached x) (mentioned d x) at in
        record {
          same_n = k ∙ c.same_n;
          same_visited = n ∙ c.same_visited;
          has = kept v c.has;
          closed = λ w e at has. elim (was w at) [
            | inl old ↦ λ x in_e. kept x (c.closed w e old has x in_e)
            | inr here ↦
                let at_node = subst (λ (y : ℕ). slice_get f y ≡ Some (Some e)) here has in
                let same : d ≡ e = cc in
                subst (λ (q : QuorumSet). mentioned q ⊆ members more) same gained
          ];
          least = λ other v_in closed x at. elim (or_cases (members reached x) (mentioned d x) (sym (now x) ∙ at)) [
            | inl e ↦ c.least other v_in closed x e
            | inr e ↦ closed node d (c.least other v_in closed node new.0) has_d x e
          ];
        }

-- where all that is reached is visited the closure is reached
pub closing_last : (f : Fbas) (v : ℕ) (reached visited : Table) → Closing f v reached visited → (members reached ∖ members visited) ≡ ∅ → IsClosure f v (members reached)
closing_last f v reached visited c none = record {
  has = c.has;
  closed = λ w d at has. c.closed w d (seen w at) has;
  least = c.least;
}
  where
    seen : (w : ℕ) → w ∈ members reached → w ∈ members visited
    seen w at = elim (cases_Bool (members visited w)) [
      | inl e ↦ e
      | inr e ↦ absurd (both_ways (members reached w && not (members visited w)) (ap (λ (s : Nodes). s w) none) (and_from (members reached w) (not (members visited w)) at (not_from_false (members visited w) e)))
    ]
