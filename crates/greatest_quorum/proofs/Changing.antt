-- The greatest quorum after the change of one node's quorum set.
use Rattle.std.proofs.Common.{◌≡◌, ℕ, false, not, length, sym, ap, ◌∙◌, subst, inl, inr, ⊎_elim}
use Rattle.std.specs.Prelude.{nat_lt, ◌==◌}
use Rattle.std.proofs.lemmas.Bool.{eqb-true, eq-eqb, and_parts, and_from, not_from_false, cases_Bool, both_ways, false≢true, or_left, or_right, or_cases}
use Rattle.fbas_model.specs.Nodes.{Nodes, Table, members, only, ◌∈◌, ◌⊆◌, ◌∪◌, ◌∖◌, ∅}
use Rattle.fbas_model.specs.Fbas.{Fbas, HasSliceWithin, Quorum, IsGreatestQuorum, all_nodes}
use Rattle.fbas_model.proofs.Unions.{slice_wider}
use Rattle.greatest_quorum.specs.Changes.{IsChangedAt}
use Rattle.greatest_quorum.specs.Looks.{AreWaiting}

-- a set with a node is a quorum, where it is the greatest
is_quorum : (f : Fbas) (b g : Nodes) (v : ℕ) → IsGreatestQuorum f b (all_nodes f) g → v ∈ g → Quorum f b g
is_quorum f b g v greatest here = ⊎_elim (λ (none : g ≡ ∅). absurd (false≢true (sym (ap (λ (s : Nodes). s v) none) ∙ here))) (λ q. q) greatest.quorum

-- another node than the changed one has the slices that it had
back : (f then : Fbas) (v x : ℕ) (b u : Nodes) → IsChangedAt f then v → (x ≡ v → ⊥) → HasSliceWithin then b x u → HasSliceWithin f b x u
back f then v x b u is other h = (h.0, (h.1.0, sym (is.others x other) ∙ h.1.1, h.1.2, h.1.3, h.1.4), h.2)

forth : (f then : Fbas) (v x : ℕ) (b u : Nodes) → IsChangedAt f then v → (x ≡ v → ⊥) → HasSliceWithin f b x u → HasSliceWithin then b x u
forth f then v x b u is other h = (h.0, (h.1.0, is.others x other ∙ h.1.1, h.1.2, h.1.3, h.1.4), h.2)

same_nodes : (f then : Fbas) (v : ℕ) → IsChangedAt f then v → all_nodes f ≡ all_nodes then
same_nodes f then v is = ap (λ (n : ℕ). λ (w : ℕ). nat_lt w n) (sym is.places)

-- a quorum of the changed system lies inside the old greatest quorum that holds the node
inside : (f then : Fbas) (v : ℕ) (b g w : Nodes) → IsChangedAt f then v → IsGreatestQuorum f b (all_nodes f) g → v ∈ g → Quorum then b w → w ⊆ g
inside f then v b g w is greatest here q =
    let old = is_quorum f b g v greatest here in
    let both : Quorum f b (w ∪ g) = record {
      inhabited = (v, or_right (w v) (g v) here);
      left = λ x h. ⊎_elim (λ one. subst (λ (s : Nodes). x ∈ (s ∖ b)) (sym (same_nodes f then v is)) (q.left x one)) (λ two. old.left x two) (or_cases (w x) (g x) h);
      slices = λ x h. elim (cases_Bool (g x)) [
        | inl in_g ↦ slice_wider f b g (w ∪ g) x (λ y in_y. or_right (w y) (g y) in_y) (old.slices x in_g)
        | inr out ↦
            let in_w : x ∈ w = ⊎_elim (λ one. one) (λ two. absurd (both_ways (g x) out two)) (or_cases (w x) (g x) h) in
            let other : x ≡ v → ⊥ = λ e. both_ways (g x) out (subst (λ (y : ℕ). y ∈ g) (sym e) here) in
            slice_wider f b w (w ∪ g) x (λ y in_y. or_left (w y) (g y) in_y) (back f then v x b w is other (q.slices x in_w))
      ];
    } in
    λ x h. greatest.greatest (w ∪ g) both (λ y in_y. (and_parts (all_nodes f y) (not (b y)) (both.left y in_y)).0) x (or_left (w x) (g x) h)

pub change_inside : (f then : Fbas) (v : ℕ) (b g r : Nodes) → IsChangedAt f then v → IsGreatestQuorum f b (all_nodes f) g → v ∈ g → IsGreatestQuorum then b g r → IsGreatestQuorum then b (all_nodes then) r
change_inside f then v b g r is greatest here new = record {
  within = λ x h.
      let parts = and_parts (g x) (not (b x)) (new.within x h) in
      subst (λ (s : Nodes). x ∈ (s ∖ b)) (same_nodes f then v is) (greatest.within x parts.0);
  quorum = new.quorum;
  greatest = λ w q low. new.greatest w q (inside f then v b g w is greatest here q);
}

pub change_kept : (f then : Fbas) (v : ℕ) (b g : Nodes) → IsChangedAt f then v → IsGreatestQuorum f b (all_nodes f) g → v ∈ g → HasSliceWithin then b v g → IsGreatestQuorum then b (all_nodes then) g
change_kept f then v b g is greatest here slice =
    let old = is_quorum f b g v greatest here in
    let q : Quorum then b g = record {
      inhabited = old.inhabited;
      left = λ x h. subst (λ (s : Nodes). x ∈ (s ∖ b)) (same_nodes f then v is) (old.left x h);
      slices = λ x h. elim (cases_Bool (x == v)) [
        | inl same ↦ subst (λ (y : ℕ). HasSliceWithin then b y g) (sym (eqb-true x v same)) slice
        | inr other ↦ forth f then v x b g is (λ e. both_ways (x == v) other (eq-eqb x v e)) (old.slices x h)
      ];
    } in record {
      within = λ x h. subst (λ (s : Nodes). x ∈ (s ∖ b)) (same_nodes f then v is) (greatest.within x h);
      quorum = inr q;
      greatest = λ w new low. inside f then v b g w is greatest here new;
    }

pub change_outside : (f then : Fbas) (v : ℕ) (b g : Nodes) → IsChangedAt f then v → IsGreatestQuorum f b (all_nodes f) g → g v ≡ false → ((w : Nodes) → Quorum then b w → v ∈ w → ⊥) → IsGreatestQuorum then b (all_nodes then) g
change_outside f then v b g is greatest out none = record {
  within = λ x h. subst (λ (s : Nodes). x ∈ (s ∖ b)) (same_nodes f then v is) (greatest.within x h);
  quorum = ⊎_elim (λ e. inl e) (λ q. inr (record {
    inhabited = q.inhabited;
    left = λ x h. subst (λ (s : Nodes). x ∈ (s ∖ b)) (same_nodes f then v is) (q.left x h);
    slices = λ x h. forth f then v x b g is (λ e. both_ways (g x) (ap g e ∙ out) h) (q.slices x h);
  })) greatest.quorum;
  greatest = λ w q low.
      let old : Quorum f b w = record {
        inhabited = q.inhabited;
        left = λ x h. subst (λ (s : Nodes). x ∈ (s ∖ b)) (sym (same_nodes f then v is)) (q.left x h);
        slices = λ x h. back f then v x b w is (λ e. none w q (subst (λ (y : ℕ). y ∈ w) e h)) (q.slices x h);
      } in
      greatest.greatest w old (λ y in_y. (and_parts (all_nodes f y) (not (b y)) (old.left y in_y)).0);
}

pub within_all : (f : Fbas) (b w : Nodes) → Quorum f b w → w ⊆ all_nodes f
within_all f b w q x h = (and_parts (all_nodes f x) (not (b x)) (q.left x h)).0

pub only_one_in : (w : Nodes) (v x : ℕ) → v ∈ w → x ∈ only v → x ∈ w
only_one_in w v x here same = subst (λ (y : ℕ). y ∈ w) (sym (eqb-true x v same)) here

-- ---- the nodes that are not faulty, made step by step

pub all_left : (f : Fbas) (b : Nodes) (none copied filled left : Table) → length none ≡ length f → copied ≡ none → members filled ≡ (λ w. nat_lt w (length copied)) → members left ≡ (members filled ∖ b) → members left ≡ (all_nodes f ∖ b)
all_left f b none copied filled left size same all rest =
    rest ∙ ap (λ (t : Nodes). t ∖ b) (all ∙ ap {B = Nodes} (λ (n : ℕ) v. nat_lt v n) (ap (λ (t : Table). length t) same ∙ size))

-- the set of v alone, all nodes that are not faulty, and those of them that are outside g
pub record Widened (f : Fbas) (v : ℕ) (b g : Nodes) (one wider waiting : Table) : Type 0 where
  pub all : members wider ≡ (all_nodes f ∖ b)
  pub one_is : members one ≡ only v
  pub rest : members waiting ≡ (members wider ∖ g)
  pub within : v ∈ members wider → members one ⊆ members wider

pub widened : (f : Fbas) (v : ℕ) (b g : Nodes) (none first one copied filled wider second waiting : Table) → length none ≡ length f → members none ≡ ∅ → first ≡ none → members one ≡ (members first ∪ only v)
    → copied ≡ none → members filled ≡ (λ w. nat_lt w (length copied)) → members wider ≡ (members filled ∖ b) → second ≡ wider → members waiting ≡ (members second ∖ g) → Widened f v b g one wider waiting
widened f v b g none first one copied filled wider second waiting size empty first_is put copied_is all left second_is minus =
    let alone : members one ≡ only v = put ∙ ap (λ (t : Nodes). t ∪ only v) (ap members first_is ∙ empty) in
    record {
      all = all_left f b none copied filled wider size copied_is all left;
      one_is = alone;
      rest = minus ∙ ap (λ (t : Table). members t ∖ g) second_is;
      within = λ here x at. only_one_in (members wider) v x here (subst (λ (t : Nodes). x ∈ t) alone at);
    }

-- ---- which nodes are looked at

-- of a greatest quorum with the node all others have a slice inside it still
pub waiting_inside : (f then : Fbas) (v : ℕ) (b g : Nodes) → IsChangedAt f then v → IsGreatestQuorum f b (all_nodes f) g → AreWaiting then b g (only v)
waiting_inside f then v b g is greatest = record {
  left = λ x at. and_from (g x) (not (b x)) at (and_parts (all_nodes f x) (not (b x)) (greatest.within x at)).1;
  others = λ x at out. ⊎_elim (λ (none : g ≡ ∅). absurd (false≢true (sym (ap (λ (s : Nodes). s x) none) ∙ at)))
      (λ q. forth f then v x b g is (λ e. both_ways (x == v) out (eq-eqb x v e)) (q.slices x at)) greatest.quorum;
}

-- and of all nodes those of a greatest quorum without it
pub waiting_outside : (f then : Fbas) (v : ℕ) (b g wider again : Nodes) → IsChangedAt f then v → IsGreatestQuorum f b (all_nodes f) g → g v ≡ false → wider ≡ (all_nodes then ∖ b) → again ≡ (wider ∖ g) → AreWaiting then b wider again
waiting_outside f then v b g wider again is greatest out all left = record {
  left = λ x at. and_from (wider x) (not (b x)) at (and_parts (all_nodes then x) (not (b x)) (subst (λ (s : Nodes). x ∈ s) all at)).1;
  others = λ x at done.
      let in_g : x ∈ g = elim (cases_Bool (g x)) [
        | inl e ↦ e
        | inr e ↦ absurd (both_ways (again x) done (subst (λ (s : Nodes). x ∈ s) (sym left) (and_from (wider x) (not (g x)) at (not_from_false (g x) e))))
      ] in
      ⊎_elim (λ (none : g ≡ ∅). absurd (false≢true (sym (ap (λ (s : Nodes). s x) none) ∙ in_g)))
      (λ q. slice_wider then b g wider x (λ y in_y. subst (λ (s : Nodes). y ∈ s) (sym all) (subst (λ (s : Nodes). y ∈ (s ∖ b)) (same_nodes f then v is) (greatest.within y in_y)))
      (forth f then v x b g is (λ e. both_ways (g x) (ap g e ∙ out) in_g) (q.slices x in_g))) greatest.quorum;
}
