-- Each clause of the split formula is over its variables. And a circuit that is not true of all nodes is never true.
use Rattle.std.proofs.Common.{◌≡◌, ℕ, ◌+◌, ◌≤◌, ◌<◌, Bool, true, false, if◌then◌else◌, List, [], ◌∷◌, ◌++◌, length, map, refl, sym, ◌∙◌, subst, arith}
use Rattle.std.proofs.lemmas.Bool.{le-leb, false≢true}
use Rattle.fbas_model.specs.Nodes.{Nodes, Table, members, size, listed_from, ◌∈◌}
use Rattle.fbas_model.specs.Fbas.{Fbas}
use Rattle.fbas_model.proofs.Kept.{rank_lt}
use Rattle.lrat_model.specs.Literal.{Literal, Plus}
use Rattle.lrat_model.specs.Clauses.{numbered}
use Rattle.lrat_model.specs.Ranges.{AreInRange}
use Rattle.threshold_circuit.specs.Circuits.{Circuit, Inputs, always, never, leaf, at_least, end_of_gate, input, input_count, IsOpen, AreOpen}
use Rattle.threshold_circuit.specs.Value.{circuit_value, count_true}
use Rattle.clause_encoder.specs.declared.version.Version.{Version}
use Rattle.clause_encoder.specs.Formula.{side_from, side_clauses, some_node, no_node_on_both}
use Rattle.clause_encoder.proofs.CircuitFills.{VariablesBelow}
use Rattle.clause_encoder.proofs.Members.{Each, each_of, each_from}
use Rattle.clause_encoder.proofs.QuorumLaws.{IsReady}
use Rattle.clause_encoder.proofs.RangeLaws.{LiteralsBelow, ClausesBelow, clauses_both, numbered_range}
use Rattle.split_journal.proofs.Below.{clauses_more, side_within, some_node_below, both_below}
use Rattle.enumeration_journal.specs.Numbering.{variable_in}
use Rattle.group_journal.specs.Groups.{touching}
use Rattle.split_journal.specs.Formula.{able_of, head_a, head_b, leaf_a, leaf_b, first_gate, by_number, variable_a, variable_b, circuit_behind, groups_with, not_lying, none_lying, lying, or_head, present, on_lying, split_part, split_clauses, split_vars}
use Rattle.split_journal.proofs.Left.{IsLeft, holding, holding_touches}
use Rattle.split_journal.proofs.Able.{of_present, of_behind, each_number, able_parts, inside, inside_present, inside_behind, ready_behind}

-- ---- a circuit of which nothing is decided is true where all its nodes are

one_more : (x : Bool) (m n : ℕ) → x ≡ true → m ≡ n → (if x then 1 else 0) + m ≡ 1 + n
one_more true m n is same = omega (arith, same)
one_more false m n is same = absurd (false≢true is)

mutual
  pub open_all : (g : Nodes) (c : Circuit) → IsOpen g c → circuit_value g c ≡ true
  open_all g always whole = refl
  open_all g never whole = absurd whole
  open_all g (leaf v) whole = whole
  open_all g (at_least k inputs) whole = le-leb k (count_true g inputs) (let all = count_all g inputs whole.2 in omega (arith, whole.1, all))

  count_all : (g : Nodes) (inputs : Inputs) → AreOpen g inputs → count_true g inputs ≡ input_count inputs
  count_all g end_of_gate whole = refl
  count_all g (input c others) whole = one_more (circuit_value g c) (count_true g others) (input_count others) (open_all g c whole.0) (count_all g others whole.1)

-- ---- the clauses on who lies

not_below : (m h : ℕ) (lies : ℕ → ℕ) (us : List ℕ) → h < m → Each (λ i. lies i < m) us → ClausesBelow m (not_lying h lies us)
not_below m h lies [] low all = tt
not_below m h lies (i ∷ us) low all = ((low, (all.0, tt)), not_below m h lies us low all.1)

lying_below : (m : ℕ) (lies : ℕ → ℕ) (us : List ℕ) → Each (λ i. lies i < m) us → LiteralsBelow m (map (λ u. Plus (lies u)) us)
lying_below m lies [] all = tt
lying_below m lies (i ∷ us) all = (all.0, lying_below m lies us all.1)

or_below : (m : ℕ) (able : Bool) (h : ℕ) (rest : List Literal) → (able ≡ true → h < m) → LiteralsBelow m rest → LiteralsBelow m (or_head able h rest)
or_below m true h rest low below = (low refl, below)
or_below m false h rest low below = below

-- the variables of a node's groups
abbrev HaveLow : ℕ → (ℕ → ℕ) → List Table → ℕ → Type 0
HaveLow m lies groups n = Each (λ i. lies i < m) (groups_with groups n)

none_below : (m : ℕ) (h : ℕ → ℕ) (lies : ℕ → ℕ) (groups : List Table) (ns : List ℕ) → Each (λ n. (h n < m) × HaveLow m lies groups n) ns → ClausesBelow m (none_lying h lies groups ns)
none_below m h lies groups [] all = tt
none_below m h lies groups (n ∷ ns) all =
    clauses_both m (not_lying (h n) lies (groups_with groups n)) (none_lying h lies groups ns) (not_below m (h n) lies (groups_with groups n) all.0.0 all.0.1) (none_below m h lies groups ns all.1)

present_below : (m : ℕ) (l h : ℕ → ℕ) (able : Table) (lies : ℕ → ℕ) (groups : List Table) (ns : List ℕ) → Each (λ n. (l n < m) × (members able n ≡ true → h n < m) × HaveLow m lies groups n) ns → ClausesBelow m (present l h able lies groups ns)
present_below m l h able lies groups [] all = tt
present_below m l h able lies groups (n ∷ ns) all =
    ((all.0.0, or_below m (members able n) (h n) (lying lies groups n) all.0.1 (lying_below m lies (groups_with groups n) all.0.2)), present_below m l h able lies groups ns all.1)

-- ---- the formula

module _ (version : Version) (f : Fbas) (b : Table) (first : ℕ) (left : Table) (groups : List Table) (is : IsLeft f b left) (few : size (touching groups left) ≤ first) where
  numbers_below : (l h : ℕ → ℕ) (start : ℕ) → ((n : ℕ) → n ∈ members left → l n < start) → ((n : ℕ) → n ∈ members (able_of f b left) → h n < start) → VariablesBelow (by_number (length f) l h) (inside f b left is) start
  numbers_below l h start low_l low_h = each_number (length f) (λ x. inside f b left is x ≡ true → by_number (length f) l h x < start)
      (λ n under here. subst (λ (x : ℕ). x < start) (sym (of_present (length f) l h n under)) (low_l n (sym (inside_present f b left is n under) ∙ here)))
      (λ n here. subst (λ (x : ℕ). x < start) (sym (of_behind (length f) l h n)) (low_h n (sym (inside_behind f b left is n) ∙ here)))

  groups_low : (m : ℕ) → first < m → (n : ℕ) → n ∈ members left → HaveLow m (variable_in (touching groups left)) groups n
  groups_low m more n here = each_of (λ i. variable_in (touching groups left) i < m) (holding groups n) (λ i has. omega (arith, more, few, rank_lt (touching groups left) i (holding_touches groups left n i here has)))

  pub split_below : (first < (split_part version f b first left).after.next) × ClausesBelow (split_part version f b first left).after.next (split_clauses version f b first left groups)
  unfolding split_clauses
  split_below =
      let n = length f in
      let t = able_of f b left in
      let ns = listed_from n t in
      let lies = variable_in (touching groups left) in
      let circuit = circuit_behind version f b left in
      let p = variable_a n first t left in
      let q = variable_b n first t left in
      let start = first_gate first t left in
      let there = inside f b left is in
      let low_ha : (x : ℕ) → x ∈ members t → head_a first t x < start = (λ x at. omega (arith, rank_lt t x at)) in
      let low_hb : (x : ℕ) → x ∈ members t → head_b first t x < start = (λ x at. omega (arith, rank_lt t x at)) in
      let low_la : (x : ℕ) → x ∈ members left → leaf_a first t left x < start = (λ x at. omega (arith, rank_lt left x at)) in
      let low_lb : (x : ℕ) → x ∈ members left → leaf_b first t left x < start = (λ x at. omega (arith, rank_lt left x at)) in
      let below_a : VariablesBelow p there start = numbers_below (leaf_a first t left) (head_a first t) start low_la low_ha in
      let below_b : VariablesBelow q there start = numbers_below (leaf_b first t left) (head_b first t) start low_lb low_hb in
      let ok = each_from (λ x. IsReady there (circuit x)) n t (ready_behind f b left is version) in
      let all_in = each_from (λ x. there x ≡ true) n t (λ x at. inside_behind f b left is x ∙ at) in
      let a = side_clauses version p circuit (side_from start) ns in
      let c = side_clauses version q circuit (side_from a.after.next) ns in
      let in_a = side_within version p there circuit (side_from start) ns (omega arith) below_a ok tt all_in in
      let below_b' : VariablesBelow q there a.after.next = (λ x at. omega (arith, below_b x at, in_a.grows)) in
      let in_c = side_within version q there circuit (side_from a.after.next) ns (omega (arith, in_a.grows)) below_b' ok tt all_in in
      let last = c.after.next in
      let more : start ≤ last = omega (arith, in_a.grows, in_c.grows) in
      let after : first < last = omega (arith, more) in
      let on_a = each_from (λ x. p x < last) n t (λ x at. let here : there (n + x) ≡ true = inside_behind f b left is x ∙ at in omega (arith, below_a (n + x) here, more)) in
      let on_b = each_from (λ x. q x < last) n t (λ x at. let here : there (n + x) ≡ true = inside_behind f b left is x ∙ at in omega (arith, below_b (n + x) here, more)) in
      let heads = some_node p ns ∷ some_node q ns ∷ no_node_on_both p q ns in
      let formula = clauses_both last heads (a.clauses ++ c.clauses)
      (some_node_below last p ns on_a, (some_node_below last q ns on_b, both_below last p q ns on_a on_b))
      (clauses_both last a.clauses c.clauses (clauses_more a.after.next last a.clauses in_c.grows in_a.clauses) in_c.clauses) in
      let none_a = none_below last (head_a first t) lies groups (listed_from 0 t) (each_of (λ x. (head_a first t x < last) × HaveLow last lies groups x) t (λ x at. (omega (arith, low_ha x at, more), groups_low last after x (able_parts f b left is x at).0))) in
      let none_b = none_below last (head_b first t) lies groups (listed_from 0 t) (each_of (λ x. (head_b first t x < last) × HaveLow last lies groups x) t (λ x at. (omega (arith, low_hb x at, more), groups_low last after x (able_parts f b left is x at).0))) in
      let present_a = present_below last (leaf_a first t left) (head_a first t) t lies groups (listed_from 0 left) (each_of (λ x. (leaf_a first t left x < last) × (members t x ≡ true → head_a first t x < last) × HaveLow last lies groups x) left (λ x at. (omega (arith, low_la x at, more), (λ able. omega (arith, low_ha x able, more)), groups_low last after x at))) in
      let present_b = present_below last (leaf_b first t left) (head_b first t) t lies groups (listed_from 0 left) (each_of (λ x. (leaf_b first t left x < last) × (members t x ≡ true → head_b first t x < last) × HaveLow last lies groups x) left (λ x at. (omega (arith, low_lb x at, more), (λ able. omega (arith, low_hb x able, more)), groups_low last after x at))) in
      let lie_a = none_lying (head_a first t) lies groups (listed_from 0 t) in
      let lie_b = none_lying (head_b first t) lies groups (listed_from 0 t) in
      let here_a = present (leaf_a first t left) (head_a first t) t lies groups (listed_from 0 left) in
      let here_b = present (leaf_b first t left) (head_b first t) t lies groups (listed_from 0 left) in (
        after,
        clauses_both last (heads ++ (a.clauses ++ c.clauses)) (on_lying first t left groups) formula
            (clauses_both last lie_a (lie_b ++ (here_a ++ here_b)) none_a
            (clauses_both last lie_b (here_a ++ here_b) none_b
            (clauses_both last here_a here_b present_a present_b))),
      )

  pub split_in_range : AreInRange (split_vars version f b first left) (numbered 1 (split_clauses version f b first left groups))
  split_in_range =
      let at : (split_part version f b first left).after.next ≡ split_vars version f b first left + 1 = omega (arith, split_below.0) in
      numbered_range (split_vars version f b first left) 1 (split_clauses version f b first left groups) (subst (λ (m : ℕ). ClausesBelow m (split_clauses version f b first left groups)) at split_below.1)
