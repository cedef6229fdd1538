-- What clauses of a side say of its nodes' circuits, and that they can be made true: over any variables and circuits.
use Rattle.std.proofs.Common.{◌≡◌, ℕ, zero, suc, ◌+◌, Bool, true, false, List, [], ◌∷◌, refl, ap, ◌∙◌, sym, arith, inl, inr}
use Rattle.std.proofs.lemmas.Bool.{and_parts, and_from, or_left, or_right, or_cases, false≢true}
use Rattle.fbas_model.specs.Nodes.{Nodes, Table, members, listed_from}
use Rattle.lrat_model.specs.Literal.{Plus, Minus, clause_true, formula_true}
use Rattle.threshold_circuit.specs.Circuits.{Circuit, always, never, leaf, at_least, IsOpen}
use Rattle.threshold_circuit.specs.Value.{circuit_value}
use Rattle.clause_encoder.specs.declared.version.Version.{Version}
use Rattle.clause_encoder.specs.CircuitClauses.{Place, circuit_clauses}
use Rattle.clause_encoder.specs.Formula.{Part, with_gate, node_clauses, side_clauses, some_node, no_node_on_both}
use Rattle.clause_encoder.specs.SharedGates.{EachGate}
use Rattle.clause_encoder.proofs.Bools.{true_parts, true_both}
use Rattle.clause_encoder.proofs.GateLaws.{implied}
use Rattle.clause_encoder.proofs.GateFills.{agree_through, only_if}
use Rattle.clause_encoder.proofs.CircuitLaws.{Reads, Says, circuit_sound}
use Rattle.clause_encoder.proofs.CircuitFills.{VariablesBelow, Fits, circuit_fill}
use Rattle.clause_encoder.proofs.FormulaFills.{FilledPart}
use Rattle.clause_encoder.proofs.Members.{Each, none_in}
use Rattle.clause_encoder.proofs.QuorumLaws.{IsReady}
use Rattle.split_journal.proofs.Heads.{pair_true, pair_apart}

-- ---- what they say

record TellsNode (v u : ℕ → Bool) (own : Type 0) (part : Part) : Type 0 where
  says : own
  gates : EachGate (Says v u) part.after.gates

written_says : (version : Version) (v : ℕ → Bool) (p : ℕ → ℕ) (inside u : Nodes) (place : Place) (n : ℕ) (c : Circuit) → Reads v p inside u → IsOpen inside c → EachGate (Says v u) place.gates → formula_true v (with_gate (p n) (circuit_clauses version p place c)).clauses ≡ true → TellsNode v u (v (p n) ≡ true → circuit_value u c ≡ true) (with_gate (p n) (circuit_clauses version p place c))
written_says version v p inside u place n c reads whole before sat =
    let gate = circuit_clauses version p place c in
    let parts = true_parts v gate.clauses ((Minus (p n) ∷ Plus gate.variable ∷ []) ∷ []) sat in
    let tells = circuit_sound version v p inside u place c reads whole before parts.0 in
    record {
      says = λ on. tells.own (implied v (p n) gate.variable on (and_parts (clause_true v (Minus (p n) ∷ Plus gate.variable ∷ [])) true parts.1).0);
      gates = tells.gates;
    }

node_says : (version : Version) (v : ℕ → Bool) (p : ℕ → ℕ) (inside u : Nodes) (place : Place) (n : ℕ) (c : Circuit) → Reads v p inside u → IsReady inside c → EachGate (Says v u) place.gates → formula_true v (node_clauses version p place n c).clauses ≡ true → TellsNode v u (v (p n) ≡ true → circuit_value u c ≡ true) (node_clauses version p place n c)
node_says version v p inside u place n always reads is before sat = record { says = λ on. refl; gates = before }
node_says version v p inside u place n never reads is before sat = record { says = λ on. absurd (false≢true is.1); gates = before }
node_says version v p inside u place n (leaf m) reads is before sat = written_says version v p inside u place n (leaf m) reads is.0 before sat
node_says version v p inside u place n (at_least k inputs) reads is before sat = written_says version v p inside u place n (at_least k inputs) reads is.0 before sat

pub side_says : (version : Version) (v : ℕ → Bool) (p : ℕ → ℕ) (inside u : Nodes) (circuit : ℕ → Circuit) (place : Place) (ns : List ℕ) → Reads v p inside u → Each (λ n. IsReady inside (circuit n)) ns → EachGate (Says v u) place.gates → formula_true v (side_clauses version p circuit place ns).clauses ≡ true → Each (λ n. v (p n) ≡ true → circuit_value u (circuit n) ≡ true) ns
side_says version v p inside u circuit place [] reads is before sat = tt
side_says version v p inside u circuit place (n ∷ ns) reads is before sat =
    let part = node_clauses version p place n (circuit n) in
    let parts = true_parts v part.clauses (side_clauses version p circuit part.after ns).clauses sat in
    let here = node_says version v p inside u place n (circuit n) reads is.0 before parts.0 in
    (here.says, side_says version v p inside u circuit part.after ns reads is.1 here.gates parts.1)

-- ---- and that they can be true

written_fill : (version : Version) (v : ℕ → Bool) (p : ℕ → ℕ) (inside u : Nodes) (place : Place) (n : ℕ) (c : Circuit) → VariablesBelow p inside place.next → Reads v p inside u → IsOpen inside c → EachGate (Fits v u place.next) place.gates → inside n ≡ true → (u n ≡ true → circuit_value u c ≡ true) → FilledPart v u place (with_gate (p n) (circuit_clauses version p place c))
written_fill version v p inside u place n c low reads whole gates is on =
    let gate = circuit_clauses version p place c in
    let own = circuit_fill version v p inside u place c low reads whole gates in
    record {
      filled = own.filled;
      grows = own.grows;
      same = own.same;
      holds = λ w agree. true_both w gate.clauses ((Minus (p n) ∷ Plus gate.variable ∷ []) ∷ []) (own.holds w agree)
          (and_from _ _ (only_if (w (p n)) (w gate.variable) (λ true_node.
          own.says w agree ∙ on (sym (reads n is) ∙ own.same (p n) (low n is) ∙ agree (p n) (omega (arith, low n is, own.grows)) ∙ true_node))) refl);
      gates = own.gates;
    }

node_fill : (version : Version) (v : ℕ → Bool) (p : ℕ → ℕ) (inside u : Nodes) (place : Place) (n : ℕ) (c : Circuit) → VariablesBelow p inside place.next → Reads v p inside u → IsReady inside c → EachGate (Fits v u place.next) place.gates → inside n ≡ true → (u n ≡ true → circuit_value u c ≡ true) → FilledPart v u place (node_clauses version p place n c)
node_fill version v p inside u place n always low reads ok gates is on = record { filled = v; grows = omega arith; same = λ y below. refl; holds = λ w agree. refl; gates = gates }
node_fill version v p inside u place n never low reads ok gates is on = absurd (false≢true ok.1)
node_fill version v p inside u place n (leaf m) low reads ok gates is on = written_fill version v p inside u place n (leaf m) low reads ok.0 gates is on
node_fill version v p inside u place n (at_least k inputs) low reads ok gates is on = written_fill version v p inside u place n (at_least k inputs) low reads ok.0 gates is on

pub side_fill : (version : Version) (v : ℕ → Bool) (p : ℕ → ℕ) (inside u : Nodes) (circuit : ℕ → Circuit) (place : Place) (ns : List ℕ) → VariablesBelow p inside place.next → Reads v p inside u → Each (λ n. IsReady inside (circuit n)) ns → EachGate (Fits v u place.next) place.gates → Each (λ n. inside n ≡ true) ns → Each (λ n. u n ≡ true → circuit_value u (circuit n) ≡ true) ns → FilledPart v u place (side_clauses version p circuit place ns)
side_fill version v p inside u circuit place [] low reads ok gates is on = record { filled = v; grows = omega arith; same = λ y below. refl; holds = λ w agree. refl; gates = gates }
side_fill version v p inside u circuit place (n ∷ ns) low reads ok gates is on =
    let part = node_clauses version p place n (circuit n) in
    let here = node_fill version v p inside u place n (circuit n) low reads ok.0 gates is.0 on.0 in
    let low' : VariablesBelow p inside part.after.next = (λ n is. omega (arith, low n is, here.grows)) in
    let reads' : Reads here.filled p inside u = (λ n is. sym (here.same (p n) (low n is)) ∙ reads n is) in
    let after = side_clauses version p circuit part.after ns in
    let rest = side_fill version here.filled p inside u circuit part.after ns low' reads' ok.1 here.gates is.1 on.1 in
    record {
      filled = rest.filled;
      grows = omega (arith, here.grows, rest.grows);
      same = agree_through place.next part.after.next v here.filled rest.filled here.grows here.same rest.same;
      holds = λ w agree. true_both w part.clauses after.clauses
          (here.holds w (agree_through part.after.next after.after.next here.filled rest.filled w rest.grows rest.same agree))
          (rest.holds w agree);
      gates = rest.gates;
    }

-- ---- the clauses before the sides

pub some_true : (v : ℕ → Bool) (p : ℕ → ℕ) (start : ℕ) (t : Table) (n : ℕ) → members t n ≡ true → v (p (start + n)) ≡ true → clause_true v (some_node p (listed_from start t)) ≡ true
some_true v p start [] n is on = absurd (none_in n is)
some_true v p start (true ∷ t) zero is on = let at : start ≡ start + 0 = omega arith in or_left _ _ (ap (λ (m : ℕ). v (p m)) at ∙ on)
some_true v p start (true ∷ t) (suc n) is on = let at : start + 1 + n ≡ start + suc n = omega arith in or_right _ _ (some_true v p (start + 1) t n is (ap (λ (m : ℕ). v (p m)) at ∙ on))
some_true v p start (false ∷ t) zero is on = absurd (false≢true is)
some_true v p start (false ∷ t) (suc n) is on = let at : start + 1 + n ≡ start + suc n = omega arith in some_true v p (start + 1) t n is (ap (λ (m : ℕ). v (p m)) at ∙ on)

pub some_says : (v : ℕ → Bool) (p : ℕ → ℕ) (start : ℕ) (t : Table) → clause_true v (some_node p (listed_from start t)) ≡ true → (n : ℕ) × (members t n ≡ true) × (v (p (start + n)) ≡ true)
some_says v p start [] holds = absurd (false≢true holds)
some_says v p start (true ∷ t) holds = elim (or_cases (v (p start)) (clause_true v (some_node p (listed_from (start + 1) t))) holds) [
  | inl here ↦ let at : start ≡ start + 0 = omega arith in (0, refl, ap (λ (m : ℕ). v (p m)) (sym at) ∙ here)
  | inr there ↦ let rest = some_says v p (start + 1) t there in
      let at : start + suc rest.0 ≡ start + 1 + rest.0 = omega arith in
      (suc rest.0, rest.1, ap (λ (m : ℕ). v (p m)) at ∙ rest.2)
]
some_says v p start (false ∷ t) holds =
    let rest = some_says v p (start + 1) t holds in
    let at : start + suc rest.0 ≡ start + 1 + rest.0 = omega arith in
    (suc rest.0, rest.1, ap (λ (m : ℕ). v (p m)) at ∙ rest.2)

pub apart_true : (v : ℕ → Bool) (p q : ℕ → ℕ) (ns : List ℕ) → Each (λ n. v (p n) ≡ true → v (q n) ≡ true → ⊥) ns → formula_true v (no_node_on_both p q ns) ≡ true
apart_true v p q [] apart = refl
apart_true v p q (n ∷ ns) apart = and_from _ _ (pair_true (v (p n)) (v (q n)) apart.0) (apart_true v p q ns apart.1)

pub apart_says : (v : ℕ → Bool) (p q : ℕ → ℕ) (ns : List ℕ) → formula_true v (no_node_on_both p q ns) ≡ true → Each (λ n. v (p n) ≡ true → v (q n) ≡ true → ⊥) ns
apart_says v p q [] sat = tt
apart_says v p q (n ∷ ns) sat =
    let parts = and_parts (clause_true v (Minus (p n) ∷ Minus (q n) ∷ [])) (formula_true v (no_node_on_both p q ns)) sat in
    (pair_apart (v (p n)) (v (q n)) parts.0, apart_says v p q ns parts.1)
