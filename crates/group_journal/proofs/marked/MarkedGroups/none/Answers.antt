use Rattle.std.proofs.Common.{◌≡◌, ℕ, ◌<◌, ◌≤◌, List, length, replicate, slice_index_or, sym, ap, ◌∙◌, subst, arith, rules, inl, inr}
use Rattle.std.specs.Prelude.{All}
use Rattle.std.proofs.lemmas.Bool.{cases_lt}
use Rattle.std.proofs.lemmas.List.{length-map, length-replicate, get_or-replicate, get_or_past}
use Rattle.std.proofs.lemmas.List.Elements.{All-map}
use Rattle.fbas_model.specs.Nodes.{Table}
use Rattle.node_json.specs.Groups as spec
use Rattle.node_json.specs.Groups.{tables_of}
use Rattle.group_journal.proofs.Times.{times_none, joined_none}
use Rattle.group_journal.proofs.marked.MarkedGroups.none.Goals as goal

abbrev zeros_of : ℕ → List ℕ
zeros_of n = replicate n 0

zero_at : (n v : ℕ) → slice_index_or (zeros_of n) v 0 ≡ 0
zero_at n v = elim (cases_lt v n) [
  | inl low ↦ get_or-replicate {A = ℕ} n v 0 0 low
  | inr past ↦ get_or_past (zeros_of n) v 0 (omega (arith, past, length-replicate {A = ℕ} n 0))
]

pub invariant_of-result : goal.invariant_of-result
invariant_of-result c =
    let groups = c.args.groups.now in
    let gs = tables_of groups in
    let marks = c.new.result in
    let zeros : c.in_ok-vec.field-0.items ≡ zeros_of c.args.n = search rules in
    let count = length-map groups (λ (g : spec.Group). g.members) in record {
      sized = subst (λ (n : ℕ). All (λ (g : Table). length g ≡ n) gs) (sym c.new-2.ensures.size) (All-map (λ (t : Table). length t ≡ c.args.n) (λ (g : spec.Group). g.members) groups c.requires.sized);
      few = omega (arith, count, c.len.ensures.few, c.len.ensures.count);
      places = c.new.ensures.size ∙ c.len.ensures.count ∙ sym count;
      same_n = ap (λ (items : List ℕ). length items) zeros ∙ length-replicate {A = ℕ} c.args.n 0 ∙ sym c.new-2.ensures.size;
      counts = λ v. ap (λ (items : List ℕ). slice_index_or items v 0) zeros ∙ zero_at c.args.n v ∙ sym (times_none gs marks v c.new.ensures.empty);
      nodes = c.new-2.ensures.empty ∙ sym (joined_none gs marks c.new.ensures.empty);
    }
