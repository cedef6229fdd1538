use Rattle.std.proofs.Common.{◌≡◌, ℕ, ◌++◌, ◌∷◌, [], List, Some, length, map, slice_get, slice_index_or, append_assoc, sym, ap, ◌∙◌, arith}
use Rattle.std.proofs.lemmas.List.{map-append, append-nil}
use Rattle.std.proofs.lemmas.Option.{get_or_from_slice_get}
use Rattle.fbas_model.specs.Names.{Name, marks}
use Rattle.fbas_model.specs.Nodes.{listed_from}
use Rattle.fbas_model.proofs.Listed.{iterated_below, kept_listed}
use Rattle.fbas_model.proofs.Marks.{marks-none, marks-found, marks-missing}
use Rattle.node_json.proofs.groups.cut_by_name.Goals as goal

-- the names of the nodes so far, with one more
names_so_far : (names : List Name) (ws : List ℕ) (v : ℕ) (name : Name) → slice_get names v ≡ Some name → map (λ w. slice_index_or names w []) ws ++ name ∷ [] ≡ map (λ w. slice_index_or names w []) (ws ++ v ∷ [])
names_so_far names ws v name at =
    ap (λ (n : Name). map (λ w. slice_index_or names w []) ws ++ n ∷ []) (sym (get_or_from_slice_get names v name [] at)) ∙ sym (map-append (λ (w : ℕ). slice_index_or names w []) ws (v ∷ []))

pub loop-v-init : goal.loop-v-init
loop-v-init c =
    let size : length c.new-nodes.result ≡ length c.args.kept.now = c.new-nodes.ensures.size ∙ c.len.ensures in record {
      whole = c.into_iter-v-iterator.ensures.into_iter_gives ∙ c.iter-v-items.ensures;
      size = size;
      found = marks-none c.args.kept.now c.new-nodes.result size c.new-nodes.ensures.empty;
    }

pub name-requires : goal.name-requires
name-requires c =
    let whole = ap (λ (vs : List ℕ). c.loop-v.yielded ++ vs) (sym c.in-Some.ensures.steps) ∙ c.loop-v.invariant.whole in
    omega (arith, iterated_below c.args.marked.now c.loop-v.yielded c.next.new.self c.in-Some.v whole, c.requires.places)

pub returns : goal.returns
returns c =
    let names = c.args.names.now in
    let t = c.args.marked.now in
    let ws = c.loop-v.yielded in
    let whole : ws ≡ listed_from 0 t = sym (append-nil ws) ∙ (ap (λ (vs : List ℕ). ws ++ vs) (sym c.in-None.ensures.steps.0) ∙ c.loop-v.invariant.whole) in
    c.loop-v.invariant.found ∙ ap (marks c.args.kept.now) (ap (map (λ v. slice_index_or names v [])) whole ∙ sym (kept_listed t names [] c.requires.places))

pub loop-v-preserved-in-Some-find : goal.loop-v-preserved-in-Some-find
loop-v-preserved-in-Some-find c =
    let names = c.args.names.now in
    let kept = c.args.kept.now in
    let ws = c.loop-v.yielded in
    let v = c.in-Some.v in
    let name = c.name.result.now in
    let whole = ap (λ (vs : List ℕ). ws ++ vs) (sym c.in-Some.ensures.steps) ∙ c.loop-v.invariant.whole in
    let size = c.put.ensures.size ∙ c.loop-v.invariant.size in record {
      whole = append_assoc ws (v ∷ []) c.next.new.self ∙ whole;
      size = size;
      found = marks-found kept c.loop-v.nodes c.put.new.self (map (λ w. slice_index_or names w []) ws) name c.in-Some-find.at c.in-Some-find.ensures.found c.in-Some-find.ensures.only size c.put.ensures.added c.loop-v.invariant.found
          ∙ ap (marks kept) (names_so_far names ws v name c.name.ensures);
    }

pub loop-v-preserved : goal.loop-v-preserved
loop-v-preserved c =
    let names = c.args.names.now in
    let kept = c.args.kept.now in
    let ws = c.loop-v.yielded in
    let v = c.in-Some.v in
    let name = c.name.result.now in
    let whole = ap (λ (vs : List ℕ). ws ++ vs) (sym c.in-Some.ensures.steps) ∙ c.loop-v.invariant.whole in record {
      whole = append_assoc ws (v ∷ []) c.next.new.self ∙ whole;
      size = c.loop-v.invariant.size;
      found = marks-missing kept c.loop-v.nodes (map (λ w. slice_index_or names w []) ws) name c.in_default.ensures.found c.loop-v.invariant.size c.loop-v.invariant.found
          ∙ ap (marks kept) (names_so_far names ws v name c.name.ensures);
    }
