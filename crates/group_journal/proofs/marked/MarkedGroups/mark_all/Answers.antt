use Rattle.std.proofs.Common.{◌≡◌, ℕ, true, ◌++◌, ◌∷◌, [], List, length, append_assoc, refl, sym, ap, ◌∙◌, arith}
use Rattle.std.proofs.Math.Bool.{and-true}
use Rattle.std.proofs.lemmas.List.{append-nil}
use Rattle.fbas_model.specs.Nodes.{Nodes, members, listed_from}
use Rattle.fbas_model.proofs.Chosen.{chosen_put, chosen_all}
use Rattle.fbas_model.proofs.Listed.{iterated_below}
use Rattle.fbas_model.proofs.Tables.{table_ext}
use Rattle.group_journal.proofs.marked.MarkedGroups.mark_all.Goals as goal

pub loop-at-init : goal.loop-at-init
loop-at-init c = record {
  whole = c.into_iter-at-iterator.ensures.into_iter_gives ∙ c.iter-at-items.ensures;
  n = refl;
  groups = refl;
  places = refl;
  chosen = λ w. ap (λ (s : Nodes). s w) c.requires.none;
}

pub mark-requires : goal.mark-requires
mark-requires c =
    let whole = ap (λ (vs : List ℕ). c.loop-at.yielded ++ vs) (sym c.in-Some.ensures.steps) ∙ c.loop-at.invariant.whole in
    omega (arith, iterated_below c.args.set.now c.loop-at.yielded c.next.new.self c.in-Some.at whole, c.requires.places, c.loop-at.invariant.places)

pub loop-at-preserved : goal.loop-at-preserved
loop-at-preserved c =
    let ws = c.loop-at.yielded in
    let at = c.in-Some.at in
    let whole = ap (λ (vs : List ℕ). ws ++ vs) (sym c.in-Some.ensures.steps) ∙ c.loop-at.invariant.whole in record {
      whole = append_assoc ws (at ∷ []) c.next.new.self ∙ whole;
      n = c.mark.ensures.n ∙ c.loop-at.invariant.n;
      groups = c.mark.ensures.groups ∙ c.loop-at.invariant.groups;
      places = c.mark.ensures.places ∙ c.loop-at.invariant.places;
      chosen = chosen_put (λ v. true) ws (members c.loop-at.self.marks) at c.loop-at.invariant.chosen (members c.mark.new.self.marks) refl c.mark.ensures.marked;
    }

pub returns-clause-marks : goal.returns-clause-marks
returns-clause-marks c =
    let t = c.args.set.now in
    let ws = c.loop-at.yielded in
    let whole : ws ≡ listed_from 0 t = sym (append-nil ws) ∙ (ap (λ (vs : List ℕ). ws ++ vs) (sym c.in-None.ensures.steps.0) ∙ c.loop-at.invariant.whole) in
    table_ext c.loop-at.self.marks t (c.loop-at.invariant.places ∙ sym c.requires.places) (λ v. chosen_all (λ w. true) t ws (members c.loop-at.self.marks) whole c.loop-at.invariant.chosen v ∙ and-true (members t v))
