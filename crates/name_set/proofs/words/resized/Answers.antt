use Rattle.std.proofs.Common.{◌≡◌, ℕ, ◌++◌, [], ◌∷◌, List, true, append_assoc, refl, sym, ◌∙◌, ap, arith}
use Rattle.std.proofs.Math.Bool.{and-true}
use Rattle.std.proofs.lemmas.List.{append-nil}
use Rattle.fbas_model.specs.Nodes.{members, listed_from}
use Rattle.fbas_model.proofs.Chosen.{chosen_none, chosen_put, chosen_all}
use Rattle.fbas_model.proofs.Listed.{iterated_below}
use Rattle.fbas_model.proofs.Tables.{table_ext}
use Rattle.name_set.proofs.WordLaws.{same-length}
use Rattle.name_set.proofs.words.resized.Goals as goal

pub new-copy-requires : goal.new-copy-requires
new-copy-requires w c =
    let size = same-length w.row.W c.set.inside.n c.set.inside.words c.args.set.now c.set.invariant c.set.view_is in
    (search arith, (omega (arith, size, c.requires.fits), c.requires.words))

pub loop-at-init : goal.loop-at-init
loop-at-init w c = record {
  whole = c.into_iter-at-iterator.ensures.into_iter_gives ∙ c.iter-at-items.ensures;
  places = c.new-copy.ensures.size ∙ sym (same-length w.row.W c.set.inside.n c.set.inside.words c.args.set.now c.set.invariant c.set.view_is);
  chosen = chosen_none (λ v. true) (members c.new-copy.result) c.new-copy.ensures.empty;
}

pub put-requires : goal.put-requires
put-requires w c =
    let whole = ap (λ (vs : List ℕ). c.loop-at.yielded ++ vs) (sym c.in-Some.ensures.steps) ∙ c.loop-at.invariant.whole in
    (search arith, omega (arith, iterated_below c.args.set.now c.loop-at.yielded c.next.new.self c.in-Some.at whole, c.loop-at.invariant.places))

pub loop-at-preserved : goal.loop-at-preserved
loop-at-preserved w c =
    let ws = c.loop-at.yielded in
    let v = c.in-Some.at in
    let whole = ap (λ (vs : List ℕ). ws ++ vs) (sym c.in-Some.ensures.steps) ∙ c.loop-at.invariant.whole in record {
      whole = append_assoc ws (v ∷ []) c.next.new.self ∙ whole;
      places = c.put.ensures.size ∙ c.loop-at.invariant.places;
      chosen = chosen_put (λ v. true) ws (members c.loop-at.copy) v c.loop-at.invariant.chosen (members c.put.new.self) refl c.put.ensures.added;
    }

pub returns : goal.returns
returns w c =
    let t = c.args.set.now in
    let ws = c.loop-at.yielded in
    let whole : ws ≡ listed_from 0 t = sym (append-nil ws) ∙ (ap (λ (vs : List ℕ). ws ++ vs) (sym c.in-None.ensures.steps.0) ∙ c.loop-at.invariant.whole) in
    table_ext c.loop-at.copy t c.loop-at.invariant.places (λ v. chosen_all (λ v. true) t ws (members c.loop-at.copy) whole c.loop-at.invariant.chosen v ∙ and-true (members t v))
