use Rattle.std.proofs.Common.{◌≡◌, ◌<◌, ◌++◌, [], ◌∷◌, ℕ, List, Option, length, map, append_assoc, sym, ◌∙◌, ap, ap₂, subst, arith, Some, None}
use Rattle.std.specs.Prelude.{slice_get, slice_index_or, option_map}
use Rattle.std.proofs.lemmas.List.{map-append, length-map, append-nil}
use Rattle.std.proofs.lemmas.Option.{slice_get-map, get_or_from_slice_get}
use Rattle.fbas_model.specs.Trees.{QuorumSet}
use Rattle.fbas_model.specs.Fbas.{Fbas}
use Rattle.fbas_model.specs.Nodes.{listed_from}
use Rattle.fbas_model.specs.QuorumSets.{IsBelow}
use Rattle.fbas_model.specs.Restriction.{renumbered}
use Rattle.fbas_model.proofs.Listed.{iterated_below, kept_listed}
use Rattle.fbas_core.proofs.System.kept_sets.Goals as goal
use Rattle.fbas_core.proofs.System.kept_sets.Goals.{in-Some-quorum_set+in_ok-renumber-in-Some-quorum_set, in-None-quorum_set}

pub quorum_set-requires : goal.quorum_set-requires
quorum_set-requires c =
    let whole = ap (λ (vs : List ℕ). c.loop-v.yielded ++ vs) (sym c.in-Some.ensures.steps) ∙ c.loop-v.invariant.0 in
    let low : c.in-Some.v < length c.args.kept.now = iterated_below c.args.kept.now c.loop-v.yielded c.next.new.self c.in-Some.v whole in
    omega (arith, low, c.requires.same_n)

pub renumber-requires : goal.renumber-requires
renumber-requires c = subst (λ (n : ℕ). IsBelow n c.in-Some-quorum_set.quorum_set.now) (sym (c.requires.ranks.same_n ∙ c.requires.same_n)) c.in-Some-quorum_set.ensures.below

pub loop-v-preserved : goal.loop-v-preserved
loop-v-preserved c =
    let t = c.args.kept.now in
    let sets = c.args.self.now.sets in
    let g = option_map (renumbered t) in
    let ws = c.loop-v.yielded in
    let v = c.in-Some.v in
    let at = λ (w : ℕ). slice_index_or (map g sets) w None in
    let whole = ap (λ (vs : List ℕ). ws ++ vs) (sym c.in-Some.ensures.steps) ∙ c.loop-v.invariant.0 in
    let next = λ (o : Option QuorumSet) (here : slice_get sets v ≡ Some o). ap (λ (y : Option QuorumSet). map at ws ++ y ∷ []) (sym (get_or_from_slice_get (map g sets) v (g o) None (slice_get-map g sets v ∙ ap (option_map g) here))) ∙ sym (map-append at ws (v ∷ [])) in (
      append_assoc ws (v ∷ []) c.next.new.self ∙ whole,
      elim c.match-quorum_set.branch [
        | in-Some-quorum_set+in_ok-renumber-in-Some-quorum_set x ↦
            let q = x.in-Some-quorum_set.quorum_set.now in
            rw (c.in_ok-push.ensures.items, x.push-is) (ap₂ (λ (xs : Fbas) (y : QuorumSet). xs ++ Some y ∷ []) c.loop-v.invariant.1 (x.in_ok-renumber-in-Some-quorum_set.ensures t c.requires.ranks) ∙ next (Some q) x.in-Some-quorum_set.ensures.set)
        | in-None-quorum_set x ↦ rw (c.in_ok-push.ensures.items, x.push-is) (ap (λ (xs : Fbas). xs ++ None ∷ []) c.loop-v.invariant.1 ∙ next None x.in-None-quorum_set.ensures.set)
      ],
    )

pub returns : goal.returns
returns c =
    let t = c.args.kept.now in
    let g = option_map (renumbered t) in
    let sets = map g c.args.self.now.sets in
    let ws = c.loop-v.yielded in
    let whole : ws ≡ listed_from 0 t = sym (append-nil ws) ∙ (ap (λ (vs : List ℕ). ws ++ vs) (sym c.in-None.ensures.steps.0) ∙ c.loop-v.invariant.0) in
    c.loop-v.invariant.1 ∙ (ap (λ (vs : List ℕ). map (λ w. slice_index_or sets w None) vs) whole ∙ sym (kept_listed t sets None (c.requires.same_n ∙ sym (length-map c.args.self.now.sets g))))
