use Rattle.std.proofs.Common.{sym, ap, ◌∙◌}
use Rattle.std.proofs.lemmas.Bool.{both_ways}
use Rattle.fbas_model.specs.Nodes.{Nodes, members, only, ◌∪◌}
use Rattle.greatest_quorum.proofs.Availability.{unmet_node}
use Rattle.whatif_session.proofs.KnownUnmet.{followed_in, followed_out, of_the_set}
use Rattle.whatif_session.proofs.unmet.follow_unmet.Goals as goal
use Rattle.whatif_session.proofs.unmet.follow_unmet.Goals.{else-not-has-via-then-not-has+else-not-slice_outside, else-not-has-via-else-not-has}

pub returns-then-not-slice_outside : goal.returns-then-not-slice_outside
returns-then-not-slice_outside c =
    let then = c.args.system.now.sets in
    let b = members c.args.set.now in
    let unmet = unmet_node then b c.args.v c.requires.node (sym c.has.ensures ∙ c.if-not-has.true) (λ h. both_ways c.slice_outside.result c.if-not-slice_outside.true (c.slice_outside.ensures.1 h)) in
    record {
      follows = λ f is was. followed_in f then c.args.v c.args.set.now c.args.known.now c.put.new.self is was
          (c.put.ensures.size ∙ c.take.ensures.size ∙ c.requires.same_known)
          (c.put.ensures.added ∙ ap (λ (s : Nodes). s ∪ only c.args.v) c.take.ensures.taken)
          unmet;
    }

pub returns-else-not-has : goal.returns-else-not-has
returns-else-not-has c =
    let then = c.args.system.now.sets in
    let b = members c.args.set.now in
    record {
      follows = λ f is was. followed_out f then c.args.v c.args.set.now c.args.known.now c.take.new.self is was
          (c.take.ensures.size ∙ c.requires.same_known)
          c.take.ensures.taken
          (λ u. elim c.else-not-has.branch [
            | else-not-has-via-then-not-has+else-not-slice_outside w ↦ u.stuck (w.slice_outside.ensures.0 w.if-not-slice_outside.false)
            | else-not-has-via-else-not-has w ↦ of_the_set then b c.args.v (sym c.has.ensures ∙ w.if-not-has.false) u
          ]);
    }
