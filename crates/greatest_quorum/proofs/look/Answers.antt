use Rattle.std.proofs.Common.{◌≡◌, sym, ◌∙◌, ap}
use Rattle.std.proofs.lemmas.Bool.{both_ways}
use Rattle.fbas_model.specs.Nodes.{Nodes, members, only, ◌∪◌, ◌∩◌, ◌∖◌}
use Rattle.fbas_core.specs.Mentioning.{mentioning}
use Rattle.greatest_quorum.proofs.look.Goals as goal

pub returns : goal.returns
returns c =
    let waiting : members c.meet.new.self ≡ ((members c.args.again.now ∖ only c.args.v) ∪ mentioning c.args.system.now.sets c.args.v) ∩ members c.take-2.new.self =
    c.meet.ensures.shared ∙ ap (λ (s : Nodes). s ∩ members c.take-2.new.self) (c.add_mentioning.ensures.added ∙ ap (λ (s : Nodes). s ∪ mentioning c.args.system.now.sets c.args.v) c.take.ensures.taken) in
    record {
      same_n = c.take-2.ensures.size;
      same_again = c.meet.ensures.size ∙ (c.add_mentioning.ensures.same_n ∙ c.take.ensures.size);
      look = record {
        here = sym c.has.ensures ∙ c.if-not-has.false;
        stuck = λ h. both_ways c.slice_in.result c.if-slice_in.false (c.slice_in.ensures.1 h);
        taken = c.take-2.ensures.taken;
        waiting = waiting;
      };
    }
