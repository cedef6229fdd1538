use Rattle.std.proofs.Common.{◌≡◌, length, ◌∙◌, ap}
use Rattle.fbas_model.specs.Nodes.{Nodes, members, only, ◌∪◌}
use Rattle.greatest_quorum.proofs.Shrinking.{blocks_without_iff, cut_all}
use Rattle.greatest_quorum.proofs.blocks_without.Goals as goal

pub returns-clause-blocks : goal.returns-clause-blocks
returns-clause-blocks c =
    let f = c.args.system.now.sets in
    let s = members c.args.s.now in
    let out = cut_all f (length c.args.scratch.now) s (members c.fill.new.self) (members c.minus.new.self) c.requires.same_scratch c.fill.ensures.all c.minus.ensures.left in
    let one : members c.put.new.self ≡ only c.args.v = c.put.ensures.added ∙ ap (λ (t : Nodes). t ∪ only c.args.v) c.new-needed.ensures.empty in
    blocks_without_iff f (members c.args.faulty.now) c.args.s.now c.args.v (members c.minus.new.self) (members c.put.new.self) (members c.quorum_with.new.u) c.quorum_with.result out one c.requires.with_v c.quorum_with.ensures.found
