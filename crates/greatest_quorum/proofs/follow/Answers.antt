use Rattle.std.proofs.Common.{◌≡◌, true, false, sym, ap, subst, ◌∙◌}
use Rattle.std.proofs.lemmas.Bool.{both_ways, false≢true}
use Rattle.fbas_model.specs.Nodes.{Nodes, Table, members, ◌∈◌, only, ◌∪◌}
use Rattle.fbas_model.specs.Fbas.{IsGreatestQuorum, all_nodes}
use Rattle.greatest_quorum.specs.Looks.{AreWaiting}
use Rattle.greatest_quorum.proofs.Changing.{change_inside, change_outside, within_all, only_one_in, all_left, widened, waiting_inside, waiting_outside}
use Rattle.greatest_quorum.proofs.Shrinking.{settled_with, shrunk_all}
use Rattle.greatest_quorum.proofs.follow.Goals as goal

pub returns-then-has-clause-follows : goal.returns-then-has-clause-follows
returns-then-has-clause-follows c = λ f is old.
    let then = c.args.system.now.sets in
    let b = members c.args.faulty.now in
    let g = members c.args.greatest.now in
    let one : members c.copy-waiting.result ≡ only c.args.v = ap members c.copy-waiting.ensures ∙ c.put.ensures.added ∙ ap (λ (t : Nodes). t ∪ only c.args.v) (ap members c.copy-one.ensures ∙ c.new-none.ensures.empty) in
    let waiting : AreWaiting then b g (members c.copy-waiting.result) = subst (λ (t : Nodes). AreWaiting then b g t) (sym one) (waiting_inside f then c.args.v b g is old) in
    let settled = c.settle_from.ensures.settled waiting (λ x at. absurd (false≢true (subst (λ (t : Nodes). x ∈ t) c.new-none.ensures.empty at))) in
    change_inside f then c.args.v b g (members c.settle_from.new.u) is old (sym c.has.ensures ∙ c.if-has.true) (shrunk_all then b g (members c.settle_from.new.u) c.new-none.result c.settle_from.result c.new-none.ensures.empty settled)

pub returns-then-not-has-clause-follows : goal.returns-then-not-has-clause-follows
returns-then-not-has-clause-follows c = λ f is old.
    let then = c.args.system.now.sets in
    let b = members c.args.faulty.now in
    let all = all_left then b c.new-none.result c.copy-wider.result c.fill.new.self c.minus.new.self (c.new-none.ensures.size ∙ c.len.ensures.sets) c.copy-wider.ensures c.fill.ensures.all c.minus.ensures.left in
    change_outside f then c.args.v b (members c.args.greatest.now) is old (sym c.has.ensures ∙ c.if-has.false)
    (λ w q here. both_ways (members c.minus.new.self c.args.v) (sym c.has-2.ensures ∙ c.if-not-has.true) (subst (λ (s : Nodes). c.args.v ∈ s) (sym all) (q.left c.args.v here)))

pub returns-then-settle_from-clause-follows : goal.returns-then-settle_from-clause-follows
returns-then-settle_from-clause-follows c = λ f is old.
    let w = widened c.args.system.now.sets c.args.v (members c.args.faulty.now) (members c.args.greatest.now) c.new-none.result c.copy-one.result c.put.new.self c.copy-wider.result c.fill.new.self c.minus.new.self c.copy-waiting-2.result c.minus-2.new.self (c.new-none.ensures.size ∙ c.len.ensures.sets) c.new-none.ensures.empty c.copy-one.ensures c.put.ensures.added c.copy-wider.ensures c.fill.ensures.all c.minus.ensures.left c.copy-waiting-2.ensures c.minus-2.ensures.left in
    let settled = c.if-settle_from.ensures.settled (waiting_outside f c.args.system.now.sets c.args.v (members c.args.faulty.now) (members c.args.greatest.now) (members c.minus.new.self) (members c.minus-2.new.self) is old (sym c.has.ensures ∙ c.if-has.false) w.all w.rest) (w.within (sym c.has-2.ensures ∙ c.if-not-has.false)) in
    let new = (settled_with c.args.system.now.sets (members c.args.faulty.now) (all_nodes c.args.system.now.sets) (members c.minus.new.self) (members c.put.new.self) (members c.settle_from-2.new.u) true w.all settled).0 in
    subst (λ (t : Table). IsGreatestQuorum c.args.system.now.sets (members c.args.faulty.now) (all_nodes c.args.system.now.sets) (members t)) (sym c.copy_from.ensures) new

pub returns-else-settle_from-clause-follows : goal.returns-else-settle_from-clause-follows
returns-else-settle_from-clause-follows c = λ f is old.
    let w = widened c.args.system.now.sets c.args.v (members c.args.faulty.now) (members c.args.greatest.now) c.new-none.result c.copy-one.result c.put.new.self c.copy-wider.result c.fill.new.self c.minus.new.self c.copy-waiting-2.result c.minus-2.new.self (c.new-none.ensures.size ∙ c.len.ensures.sets) c.new-none.ensures.empty c.copy-one.ensures c.put.ensures.added c.copy-wider.ensures c.fill.ensures.all c.minus.ensures.left c.copy-waiting-2.ensures c.minus-2.ensures.left in
    let settled = c.if-settle_from.ensures.settled (waiting_outside f c.args.system.now.sets c.args.v (members c.args.faulty.now) (members c.args.greatest.now) (members c.minus.new.self) (members c.minus-2.new.self) is old (sym c.has.ensures ∙ c.if-has.false) w.all w.rest) (w.within (sym c.has-2.ensures ∙ c.if-not-has.false)) in
    let none = settled_with c.args.system.now.sets (members c.args.faulty.now) (all_nodes c.args.system.now.sets) (members c.minus.new.self) (members c.put.new.self) (members c.settle_from-2.new.u) false w.all settled in
    change_outside f c.args.system.now.sets c.args.v (members c.args.faulty.now) (members c.args.greatest.now) is old (sym c.has.ensures ∙ c.if-has.false)
    (λ u q in_u. none.none u q (within_all c.args.system.now.sets (members c.args.faulty.now) u q) (λ x h. only_one_in u c.args.v x in_u (subst (λ (s : Nodes). x ∈ s) w.one_is h)))
