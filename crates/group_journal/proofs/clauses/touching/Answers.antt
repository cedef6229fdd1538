use Rattle.std.proofs.Common.{◌≡◌, ◌+◌, ◌<◌, ◌≤◌, length, sym, ap, ◌∙◌, arith, subst, lit<}
use Rattle.std.proofs.lemmas.List.{length-map}
use Rattle.fbas_model.specs.Nodes.{Table}
use Rattle.enumeration_journal.specs.Tests.{is_meeting}
use Rattle.node_json.specs.Groups as spec
use Rattle.node_json.specs.Groups.{tables_of}
use Rattle.group_journal.proofs.Touched.{AreFound, found_first, found_yes, found_no, found_whole, meeting_yes, meeting_no, sized_at}
use Rattle.group_journal.proofs.clauses.touching.Goals as goal
use Rattle.group_journal.proofs.clauses.touching.Goals.{then-meets, else-meets}

pub loop-at-init : goal.loop-at-init
loop-at-init c = found_first (tables_of c.args.groups.now) c.args.nodes.now c.new-touched.result (c.new-touched.ensures.size ∙ c.len.ensures.count ∙ sym (length-map c.args.groups.now (λ (g : spec.Group). g.members))) c.new-touched.ensures.empty

pub meets-requires : goal.meets-requires
meets-requires c =
    let low : c.loop-at.at < length c.args.groups.now = omega (arith, c.loop-at-test.true, c.len-at-end.ensures.count) in
    (lit< tt, sym (ap (λ (t : Table). length t) c.members.ensures) ∙ sized_at c.args.groups.now (length c.args.nodes.now) c.loop-at.at c.requires.sized low)

pub put-requires : goal.put-requires
put-requires c = (lit< tt, omega (arith, c.loop-at-test.true, c.loop-at.invariant.0, length-map c.args.groups.now (λ (g : spec.Group). g.members), c.len-at-end.ensures.count))

pub loop-at-preserved : goal.loop-at-preserved
loop-at-preserved c =
    let gs = tables_of c.args.groups.now in
    let nodes = c.args.nodes.now in
    let group = c.members.result.now in
    let low : c.loop-at.at < length gs = omega (arith, c.loop-at-test.true, length-map c.args.groups.now (λ (g : spec.Group). g.members), c.len-at-end.ensures.count) in
    elim c.if-meets.branch [
      | then-meets w ↦ subst (λ (t : Table). AreFound gs nodes t (c.loop-at.at + 1)) (sym w.touched-is) (found_yes gs nodes c.loop-at.touched c.loop-at.at low c.loop-at.invariant w.put.new.self
          (ap (λ (t : Table). is_meeting t nodes) c.members.ensures ∙ meeting_yes group nodes c.meets.result w.if-meets.true c.meets.ensures.0) w.put.ensures.size w.put.ensures.added)
      | else-meets w ↦ subst (λ (t : Table). AreFound gs nodes t (c.loop-at.at + 1)) (sym w.touched-is) (found_no gs nodes c.loop-at.touched c.loop-at.at low c.loop-at.invariant
          (ap (λ (t : Table). is_meeting t nodes) c.members.ensures ∙ meeting_no group nodes c.meets.result w.if-meets.false c.meets.ensures.1))
    ]

pub returns : goal.returns
returns c =
    let past : length (tables_of c.args.groups.now) ≤ c.loop-at.at = omega (arith, c.loop-at-test.false, length-map c.args.groups.now (λ (g : spec.Group). g.members), c.len-at-end.ensures.count) in
    found_whole (tables_of c.args.groups.now) c.args.nodes.now c.loop-at.touched c.loop-at.at past c.loop-at.invariant
