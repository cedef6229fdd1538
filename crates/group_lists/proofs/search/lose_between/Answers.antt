use Rattle.std.proofs.Common.{◌<◌, length, sym, ap, ◌∙◌, subst, arith, lit<}
use Rattle.std.proofs.lemmas.Bool.{and_parts}
use Rattle.fbas_model.specs.Nodes.{Nodes, Table, members, ◌∈◌}
use Rattle.fbas_model.specs.Fbas.{Quorum}
use Rattle.greatest_quorum.proofs.Shrinking.{quorum_where_some}
use Rattle.group_journal.proofs.Touched.{sized_at}
use Rattle.group_lists.proofs.search.lose_between.Goals as goal

pub loop-at-init : goal.loop-at-init
loop-at-init c = record {
  size = ap (λ (t : Table). length t) c.copy_from.ensures ∙ c.requires.same_n;
  within = λ v here. subst (λ (t : Table). v ∈ members t) c.copy_from.ensures here;
}

pub minus-requires : goal.minus-requires
minus-requires c =
    let low : c.loop-at.at < length c.args.groups.now = omega (arith, c.loop-at-test.true, c.requires.place) in
    (lit< tt, c.loop-at.invariant.size ∙ sym (sym (ap (λ (t : Table). length t) c.members.ensures) ∙ sized_at c.args.groups.now (length c.args.system.now.sets) c.loop-at.at c.requires.sized low))

pub loop-at-preserved : goal.loop-at-preserved
loop-at-preserved c = record {
  size = c.minus.ensures.size ∙ c.loop-at.invariant.size;
  within = λ v here.
      let cut = subst (λ (s : Nodes). v ∈ s) c.minus.ensures.left here in
      c.loop-at.invariant.within v (and_parts (members c.loop-at.scratch v) _ cut).0;
}

pub shrink-requires-clause-same_n : goal.shrink-requires-clause-same_n
shrink-requires-clause-same_n c = c.loop-at.invariant.size

pub returns-then-is_empty-clause-same_scratch : goal.returns-then-is_empty-clause-same_scratch
returns-then-is_empty-clause-same_scratch c = c.shrink.ensures.same_n ∙ c.loop-at.invariant.size ∙ sym c.requires.same_scratch

pub copy_from-requires-2 : goal.copy_from-requires-2
copy_from-requires-2 c = (lit< tt, c.requires.same_n ∙ sym (c.shrink.ensures.same_n ∙ c.loop-at.invariant.size))

pub returns-clause-same_n : goal.returns-clause-same_n
returns-clause-same_n c = ap (λ (t : Table). length t) c.copy_from-2.ensures ∙ c.shrink.ensures.same_n ∙ c.loop-at.invariant.size ∙ sym c.requires.same_n

pub returns-clause-same_scratch : goal.returns-clause-same_scratch
returns-clause-same_scratch c = c.shrink.ensures.same_n ∙ c.loop-at.invariant.size ∙ sym c.requires.same_scratch

pub returns-clause-within : goal.returns-clause-within
returns-clause-within c = λ v here.
    let left = subst (λ (t : Table). v ∈ members t) c.copy_from-2.ensures here in
    c.loop-at.invariant.within v (and_parts (members c.loop-at.scratch v) _ (c.shrink.ensures.greatest.within v left)).0

pub returns-clause-quorum : goal.returns-clause-quorum
returns-clause-quorum c =
    let f = c.args.system.now.sets in
    let b = members c.args.faulty.now in
    subst (λ (t : Table). Quorum f b (members t)) (sym c.copy_from-2.ensures) (quorum_where_some f b (members c.loop-at.scratch) c.shrink.new.u c.is_empty.result c.is_empty.ensures c.if-is_empty.false c.shrink.ensures.greatest)
