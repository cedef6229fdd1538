use Rattle.std.proofs.Common.{◌∙◌, arith}
use Rattle.fbas_model.proofs.Listed.{iterated_below}
use Rattle.cert_writer.proofs.Loops.{next_there, next_past, all_past}
use Rattle.cert_writer.proofs.WritingLaws.{writes_more, writes_same, writes_nothing}
use Rattle.cert_writer.proofs.TextSteps.{names_push, names_all}
use Rattle.cert_writer.proofs.writer.CertWriter.names.Goals as goal

pub loop-v-init : goal.loop-v-init
loop-v-init g c = (c.into_iter-v-iterator.ensures.into_iter_gives ∙ c.iter-v-items.ensures, writes_nothing _ _ _ _)

pub name-requires : goal.name-requires
name-requires g c = omega (arith, iterated_below c.args.set.now c.loop-v.yielded _ c.in-Some.v (next_there _ _ _ c.loop-v.invariant.0 _ _ c.in-Some.ensures.steps), c.requires)

pub loop-v-preserved : goal.loop-v-preserved
loop-v-preserved g c = (next_past c.loop-v.yielded _ _ c.loop-v.invariant.0 c.in-Some.v _ c.in-Some.ensures.steps, writes_same _ _ _ _ _ _ _ _ _ (names_push c.args.names.now c.loop-v.yielded c.in-Some.v c.name.result.now c.name.ensures) (writes_more _ _ _ _ _ _ _ _ _ _ _ _ c.loop-v.invariant.1 c.word.ensures))

pub returns : goal.returns
returns g c = writes_same _ _ _ _ _ _ _ _ _ (names_all c.args.names.now c.args.set.now c.loop-v.yielded (all_past _ _ _ c.loop-v.invariant.0 c.in-None.ensures.steps.0) c.requires) c.loop-v.invariant.1
