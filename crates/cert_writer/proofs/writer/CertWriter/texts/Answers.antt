use Rattle.std.proofs.Common.{◌≡◌, ◌∙◌, length, sym, arith}
use Rattle.std.proofs.lemmas.List.{length-map}
use Rattle.fbas_model.proofs.Listed.{iterated_below}
use Rattle.node_json.specs.Groups.{Group, texts_of}
use Rattle.cert_writer.proofs.Loops.{next_there, next_past, all_past}
use Rattle.cert_writer.proofs.WritingLaws.{writes_more, writes_same, writes_nothing}
use Rattle.cert_writer.proofs.TextSteps.{names_push, names_all}
use Rattle.cert_writer.proofs.writer.CertWriter.texts.Goals as goal

pub loop-at-init : goal.loop-at-init
loop-at-init g c = (c.into_iter-at-iterator.ensures.into_iter_gives ∙ c.iter-at-items.ensures, writes_nothing _ _ _ _)

pub text-requires : goal.text-requires
text-requires g c = omega (arith, iterated_below c.args.set.now c.loop-at.yielded _ c.in-Some.at (next_there _ _ _ c.loop-at.invariant.0 _ _ c.in-Some.ensures.steps), c.requires)

pub loop-at-preserved : goal.loop-at-preserved
loop-at-preserved g c =
    let texts = texts_of c.args.groups.now in
    (next_past c.loop-at.yielded _ _ c.loop-at.invariant.0 c.in-Some.at _ c.in-Some.ensures.steps, writes_same _ _ _ _ _ _ _ _ _ (names_push texts c.loop-at.yielded c.in-Some.at c.text.result.now c.text.ensures) (writes_more _ _ _ _ _ _ _ _ _ _ _ _ c.loop-at.invariant.1 c.word.ensures))

pub returns : goal.returns
returns g c =
    let texts = texts_of c.args.groups.now in
    let places : length c.args.set.now ≡ length texts = c.requires ∙ sym (length-map c.args.groups.now (λ (group : Group). group.text)) in
    writes_same _ _ _ _ _ _ _ _ _ (names_all texts c.args.set.now c.loop-at.yielded (all_past _ _ _ c.loop-at.invariant.0 c.in-None.ensures.steps.0) places) c.loop-at.invariant.1
