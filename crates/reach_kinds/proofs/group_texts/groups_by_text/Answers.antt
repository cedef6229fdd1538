use Rattle.std.proofs.Common.{Result, sym, ap, ◌∙◌, lit<}
use Rattle.std.proofs.lemmas.Bool.{both_ways}
use Rattle.fbas_model.specs.Nodes.{Table}
use Rattle.cert_lines.specs.declared.faults.CertError.{CertError}
use Rattle.reach_kinds.specs.Bodies.{and_then, within}
use Rattle.reach_kinds.proofs.Inside.{lies_within, not_within}
use Rattle.reach_kinds.proofs.group_texts.groups_by_text.Goals as goal

pub lies_in-requires : goal.lies_in-requires
lies_in-requires c = (lit< tt, c.in_ok-set.ensures.size ∙ sym c.requires.places)

pub returns-then-not-lies_in-clause-value : goal.returns-then-not-lies_in-clause-value
returns-then-not-lies_in-clause-value c =
    let p = c.args.over.now in
    let s = c.in_ok-set.set in
    sym (ap (λ (r : Result Table CertError). and_then (within p.touched c.args.line) r) (sym c.in_ok-set.ensures.value)
    ∙ not_within p.touched c.args.line s (c.in_ok-set.ensures.size ∙ sym c.requires.places) (λ inner. both_ways c.lies_in.result c.if-not-lies_in.true (c.lies_in.ensures.1 inner)))

pub returns-clause-value : goal.returns-clause-value
returns-clause-value c =
    let p = c.args.over.now in
    let s = c.in_ok-set.set in
    sym (ap (λ (r : Result Table CertError). and_then (within p.touched c.args.line) r) (sym c.in_ok-set.ensures.value)
    ∙ lies_within p.touched c.args.line s (c.in_ok-set.ensures.size ∙ sym c.requires.places) (c.lies_in.ensures.0 c.if-not-lies_in.false))
