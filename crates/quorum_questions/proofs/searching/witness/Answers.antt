use Rattle.std.proofs.Common.{rules}
use Rattle.fbas_model.specs.Nodes.{members}
use Rattle.clause_encoder.specs.declared.version.Version.TheVariants.{Three}
use Rattle.quorum_questions.proofs.Witnesses.{no_fault}
use Rattle.quorum_questions.proofs.searching.witness.Goals as goal

pub unreachable-requires : goal.unreachable-requires
unreachable-requires c =
    let f = c.args.asked.now.system.now.sets in
    let b = c.args.asked.now.faulty.now in
    no_fault f (members b) (members c.pair-first.result.0) (members c.pair-first.result.1) c.in-Err.field-0
    (c.pair-first.ensures.quorums Three f b c.requires.tells.greatest c.requires.tells.satisfied) c.in-Err.ensures.fault

pub returns : goal.returns
returns c = record {
  apart = c.in-Ok.ensures.pair;
  first = search rules;
  second = search rules;
}
