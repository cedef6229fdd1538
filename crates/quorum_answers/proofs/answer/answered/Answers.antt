use Rattle.std.proofs.Common.{[], ◌∷◌, ap}
use Rattle.lent_desk.specs.Files.{files_named}
use Rattle.quorum_answers.specs.declared.answer.QuorumEnd.{QuorumEnd}
use Rattle.quorum_answers.specs.Answering.{words_in, program}
use Rattle.quorum_answers.proofs.Endings.{memory_wanting}
use Rattle.quorum_answers.proofs.answer.answered.Goals as goal

pub returns-in-Err-Memory-clause-words : goal.returns-in-Err-Memory-clause-words
returns-in-Err-Memory-clause-words c = λ text.
    memory_wanting (program ∷ words_in c.args.text.now) (files_named c.args.files.config.now c.args.files.orgs.now c.args.files.script.now c.args.files.cert.now) c.args.room.now c.silent.result
    (ap (λ (end : QuorumEnd). end.status) c.silent.ensures) (ap (λ (end : QuorumEnd). end.cert) c.silent.ensures, ap (λ (end : QuorumEnd). end.text) c.silent.ensures)
    (ap (λ (end : QuorumEnd). end.wanting) c.silent.ensures)

pub returns-in-Err-Memory-clause-other : goal.returns-in-Err-Memory-clause-other
returns-in-Err-Memory-clause-other c = λ other.
    memory_wanting [] (files_named c.args.files.config.now c.args.files.orgs.now c.args.files.script.now c.args.files.cert.now) c.args.room.now c.silent.result
    (ap (λ (end : QuorumEnd). end.status) c.silent.ensures) (ap (λ (end : QuorumEnd). end.cert) c.silent.ensures, ap (λ (end : QuorumEnd). end.text) c.silent.ensures)
    (ap (λ (end : QuorumEnd). end.wanting) c.silent.ensures)
