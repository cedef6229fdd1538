use Rattle.std.proofs.Common.{ℕ, sym, ◌∙◌, subst}
use Rattle.cert_writer.specs.Finding.{CanBeWritten}
use Rattle.command_run.proofs.Over.{answer_there}
use Rattle.command_run.proofs.commands.write_answer.Goals as goal

pub write_found-requires-clause-found : goal.write_found-requires-clause-found
write_found-requires-clause-found g c = subst (λ (n : ℕ). CanBeWritten n c.args.found.now) (sym c.len.ensures.sets ∙ c.len.ensures.names) (answer_there c.args.over.now c.args.found.now c.requires.over c.requires.found.0)
