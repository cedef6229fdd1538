use Rattle.std.proofs.Common.{◌≤◌, ℕ, sym, ◌∙◌, subst}
use Rattle.clause_encoder.specs.NameCounter.{counter_vars}
use Rattle.clause_encoder.specs.declared.limits.TheConstants.{MOST_VARS}
use Rattle.cert_writer.specs.Least.{LeastShows}
use Rattle.command_run.proofs.Over.{there_asked}
use Rattle.command_run.proofs.commands.LeastFoundFound.write.Goals as goal

pub write_least-requires-clause-small : goal.write_least-requires-clause-small
write_least-requires-clause-small g c = subst (λ (n : ℕ). counter_vars n ≤ MOST_VARS) (sym c.requires.found.0.0) c.requires.found.0.1.small

pub write_least-requires-clause-found : goal.write_least-requires-clause-found
write_least-requires-clause-found g c =
    let over = c.args.over.now in
    let budget = over.search.now.budget in
    let outcome = c.args.self.now.outcome in
    c.what_is_least_is_found.ensures.written over.part.now over.faulty.now budget outcome (sym c.len.ensures.names ∙ c.len.ensures.sets) (there_asked over (λ f b. LeastShows f.sets b budget outcome) c.requires.over c.requires.found.0.1)
