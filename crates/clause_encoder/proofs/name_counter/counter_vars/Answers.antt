use Rattle.std.proofs.Common.{◌≡◌, ℕ, ◌+◌, ◌*◌, ◌/◌, ◌∙◌, sym, ap, arith}
use Rattle.clause_encoder.proofs.NameWriting.{vars_by_half}
use Rattle.clause_encoder.proofs.name_counter.counter_vars.Goals as goal

pub returns : goal.returns
returns c =
    let same : c.from-names.result ≡ c.args.g = omega arith in
    ap (λ (n : ℕ). n + n * (n + 1) / 2) same ∙ sym (vars_by_half c.args.g)
