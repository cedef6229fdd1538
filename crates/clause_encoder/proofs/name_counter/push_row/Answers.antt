use Rattle.std.proofs.Common.{◌≡◌, ℕ, ◌+◌, ◌++◌, ap, ◌∙◌, arith}
use Rattle.clause_encoder.specs.NameCounter.{row_of}
use Rattle.clause_encoder.proofs.name_counter.push_row.Goals as goal

pub returns : goal.returns
returns c = λ g at.
    let end : c.loop-j.j ≡ c.args.i + 1 = omega arith in
    c.loop-j.invariant g at ∙ ap (λ (n : ℕ). c.args.clauses.now ++ row_of g c.args.i n) end
