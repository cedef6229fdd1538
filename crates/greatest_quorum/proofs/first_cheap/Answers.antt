use Rattle.std.proofs.Common.{◌<◌, ℕ, List, ◌++◌, length, sym, ◌∙◌, ap, arith}
use Rattle.fbas_model.proofs.Listed.{iterated_below, iterated_member}
use Rattle.greatest_quorum.proofs.first_cheap.Goals as goal

pub has_few_entries-requires : goal.has_few_entries-requires
has_few_entries-requires c =
    let whole = ap (λ (ws : List ℕ). c.loop-v.yielded ++ ws) (sym c.in-Some.ensures.steps) ∙ c.loop-v.invariant in
    let low : c.in-Some.v < length c.args.again.now = iterated_below c.args.again.now c.loop-v.yielded c.next.new.self c.in-Some.v whole in
    omega (arith, low, c.requires)

pub returns-then-has_few_entries : goal.returns-then-has_few_entries
returns-then-has_few_entries c =
    iterated_member c.args.again.now c.loop-v.yielded c.next.new.self c.in-Some.v (ap (λ (ws : List ℕ). c.loop-v.yielded ++ ws) (sym c.in-Some.ensures.steps) ∙ c.loop-v.invariant)
