-- What an order of variables is seen as.
use Rattle.std.specs.Prelude.{◌≡◌, ℕ, ◌+◌, ◌<◌, ◌^◌, length}
use Rattle.search_heuristics.specs.declared.order.DecisionOrder.TheInside.{Inside}

-- the number of variables
abbrev pub shown : Inside → ℕ
shown o = o.vars

-- each variable has a score and a phase, at its number
pub record IsOrder (o : Inside) : Type 0 where
  pub few : o.vars < 2 ^ 31
  pub scores_long : length o.scores.items ≡ o.vars + 1
  pub phases_long : length o.phases.items ≡ o.vars + 1
