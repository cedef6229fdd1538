-- What the fields of a checker show.
use Rattle.std.specs.Prelude.{◌≡◌, ◌<◌, [], IfSome, IfNone}
use Rattle.lrat_checker.specs.declared.checker.Checker.TheInside.{Inside}
use Rattle.lrat_checker.specs.Courses.{adding, Suits, HasGroupRoom}
use Rattle.lrat_checker.specs.Checking.{Stepping}
use Rattle.lrat_checker.specs.Subsets.{AreFound}
use Rattle.lrat_model.specs.Ranges.{IsInRange, AreInRange}

-- what a checker is seen as
abbrev pub shown : Inside → Stepping
shown c = record { rule = c.rule; vars = c.assignment.vars; database = c.clauses; open_addition = adding c.lits.items c.assignment.trues c.groups.hints c.opened }

-- with no addition open no literal is true; one that is open has an id above the last one and literals in range, its hints led
-- where the fields say, and there is room for its groups; each clause held is in range; if there is an index, it has each of them
pub record IsReady (c : Inside) : Type 0 where
  pub nothing_true : IfNone c.opened (c.assignment.trues ≡ [])
  pub above : IfSome c.opened (λ o. c.clauses.last < o.id)
  pub literals : IfSome c.opened (λ _. IsInRange c.assignment.vars c.lits.items)
  pub suits : IfSome c.opened (λ o. Suits c.rule c.assignment.trues c.groups.hints o.course)
  pub room : IfSome c.opened (λ _. HasGroupRoom c.rule c.clauses.held c.lits.items c.groups)
  pub in_range : AreInRange c.assignment.vars c.clauses.held
  pub found : IfSome c.subsets (AreFound c.clauses.held)
