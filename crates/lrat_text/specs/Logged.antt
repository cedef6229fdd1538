-- What the fields of a log show.
use Rattle.std.specs.Prelude.{List, map, length, All}
use Rattle.lrat_model.specs.Steps.{ProofStep}
use Rattle.lrat_text.specs.declared.log.Log.TheInside.{Inside}
use Rattle.lrat_text.specs.Entries.{entry_step, IsInside}

-- the steps in order
abbrev pub shown : Inside → List ProofStep
shown log = map (entry_step log.lits.items log.short.items log.wide.items log.ids.items) log.entries.items

-- what is true of each log
abbrev pub IsLog : Inside → Type 0
IsLog log = All (IsInside (length log.lits.items) (length log.short.items) (length log.wide.items) (length log.ids.items)) log.entries.items
