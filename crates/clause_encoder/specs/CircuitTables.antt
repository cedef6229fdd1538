-- What the fields of a table of circuits show.
use Rattle.std.specs.Prelude.{◌<◌, All, length}
use Rattle.clause_encoder.specs.Written.{CircuitTable}
use Rattle.clause_encoder.specs.declared.circuits.Circuits.TheInside.{Inside}

abbrev pub shown : Inside → CircuitTable
shown c = record { different = c.different.keys; kinds = c.kinds.items }

-- each node has one of the circuits
abbrev pub IsTable : Inside → Type 0
IsTable c = All (λ k. k < length c.different.keys) c.kinds.items
