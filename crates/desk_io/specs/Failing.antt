-- The calls that a desk in memory is told to fail.
use Rattle.std.specs.Prelude.{ℕ, ◌-◌, Bool, true, false, List, map, Contains, if◌then◌else◌}
use Rattle.desk_io.specs.declared.desk.Which.{Which}
use Rattle.desk_io.specs.declared.desk.Which.TheVariants.{Config, Orgs, Script, Cert}
use Rattle.desk_io.specs.declared.desk.To.{To}
use Rattle.desk_io.specs.declared.desk.To.TheVariants.{Out, Cert as Certificate}
use Rattle.desk_io.specs.declared.memory.failing.Call.{Call}
use Rattle.desk_io.specs.declared.memory.failing.Call.TheVariants.{Begin, Next, Create, Put}

-- whether two files to read are one
abbrev pub same_which : Which → Which → Bool
same_which Config Config = true
same_which Orgs Orgs = true
same_which Script Script = true
same_which Cert Cert = true
same_which a b = false

-- whether two places to write are one
abbrev pub same_to : To → To → Bool
same_to Out Out = true
same_to Certificate Certificate = true
same_to a b = false

-- whether two kinds of call are one
abbrev pub same_call : Call → Call → Bool
same_call (Begin a) (Begin b) = same_which a b
same_call (Next a) (Next b) = same_which a b
same_call Create Create = true
same_call (Put a) (Put b) = same_to a b
same_call a b = false

-- a listed call after another call: one of its kind is nearer
abbrev pub counted_at : Call → Call × ℕ → Call × ℕ
counted_at call listed = if same_call listed.0 call then (listed.0, listed.1 - 1) else listed

-- the listed calls after this one
abbrev pub counted : Call → List (Call × ℕ) → List (Call × ℕ)
counted call listed = map (counted_at call) listed

-- the list names this call as the next of its kind
abbrev pub IsDue : Call → List (Call × ℕ) → Type 0
IsDue call listed = Contains listed (call, 1)
