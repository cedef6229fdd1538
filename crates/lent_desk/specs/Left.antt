-- What is left to read, over what is kept in the room.
use Rattle.std.specs.Prelude.{ℕ, List, ◌++◌}
use Rattle.desk_io.specs.declared.desk.Which.{Which}
use Rattle.desk_io.specs.declared.desk.Which.TheVariants.{Config, Orgs, Script, Cert}
use Rattle.desk_io.specs.State.{Left as AllBytes}
use Rattle.lent_desk.specs.declared.left.Left.{Left}
use Rattle.lent_desk.specs.declared.left.AllLeft.{AllLeft}
use Rattle.lent_desk.specs.Spans.{slice_in, Fits}

abbrev pub rest_in : Left → List ℕ → List ℕ
rest_in left kept = left.lent.now ++ slice_in left.span kept

abbrev pub reader_at : Which → AllLeft → Left
reader_at Config all = all.config
reader_at Orgs all = all.orgs
reader_at Script all = all.script
reader_at Cert all = all.cert

abbrev pub with_reader : Which → Left → AllLeft → AllLeft
with_reader Config left all = record all { config = left }
with_reader Orgs left all = record all { orgs = left }
with_reader Script left all = record all { script = left }
with_reader Cert left all = record all { cert = left }

-- what is left of each, as the desk tells it
abbrev pub all_rest_in : AllLeft → List ℕ → AllBytes
all_rest_in all kept = record { config = rest_in all.config kept; orgs = rest_in all.orgs kept; script = rest_in all.script kept; cert = rest_in all.cert kept }

-- each lies within so many bytes
abbrev pub FitsLeft : ℕ → AllLeft → Type 0
FitsLeft kept all = (which : Which) → Fits kept (reader_at which all).span
