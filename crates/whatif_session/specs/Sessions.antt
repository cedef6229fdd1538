-- Where a session stands, and what is told of its system.
use Rattle.std.specs.Prelude.{ℕ, List, Bool, length, refl}
use Rattle.std.specs.Coded.{Coded, coded×, coded_list, coded_bool, code_by}
use Rattle.fbas_model.specs.Nodes.{Table, ∅}
use Rattle.fbas_model.specs.Names.{marks}
use Rattle.fbas_model.specs.Restriction.{table_from}
use Rattle.fbas_model.specs.Systems.{System, coded_system}
use Rattle.name_set.specs.Lists.{items_of}
use Rattle.greatest_quorum.specs.Greatest.{greatest_of}
use Rattle.greatest_quorum.specs.Unmet.{unmet_of}

-- the system after the edits so far, and the nodes that were unmet where availability was asked for last
pub record Session : Type 0 where
  pub system : System
  pub unmet : Table

abbrev pub coded_session : Coded Session
coded_session = code_by (System × List Bool) (coded× coded_system (coded_list coded_bool)) (λ s. (s.system, s.unmet)) (λ p. record { system = p.0; unmet = p.1 }) (λ _. refl)

-- no node of a system
abbrev pub nobody : System → Table
nobody s = table_from 0 (length s.sets) ∅

-- a session over a system of which nothing was asked
abbrev pub started : System → Session
started s = record { system = s; unmet = nobody s }

-- the session after availability was asked for despite a set
abbrev pub asked : Session → Table → Session
asked s set = record { system = s.system; unmet = unmet_of s.system.sets set }

-- ---- what is told of a system

-- its greatest quorum, or no node where there is no quorum
abbrev pub greatest_in : System → Table
greatest_in s = greatest_of s.sets (nobody s)

-- those of its nodes whose names stand in a list, which stands between commas
abbrev pub set_in : List ℕ → System → Table
set_in text s = marks s.names (items_of text)

-- its nodes outside that set that have no slice outside it
abbrev pub unmet_in : List ℕ → System → Table
unmet_in text s = unmet_of s.sets (set_in text s)
