-- A line of a body, at its place.
use Rattle.std.specs.Prelude.{ℕ, List, Result, Ok, codes}
use Rattle.fbas_model.specs.Nodes.{Table}
use Rattle.fbas_model.specs.Systems.{System}
use Rattle.cert_lines.specs.declared.faults.CertError.{CertError}
use Rattle.reach_kinds.specs.Bodies.{expected, counter_line, list_line}
use Rattle.reach_kinds.specs.GroupBodies.{group_line}
use Rattle.reach_kinds.specs.declared.places.ReachPlace.{ReachPlace}
use Rattle.reach_kinds.specs.declared.places.ReachPlace.TheVariants.{AtCounter, AtList, AtGroups, AtEnd}
use Rattle.reach_kinds.specs.declared.places.ReachState.{ReachState}
use Rattle.reach_kinds.specs.declared.places.ReachState.TheVariants.{Done}

-- line l taken at its place, where the body speaks of these nodes of the system
abbrev pub reach_line : System → Table → ReachPlace → ℕ → List ℕ → Result ReachState CertError
reach_line f nodes (AtCounter kind p) l text = counter_line kind p l text
reach_line f nodes (AtList k) l text = list_line f nodes k l text
reach_line f nodes (AtGroups k) l text = group_line f nodes k l text
reach_line f nodes (AtEnd r) l text = expected l text (codes "end") (Ok (Done r))
