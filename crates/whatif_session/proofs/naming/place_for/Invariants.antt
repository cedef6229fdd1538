use Rattle.std.proofs.Common.{◌≡◌, ◌≤◌, take}
use Rattle.whatif_session.specs.Names.{place_for}
use Rattle.whatif_session.proofs.naming.place_for.Given as goal

abbrev pub invariant-loop-at : goal.invariant-loop-at
invariant-loop-at l = (l.place ≡ place_for l.name (take l.at l.names)) × (l.place ≤ l.at)
