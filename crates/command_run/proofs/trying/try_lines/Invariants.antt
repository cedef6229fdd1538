use Rattle.std.proofs.Common.{◌≡◌, ◌+◌, [], drop}
use Rattle.std.specs.Prelude.{map}
use Rattle.whatif_session.specs.Scripts.{states_from}
use Rattle.command_run.proofs.Edited.{said_after}
use Rattle.command_run.proofs.trying.try_lines.Given as goal

abbrev pub invariant-loop-i : goal.invariant-loop-i
invariant-loop-i l = said_after l.text.items l.names l.i (states_from (l.i + 1) l.session.system (map (λ line. line.now) (drop l.i l.lines))) ≡ said_after [] l.names 0 (states_from 1 l.fn.session.system (map (λ line. line.now) l.lines))
