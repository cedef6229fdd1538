use Rattle.std.proofs.Common.{◌≡◌, ◌++◌}
use Rattle.fbas_model.specs.Nodes.{listed_from}
use Rattle.printed_lines.proofs.Lists.{named}
use Rattle.printed_lines.proofs.words.push_names.Given as goal

abbrev pub invariant-loop-v : goal.invariant-loop-v
invariant-loop-v l = (l.yielded ++ l.v-iterator ≡ listed_from 0 l.set) × (l.text.items ≡ l.fn.text.items ++ named l.system.names l.yielded)
