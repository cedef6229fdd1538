use Rattle.std.proofs.Common.{◌≡◌, ◌++◌}
use Rattle.fbas_model.specs.Nodes.{listed_from}
use Rattle.node_json.specs.Groups.{texts_of}
use Rattle.printed_lines.proofs.Lists.{named}
use Rattle.printed_lines.proofs.groups.push_texts.Given as goal

abbrev pub invariant-loop-at : goal.invariant-loop-at
invariant-loop-at l = (l.yielded ++ l.at-iterator ≡ listed_from 0 l.set) × (l.text.items ≡ l.fn.text.items ++ named (texts_of l.groups) l.yielded)
