use Rattle.node_json.specs.Groups.{tables_of}
use Rattle.group_journal.proofs.Touched.{AreFound}
use Rattle.group_journal.proofs.clauses.touching.Given as goal

abbrev pub invariant-loop-at : goal.invariant-loop-at
invariant-loop-at l = AreFound (tables_of l.groups) l.nodes l.touched l.at
