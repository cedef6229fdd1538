use Rattle.std.proofs.Common.{◌≡◌, ◌++◌, length, map}
use Rattle.std.specs.List.{filter}
use Rattle.fbas_model.specs.Nodes.{members, listed_from}
use Rattle.enumeration_journal.proofs.ClauseLoops.{literal_for}
use Rattle.enumeration_journal.proofs.clauses.clause_of.Given as goal

abbrev pub invariant-loop-v : goal.invariant-loop-v
invariant-loop-v w l = record {
  whole : l.yielded ++ l.v-iterator ≡ listed_from 0 l.units;
  next : l.variable ≡ length l.yielded;
  clause : l.clause.items ≡ map (literal_for l.sought l.which l.units) (filter (members l.set) l.yielded);
}
