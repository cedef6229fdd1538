use Rattle.std.proofs.Common.{◌≡◌, length, take}
use Rattle.fbas_model.specs.Names.{marks}
use Rattle.name_set.proofs.ListLaws.{parts}
use Rattle.whatif_session.proofs.naming.marked.Given as goal

abbrev pub invariant-loop-item : goal.invariant-loop-item
invariant-loop-item l = record {
  size : length l.nodes ≡ length l.names;
  marked : l.nodes ≡ marks l.names (take (length l.yielded) (parts l.text));
}
