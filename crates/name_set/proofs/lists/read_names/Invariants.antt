use Rattle.std.proofs.Common.{◌≡◌, ◌+◌, length, take, drop, Ok}
use Rattle.fbas_model.specs.Names.{marks}
use Rattle.name_set.specs.Lists.{unless_faulty}
use Rattle.name_set.proofs.ListLaws.{parts}
use Rattle.name_set.proofs.lists.read_names.Given as goal

abbrev pub invariant-loop-item : goal.invariant-loop-item
invariant-loop-item l = record {
  counted : l.place ≡ length l.yielded;
  size : length l.nodes ≡ length l.names;
  known : unless_faulty l.names 1 (parts l.text) (Ok (marks l.names (parts l.text)))
      ≡ unless_faulty l.names (l.place + 1) (drop l.place (parts l.text)) (Ok (marks l.names (parts l.text)));
  marked : l.nodes ≡ marks l.names (take l.place (parts l.text));
}
