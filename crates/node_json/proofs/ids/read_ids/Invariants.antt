use Rattle.std.proofs.Common.{◌≡◌, ℕ, ◌+◌, ◌<◌, length, take, drop}
use Rattle.fbas_model.specs.Nodes.{members}
use Rattle.name_set.specs.Lists.{unless_faulty}
use Rattle.node_json.specs.Organisations.{ids_of, members_of}
use Rattle.name_set.proofs.ListLaws.{parts}
use Rattle.node_json.proofs.IdReading.{united}
use Rattle.node_json.proofs.ids.read_ids.Given as goal

abbrev pub invariant-loop-item : goal.invariant-loop-item
invariant-loop-item l = record {
  counted : l.place ≡ length l.yielded;
  size : length l.nodes ≡ l.n;
  known : unless_faulty (ids_of l.orgs) 1 (parts l.text) (united l.orgs l.n (parts l.text))
      ≡ unless_faulty (ids_of l.orgs) (l.place + 1) (drop l.place (parts l.text)) (united l.orgs l.n (parts l.text));
  united : (v : ℕ) → v < l.n → members l.nodes v ≡ members_of l.orgs (take l.place (parts l.text)) v;
}
