-- The nodes of two sets.
use Rattle.std.proofs.Common.{◌≡◌, ℕ, List, length, Ok, codes, sym, ap}
use Rattle.fbas_model.specs.Nodes.{Nodes, Table, members, ◌∪◌}
use Rattle.fbas_model.specs.Restriction.{union}
use Rattle.fbas_model.specs.Systems.{System}
use Rattle.fbas_model.proofs.Tables.{table_is}
use Rattle.node_json.specs.Organisations.{Org}
use Rattle.cli_words.specs.Order.{Ordered}
use Rattle.request_reading.specs.Names.{set_named, orgs_named, faulty_named}

pub is_union : (s t u : Table) → length u ≡ length s → members u ≡ members s ∪ members t → u ≡ union s t
is_union s t u size joined = table_is (length s) u (members s ∪ members t) size (λ v less. ap (λ (x : Nodes). x v) joined)

-- the faulty nodes, where each of the two lists names some
pub both_named : (f : System) (orgs : List Org) (o : Ordered) (n : ℕ) (s t u : Table) → n ≡ length f.sets → set_named f.names (codes "--faulty") o.faulty ≡ Ok s → orgs_named n orgs (codes "--faulty-orgs") o.faulty_orgs ≡ Ok t
    → length u ≡ length s → members u ≡ members s ∪ members t → faulty_named f orgs o ≡ Ok u
both_named f orgs o n s t u counted named listed size joined = rw (named, ← counted, listed) (ap Ok (sym (is_union s t u size joined)))
