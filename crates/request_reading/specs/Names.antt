-- The nodes that the options of an order name.
use Rattle.std.specs.Prelude.{◌≡◌, ◌<◌, ℕ, List, [], length, Option, Some, None, IfSome, unwrap_or, Result, Ok, Err, codes}
use Rattle.fbas_model.specs.Nodes.{Table}
use Rattle.fbas_model.specs.Names.{Name}
use Rattle.fbas_model.specs.Systems.{System}
use Rattle.fbas_model.specs.Restriction.{union}
use Rattle.name_set.specs.Lists.{names_read, name_read}
use Rattle.name_set.specs.declared.lists.NameFault.{NameFault}
use Rattle.node_json.specs.Organisations.{Org, ids_read}
use Rattle.cli_words.specs.Order.{Ordered}
use Rattle.printed_lines.specs.Lines.{Text, names_refused}
use Rattle.request_reading.specs.declared.status.Status.TheVariants.{Usage}
use Rattle.request_reading.specs.declared.reply.Reply.{Reply as Answer}
use Rattle.request_reading.specs.declared.early.Early.{Early}
use Rattle.request_reading.specs.declared.early.Early.TheVariants.{Refused}
use Rattle.request_reading.specs.declared.names.NamedNodes.{NamedNodes}
use Rattle.request_reading.specs.Reading.{◌>>=◌}

abbrev pub names_refusal : Text → NameFault → Answer
names_refusal option fault = record { status = Usage; text = names_refused option fault }

abbrev pub or_refused : {A : Type 0} → Text → Result A NameFault → Result A Early
or_refused option (Ok a) = Ok a
or_refused option (Err fault) = Err (Refused (names_refusal option fault))

-- the set that an option's list names: an option that is not given is the empty list
abbrev pub set_named : List Name → Text → Option Text → Result Table Early
set_named names option list = or_refused option (names_read (unwrap_or list []) names)

-- the node that an option names, if it is given
abbrev pub node_named : List Name → Text → Option Text → Result (Option ℕ) Early
node_named names option None = Ok None
node_named names option (Some name) = do
  v ← or_refused option (name_read name names)
  Ok (Some v)

-- the set that an option's list of organisations stands for: an option that is not given is the empty list
abbrev pub orgs_named : ℕ → List Org → Text → Option Text → Result Table Early
orgs_named n orgs option list = or_refused option (ids_read (unwrap_or list []) orgs n)

-- the faulty nodes: those of both lists
abbrev pub faulty_named : System → List Org → Ordered → Result Table Early
faulty_named f orgs o = do
  named ← set_named f.names (codes "--faulty") o.faulty
  listed ← orgs_named (length f.sets) orgs (codes "--faulty-orgs") o.faulty_orgs
  Ok (union named listed)

-- the nodes that the options name, read in this order for every command: an option that a command lacks is not given
abbrev pub names_of : System → List Org → Ordered → Result NamedNodes Early
names_of f orgs o = do
  node ← node_named f.names (codes "--node") o.node
  from ← node_named f.names (codes "--from") o.from
  faulty ← faulty_named f orgs o
  set ← set_named f.names (codes "--set") o.set
  Ok (record { node = node; from = from; faulty = faulty; set = set })

-- each node is one of n, and each set has a mark for each of them
pub record FitsNamed (n : ℕ) (named : NamedNodes) : Type 0 where
  pub node : IfSome named.node (λ v. v < n)
  pub from : IfSome named.from (λ v. v < n)
  pub faulty : length named.faulty ≡ n
  pub set : length named.set ≡ n
