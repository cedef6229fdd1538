-- What an order asks of a part of a system.
use Rattle.std.specs.Prelude.{◌≡◌, ◌<◌, ℕ, List, length, Option, Some, None, IfSome, option_map, Result, Ok, Err}
use Rattle.fbas_model.specs.Nodes.{Table, members}
use Rattle.fbas_model.specs.Systems.{System}
use Rattle.fbas_model.specs.Fbas.{IsClosed}
use Rattle.fbas_model.specs.Restriction.{closure_of, kept, restricted}
use Rattle.sha2.specs.Sha256.{sha256}
use Rattle.cli_words.specs.Order.{Ordered}
use Rattle.cli_words.specs.Usage.{usage}
use Rattle.cli_words.specs.declared.orders.Query.{Query}
use Rattle.cli_words.specs.declared.orders.Query.TheVariants as query
use Rattle.request_reading.specs.declared.status.Status.TheVariants.{Usage}
use Rattle.request_reading.specs.declared.early.Early.{Early}
use Rattle.request_reading.specs.declared.early.Early.TheVariants.{Refused}
use Rattle.request_reading.specs.declared.operands.Operands.{Operands}
use Rattle.request_reading.specs.declared.parts.NodesInPart.{NodesInPart}
use Rattle.request_reading.specs.declared.question.Origin.{Origin}
use Rattle.request_reading.specs.declared.question.Question.{Question}
use Rattle.request_reading.specs.declared.question.Question.TheVariants.{Show, Closure, Greatest, Available as AvailableWithout, Blocks, Export, Vblocks}
use Rattle.request_reading.specs.Reading.{◌>>=◌}

-- ---- the part that is asked about

-- the trust closure of a node, if there is one
abbrev pub closure_from : System → Option ℕ → Option Table
closure_from f node = option_map (λ v. closure_of f.sets v) node

-- the system restricted to a trust closure, or the whole system
abbrev pub restricted_to : System → Option Table → System
restricted_to f None = f
restricted_to f (Some closure) = restricted closure f

-- the nodes of a set that are in the part, by their numbers there
abbrev pub cut_to : Option Table → Table → Table
cut_to None set = set
cut_to (Some closure) set = kept closure set

-- the node that `--node` names: no command asks about one in a trust closure
abbrev pub node_of_whole : Option ℕ → Option ℕ → Option ℕ
node_of_whole None asked = asked
node_of_whole (Some from) asked = None

-- the part that the options name, the whole system or a trust closure, and the nodes in it
abbrev pub part_named : Operands → NodesInPart
part_named s = record {
  system = restricted_to s.system (closure_from s.system s.named.from);
  node = node_of_whole s.named.from s.named.node;
  faulty = cut_to (closure_from s.system s.named.from) s.named.faulty;
  set = cut_to (closure_from s.system s.named.from) s.named.set;
}

-- a trust closure has a mark for each node, and is closed
abbrev pub FitsClosure : System → Option Table → Type 0
FitsClosure f None = Unit {0}
FitsClosure f (Some closure) = (length closure ≡ length f.sets) × IsClosed f.sets (members closure)

-- each set has a mark for each node of the part, and the node is one of them
pub record FitsPart (p : NodesInPart) : Type 0 where
  pub faulty : length p.faulty ≡ length p.system.sets
  pub set : length p.set ≡ length p.faulty
  pub node : IfSome p.node (λ v. v < length p.faulty)

-- ---- the question

-- the words are refused without a node that the command needs
abbrev pub node_needed : Option ℕ → Result ℕ Early
node_needed None = Err (Refused (record { status = Usage; text = usage }))
node_needed (Some v) = Ok v

-- where an exported formula comes from
abbrev pub origin_of : List ℕ → Ordered → Origin
origin_of config o = record { digest = sha256 config; from = o.from; formula = o.formula }

-- what an order with this question asks of a part of the system of a configuration's bytes, by the nodes that it names there
abbrev pub question_of : Query → Ordered → List ℕ → Option ℕ → Table → Table → Result Question Early
question_of query.Show o config named faulty set = Ok Show
question_of query.Closure o config named faulty set = do
  v ← node_needed named
  Ok (Closure v)
question_of query.Greatest o config named faulty set = Ok (Greatest faulty)
question_of query.Available o config named faulty set = Ok (AvailableWithout set)
question_of query.Blocks o config named faulty set = Ok (Blocks set faulty)
question_of query.Export o config named faulty set = Ok (Export (origin_of config o) faulty)
question_of query.Vblocks o config named faulty set = do
  v ← node_needed named
  Ok (Vblocks v set)

-- each set has a mark for each of n nodes, and each node is one of them
abbrev pub FitsQuestion : ℕ → Question → Type 0
FitsQuestion n Show = Unit {0}
FitsQuestion n (Closure v) = v < n
FitsQuestion n (Greatest b) = length b ≡ n
FitsQuestion n (AvailableWithout s) = length s ≡ n
FitsQuestion n (Blocks s b) = (length s ≡ n) × (length b ≡ n)
FitsQuestion n (Export origin b) = length b ≡ n
FitsQuestion n (Vblocks v s) = (v < n) × (length s ≡ n)
