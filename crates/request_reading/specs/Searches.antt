-- What a search is asked for.
use Rattle.std.specs.Prelude.{◌≡◌, ◌≤◌, ℕ, List, length, Option, Some, None, Result, Ok, Err}
use Rattle.sha2.specs.Sha256.{sha256}
use Rattle.hex.specs.Hex.{IsBytes}
use Rattle.fbas_model.specs.Nodes.{Table, members, ∅, ◌∩◌}
use Rattle.fbas_model.specs.Fbas.{Intersects}
use Rattle.fbas_model.specs.Systems.{System}
use Rattle.fbas_model.specs.Restriction.{closure_of, table_from, union}
use Rattle.cert_writer.specs.Promises.{IsHeader, part_of, faulty_in}
use Rattle.certificate_file.specs.declared.places.Header.{Header}
use Rattle.certificate_file.specs.declared.given.GivenOrgs.{GivenOrgs}
use Rattle.cli_words.specs.Order.{Ordered}
use Rattle.cli_words.specs.Usage.{usage}
use Rattle.cli_words.specs.declared.budget.TheConstants.{MOST_BUDGET}
use Rattle.cli_words.specs.declared.orders.Goal.{Goal}
use Rattle.cli_words.specs.declared.orders.Goal.TheVariants.{Trial, OrgBlocking}
use Rattle.request_reading.specs.declared.early.Early.{Early}
use Rattle.request_reading.specs.declared.early.Early.TheVariants.{Refused}
use Rattle.request_reading.specs.declared.status.Status.TheVariants.{Usage}
use Rattle.request_reading.specs.declared.searches.Search.{Search}
use Rattle.request_reading.specs.declared.names.NamedNodes.{NamedNodes}
use Rattle.request_reading.specs.declared.operands.Operands.{Operands}
use Rattle.request_reading.specs.Given.{FitsOrgs}
use Rattle.request_reading.specs.Reading.{◌>>=◌}

-- no node of a system
abbrev pub nobody : System → Table
nobody f = table_from 0 (length f.sets) ∅

-- the nodes of a set that are in the part, the whole system or the trust closure of a node
abbrev pub cut_within : System → Option ℕ → Table → Table
cut_within f None set = set
cut_within f (Some v) set = table_from 0 (length set) (members set ∩ members (closure_of f.sets v))

-- the part of the system that the options name, and the nodes of it that are deleted: the faulty ones, and those of the set
abbrev pub header_of : System → NamedNodes → Header
header_of f named = record { from = named.from; faulty = cut_within f named.from (union named.faulty named.set) }

-- blocking sets of organisations are sought over a file of them: without one the words are refused
abbrev pub orgs_needed : Goal → Option GivenOrgs → Result (Unit {0}) Early
orgs_needed OrgBlocking None = Err (Refused (record { status = Usage; text = usage }))
orgs_needed goal given = Ok tt

-- the organisations that a search keeps: those whose blocking sets are sought. Another search only reads its faulty nodes from them
abbrev pub orgs_sought : Goal → Option GivenOrgs → Option GivenOrgs
orgs_sought OrgBlocking given = given
orgs_sought goal given = None

-- what an order with this goal asks, by what it names in the system of a configuration's bytes
abbrev pub search_of : Goal → Ordered → List ℕ → Operands → Result Search Early
search_of goal o config s = do
  needed ← orgs_needed goal s.orgs
  Ok (record { goal = goal; path = o.cert; whole = s.system; digest = sha256 config; header = header_of s.system s.named; orgs = orgs_sought goal s.orgs; budget = o.budget })

-- what a trial asks of the system of its configuration's text: it is the whole that is meant, and nobody is deleted
abbrev pub trial_of : System → List ℕ → Ordered → Search
trial_of f config o = record { goal = Trial; path = o.cert; whole = f; digest = sha256 config; header = record { from = None; faulty = nobody f }; orgs = None; budget = o.budget }

-- its node and the deleted nodes are of the system, and within the part, its digest is one, its organisations fit, its units are not too many, and in a trial every two quorums share a node
pub record FitsSearch (s : Search) : Type 0 where
  pub header : IsHeader s.whole s.header
  pub long : length s.digest ≡ 32
  pub bytes : IsBytes s.digest
  pub orgs : FitsOrgs s.goal s.whole s.orgs
  pub few : s.budget ≤ MOST_BUDGET
  pub meets : s.goal ≡ Trial → Intersects (part_of s.whole s.header.from).sets (members (faulty_in s.whole s.header))
