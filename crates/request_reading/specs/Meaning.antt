-- What an accepted certificate means, and a verified proof.
use Rattle.std.specs.Prelude.{◌≡◌, ℕ, IsTrue, List, Option, Some, Result, Ok, Err}
use Rattle.fbas_model.specs.Systems.{System}
use Rattle.desk_io.specs.State.{Files}
use Rattle.cli_words.specs.Order.{Ordered}
use Rattle.cli_words.specs.declared.orders.Command.{Command}
use Rattle.cli_words.specs.declared.orders.Command.TheVariants.{Query, Search, Check, CheckLrat, Whatif}
use Rattle.cli_words.specs.declared.orders.OrderFault.{OrderFault}
use Rattle.cli_words.specs.Words.{order_of}
use Rattle.node_json.specs.Configuration.{system_of}
use Rattle.certificate_file.specs.Acceptance.{checked}
use Rattle.certificate_file.specs.Meaning.{Holds, PartIntersects, part_from}
use Rattle.certificate_file.specs.Verification.{verified}
use Rattle.clause_encoder.specs.declared.version.Version.{Version}
use Rattle.request_reading.specs.Formulas.{version_of}
use Rattle.certificate_file.specs.declared.given.Given.{Given}
use Rattle.certificate_file.specs.declared.given.GivenOrgs.{GivenOrgs}
use Rattle.certificate_file.specs.declared.places.Header.{Header}
use Rattle.certificate_file.specs.declared.places.Accepted.{Accepted}
use Rattle.request_reading.specs.declared.checking.Claim.{Claim}
use Rattle.request_reading.specs.declared.checking.Claim.TheVariants.{Cert, Proof}
use Rattle.request_reading.specs.declared.status.Status.TheVariants.{Yes, Usage}
use Rattle.request_reading.specs.declared.early.Early.{Early}
use Rattle.request_reading.specs.declared.reading.Asked.{Asked}
use Rattle.request_reading.specs.declared.reading.Asked.TheVariants as asked
use Rattle.request_reading.specs.Answers.{orgs_given, is_check}
use Rattle.request_reading.specs.Given.{given_by, orgs_among}
use Rattle.request_reading.specs.declared.names.NamedNodes.{NamedNodes}
use Rattle.request_reading.specs.Names.{names_of}
use Rattle.request_reading.specs.Searches.{header_of}
use Rattle.request_reading.specs.Reading.{RefusesBy}

-- the certificate is accepted for a system and what is given beside it, and its answer holds for the part that it speaks of,
-- the whole system or the trust closure of a node, once the nodes of its header are deleted: the two sets of a pair are quorums
-- of the part and share no node, with a refutation every two quorums of the part share a node, and the sets of a list are the
-- minimal ones of their kind, of nodes or of the given organisations
pub record Shows (system : System) (given : Given) (cert : List ℕ) : Type 0 where
  pub accepted : Accepted
  pub checks : checked system given cert ≡ Ok accepted
  pub holds : Holds system given accepted

-- the named file has bytes that mean this
pub record HasFile (Means : List ℕ → Type 0) (files : Files) (name : List ℕ) : Type 0 where
  pub bytes : List ℕ
  pub held : files name ≡ Some bytes
  pub means : Means bytes

-- the named file is such a certificate
abbrev pub HasCert : System → Given → Files → List ℕ → Type 0
HasCert system given files name = HasFile (Shows system given) files name

-- the order names such a certificate for the configuration, and for the organisations that its option names
pub record HasAccepted (order : Ordered) (system : System) (config : List ℕ) (files : Files) : Type 0 where
  pub orgs : Option GivenOrgs
  pub given : orgs_given system.names files order.orgs ≡ Ok orgs
  pub cert : HasCert system (given_by config orgs) files order.cert

-- the proof is verified for the formula of a version, of a part of the system without its faulty nodes, and every two quorums of it share a node
pub record Verifies (system : System) (version : Version) (header : Header) (proof : List ℕ) : Type 0 where
  pub verifies : verified system version header proof ≡ Ok tt
  pub meets : PartIntersects system (part_from system header.from) header.faulty

-- the named file is such a proof
abbrev pub HasProof : System → Version → Header → Files → List ℕ → Type 0
HasProof system version header files name = HasFile (Verifies system version header) files name

-- what a yes means of the bytes that are checked
abbrev pub ShowsClaim : System → Claim → List ℕ → Type 0
ShowsClaim system (Cert given) = Shows system given
ShowsClaim system (Proof version header) = Verifies system version header

-- the order names such a proof for the version of the formula, the part and the faulty nodes that its options name
pub record HasVerified (order : Ordered) (system : System) (files : Files) : Type 0 where
  pub orgs : Option GivenOrgs
  pub given : orgs_given system.names files order.orgs ≡ Ok orgs
  pub nodes : NamedNodes
  pub named : names_of system (orgs_among orgs) order ≡ Ok nodes
  pub proof : HasProof system (version_of order.formula) (header_of system nodes) files order.cert

-- what a yes means that is said of a file that was checked: the certificate is accepted, or the proof is verified
abbrev pub MeansYes : Command → Ordered → System → List ℕ → Files → Type 0
MeansYes Check order system config files = HasAccepted order system config files
MeansYes CheckLrat order system config files = HasVerified order system files
MeansYes (Query q) order system config files = ⊥
MeansYes (Search goal) order system config files = ⊥
MeansYes Whatif order system config files = ⊥

-- ---- what is so of a configuration that is read

-- the bytes say a system, and this is so of it
pub record OfConfig (Means : System → Type 0) (config : List ℕ) : Type 0 where
  pub system : System
  pub read : system_of config ≡ Ok system
  pub means : Means system

-- the named file is a configuration, and this is so of its system and its bytes
pub record OfFile (Means : System → List ℕ → Type 0) (files : Files) (name : List ℕ) : Type 0 where
  pub config : List ℕ
  pub held : files name ≡ Some config
  pub means : OfConfig (λ system. Means system config) config

-- the words are an order that names a configuration, and this is so of the order, the system and its bytes
pub record OfWords (Means : Ordered → System → List ℕ → Type 0) (files : Files) (words : List (List ℕ)) : Type 0 where
  pub order : Ordered
  pub taken : order_of words ≡ Ok order
  pub means : OfFile (Means order) files order.config

-- what a check's yes means of an order, by the bytes of its configuration, by that file, and by the words
abbrev pub ConfigMeans : Ordered → Files → List ℕ → Type 0
ConfigMeans o files config = OfConfig (λ system. MeansYes o.command o system config files) config

abbrev pub FileMeans : Ordered → Files → Type 0
FileMeans o files = OfFile (λ system config. MeansYes o.command o system config files) files o.config

abbrev pub WordsMean : List (List ℕ) → Files → Type 0
WordsMean words files = OfWords (λ order system config. MeansYes order.command order system config files) files words

-- the words are an order that names a configuration and a certificate that is accepted for it
abbrev pub NamesAccepted : List (List ℕ) → Files → Type 0
NamesAccepted words files = OfWords (λ order system config. HasAccepted order system config files) files words

-- the words are an order that names a configuration and a proof that is verified for it
abbrev pub NamesVerified : List (List ℕ) → Files → Type 0
NamesVerified words files = OfWords (λ order system config. HasVerified order system files) files words

-- what is asked is a check, and if it says yes this is so
abbrev pub YesMeans : Type 0 → Asked → Type 0
YesMeans meaning (asked.Checked answer) = answer.status ≡ Yes → meaning
YesMeans meaning (asked.Question f question) = ⊥
YesMeans meaning (asked.Search s) = ⊥
YesMeans meaning (asked.Edits e) = ⊥

-- the words are an order to check a certificate
abbrev pub IsCheck : Result Ordered OrderFault → Type 0
IsCheck (Ok order) = order.command ≡ Check
IsCheck (Err fault) = ⊥

-- the words are an order to check a proof of another solver
abbrev pub IsCheckLrat : Result Ordered OrderFault → Type 0
IsCheckLrat (Ok order) = order.command ≡ CheckLrat
IsCheckLrat (Err fault) = ⊥

-- the words are an order to check a file
abbrev pub ChecksFile : Result Ordered OrderFault → Type 0
ChecksFile (Ok order) = IsTrue (is_check order.command)
ChecksFile (Err fault) = ⊥

-- the words are refused, if there is a refusal
abbrev pub IsUsage : Early → Type 0
IsUsage e = RefusesBy (λ status. status ≡ Usage) e
