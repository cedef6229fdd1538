-- The organisations that an order names, with the digest of their file, and what a certificate is held against.
use Rattle.std.specs.Prelude.{◌≡◌, ℕ, List, [], All, length, Option, Some, None, IfSome, IsSome}
use Rattle.sha2.specs.Sha256.{sha256}
use Rattle.fbas_model.specs.Systems.{System}
use Rattle.node_json.specs.Organisations.{Org}
use Rattle.cert_writer.specs.Promises.{AreOrgs}
use Rattle.certificate_file.specs.declared.given.Given.{Given}
use Rattle.certificate_file.specs.declared.given.GivenOrgs.{GivenOrgs}
use Rattle.request_reading.specs.declared.operands.Operands.{Operands}
use Rattle.request_reading.specs.Names.{FitsNamed}
use Rattle.cli_words.specs.declared.orders.Goal.{Goal}
use Rattle.cli_words.specs.declared.orders.Goal.TheVariants.{OrgBlocking}

-- the organisations of the file, and none where no file is named
abbrev pub orgs_among : Option GivenOrgs → List Org
orgs_among None = []
orgs_among (Some given) = given.orgs

-- what a certificate of a configuration is held against: the digest of the configuration, and the organisations
abbrev pub given_by : List ℕ → Option GivenOrgs → Given
given_by config orgs = record { digest = sha256 config; orgs = orgs }

-- the organisations are over the system: each has a mark for each of its nodes
abbrev pub AreOver : System → Option GivenOrgs → Type 0
AreOver f given = IfSome given (λ g. All (λ org. length org.members ≡ length f.names) g.orgs)

-- they are those that a file says over the system
abbrev pub AreRead : System → Option GivenOrgs → Type 0
AreRead f given = IfSome given (λ g. AreOrgs f g)

-- what an order names is of the system
pub record FitsOperands (s : Operands) : Type 0 where
  pub over : AreOver s.system s.orgs
  pub read : AreRead s.system s.orgs
  pub named : FitsNamed (length s.system.sets) s.named

-- the organisations of a search with this goal: they were read over the system, and blocking sets of organisations alone have some
pub record FitsOrgs (goal : Goal) (f : System) (orgs : Option GivenOrgs) : Type 0 where
  pub over : AreOver f orgs
  pub read : AreRead f orgs
  pub needed : goal ≡ OrgBlocking → IsSome orgs
  pub only : IsSome orgs → goal ≡ OrgBlocking
