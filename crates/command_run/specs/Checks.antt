-- What a check that was answered has read, and what it said: by which files a certificate is accepted, a proof verified, or either too large.
use Rattle.std.specs.Prelude.{◌≡◌, ◌≤◌, ℕ, ◌++◌, List, Option, Some, Result, Ok, Err, length}
use Rattle.desk_io.specs.State.{DeskState, Files}
use Rattle.fbas_model.specs.Systems.{System}
use Rattle.cli_words.specs.Order.{Ordered}
use Rattle.cli_words.specs.Words.{order_of}
use Rattle.node_json.specs.Configuration.{system_of}
use Rattle.cert_lines.specs.declared.faults.CertError.{CertError}
use Rattle.cert_lines.specs.declared.faults.CertError.TheVariants.{TooLarge}
use Rattle.certificate_file.specs.Acceptance.{checked}
use Rattle.certificate_file.specs.Meaning.{Holds, PartIntersects, part_from}
use Rattle.certificate_file.specs.Verification.{verified}
use Rattle.certificate_file.specs.declared.given.Given.{Given}
use Rattle.certificate_file.specs.declared.given.GivenOrgs.{GivenOrgs}
use Rattle.certificate_file.specs.declared.places.Header.{Header}
use Rattle.certificate_file.specs.declared.places.Accepted.{Accepted}
use Rattle.printed_lines.specs.Lines.{accepted, verified_lines}
use Rattle.request_reading.specs.declared.files.TheConstants.{MAX_FILE}
use Rattle.request_reading.specs.declared.names.NamedNodes.{NamedNodes}
use Rattle.request_reading.specs.Answers.{orgs_given}
use Rattle.request_reading.specs.Formulas.{version_of}
use Rattle.request_reading.specs.Given.{given_by, orgs_among}
use Rattle.request_reading.specs.Names.{names_of}
use Rattle.request_reading.specs.Searches.{header_of}

-- the words are an order that names a configuration within the limit, organisations if any, nodes of the system, and a file to check
pub record ReadsCheck (words : List (List ℕ)) (files : Files) : Type 0 where
  pub order : Ordered
  pub taken : order_of words ≡ Ok order
  pub config : List ℕ
  pub held : files order.config ≡ Some config
  pub within : length config ≤ MAX_FILE
  pub system : System
  pub read : system_of config ≡ Ok system
  pub orgs : Option GivenOrgs
  pub given : orgs_given system.names files order.orgs ≡ Ok orgs
  pub nodes : NamedNodes
  pub named : names_of system (orgs_among orgs) order ≡ Ok nodes
  pub file : List ℕ
  pub has : files order.cert ≡ Some file

-- what a certificate is held against, and the part and the deleted nodes for which a proof is
abbrev pub given_in : {words : List (List ℕ)} {files : Files} → ReadsCheck words files → Given
given_in r = given_by r.config r.orgs

abbrev pub header_in : {words : List (List ℕ)} {files : Files} → ReadsCheck words files → Header
header_in r = header_of r.system r.nodes

-- what comes of the file as a certificate, and as a proof: it is accepted, or its first fault
abbrev pub cert_verdict : {words : List (List ℕ)} {files : Files} → ReadsCheck words files → Result Accepted CertError
cert_verdict r = checked r.system (given_in r) r.file

abbrev pub proof_verdict : {words : List (List ℕ)} {files : Files} → ReadsCheck words files → Result (Unit {0}) CertError
proof_verdict r = verified r.system (version_of r.order.formula) (header_in r) r.file

-- the certificate is accepted, what it says is so, and just that is printed
pub record SaysAccepted (words : List (List ℕ)) (old new : DeskState) : Type 0 where
  pub reads : ReadsCheck words old.files
  pub shown : Accepted
  pub checks : cert_verdict reads ≡ Ok shown
  pub holds : Holds reads.system (given_in reads) shown
  pub said : new.out ≡ old.out ++ accepted reads.system.names shown

-- the proof is verified, every two quorums share a node, and the part and the deleted nodes for which it is are printed
pub record SaysVerified (words : List (List ℕ)) (old new : DeskState) : Type 0 where
  pub reads : ReadsCheck words old.files
  pub verifies : proof_verdict reads ≡ Ok tt
  pub meets : PartIntersects reads.system (part_from reads.system (header_in reads).from) (header_in reads).faulty
  pub said : new.out ≡ old.out ++ verified_lines reads.system.names (header_in reads)

-- the certificate's first fault is that its formula, or counter, has too many variables
pub record IsLargeCert (words : List (List ℕ)) (files : Files) : Type 0 where
  pub reads : ReadsCheck words files
  pub vars : ℕ
  pub first : cert_verdict reads ≡ Err (TooLarge vars)

-- the formula of the version that the proof is for has too many variables
pub record IsLargeProof (words : List (List ℕ)) (files : Files) : Type 0 where
  pub reads : ReadsCheck words files
  pub vars : ℕ
  pub first : proof_verdict reads ≡ Err (TooLarge vars)
