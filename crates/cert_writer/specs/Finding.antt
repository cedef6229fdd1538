-- What a search is asked for, what it finds, and the certificate that shows it.
use Rattle.std.specs.Prelude.{◌≡◌, ℕ, List, length, All, Option, Ok}
use Rattle.lrat_text.specs.Texts.{HasNumbers}
use Rattle.fbas_model.specs.Nodes.{Table}
use Rattle.fbas_model.specs.Systems.{System}
use Rattle.certificate_file.specs.Acceptance.{checked}
use Rattle.certificate_file.specs.declared.given.Given.{Given}
use Rattle.certificate_file.specs.declared.given.GivenOrgs.{GivenOrgs}
use Rattle.certificate_file.specs.declared.places.Header.{Header}
use Rattle.certificate_file.specs.declared.places.Aim.TheVariants as aim
use Rattle.certificate_file.specs.declared.places.Conclusion.{Conclusion}
use Rattle.certificate_file.specs.declared.places.Conclusion.TheVariants as shown
use Rattle.quorum_questions.specs.Evidence.{Shows}
use Rattle.quorum_questions.specs.declared.answers.Answer.{Answer as Found}
use Rattle.quorum_questions.specs.declared.answers.Answer.TheVariants.{Yes, No, Spent}
use Rattle.cert_writer.specs.Texts.{Text, pair_text, log_text}
use Rattle.cert_writer.specs.Promises.{part_of, faulty_in, raised_pair}

-- what is asked: whether every two quorums share a node in the part that the header names, once its faulty nodes are deleted, within this many units; the organisations are given where blocking sets of them are sought
pub record Request : Type 0 where
  pub whole : System
  pub digest : List ℕ
  pub header : Header
  pub budget : ℕ
  pub orgs : Option GivenOrgs

-- what its certificate is held against beside the system
abbrev pub given_of : Request → Given
given_of s = record { digest = s.digest; orgs = s.orgs }

abbrev pub part : Request → System
part s = part_of s.whole s.header.from

abbrev pub faulty : Request → Table
faulty s = faulty_in s.whole s.header

-- the certificate of what is found
abbrev pub cert_over : System → List ℕ → Header → Found → Text
cert_over f digest h (Yes log size) = log_text f.names digest h aim.Refutation size.vars size.clauses log
cert_over f digest h (No pair) = pair_text f.names (part_of f h.from).names digest h pair
cert_over f digest h (Spent log size) = log_text f.names digest h aim.Partial size.vars size.clauses log

abbrev pub cert_of : Request → Found → Text
cert_of s found = cert_over s.whole s.digest s.header found

-- what the check says of it
abbrev pub accepted_as : Request → Found → Conclusion
accepted_as s (Yes log size) = shown.Refutation
accepted_as s (No pair) = shown.Pair (raised_pair s.whole s.header pair)
accepted_as s (Spent log size) = shown.Partial s.budget

-- what a search finds: it shows the answer, and its certificate is accepted with the header that was asked for
pub record Finds (s : Request) (found : Found) (cert : Text) : Type 0 where
  pub shows : Shows (part s).sets (faulty s) s.budget found
  pub cert_is : cert ≡ cert_of s found
  pub accepted : checked s.whole (given_of s) cert ≡ Ok (record { header = s.header; answer = accepted_as s found })

-- what a certificate can be written of: steps whose numbers have lines, and sets with a place for each of n nodes
abbrev pub CanBeWritten : ℕ → Found → Type 0
CanBeWritten n (Yes log size) = All HasNumbers log
CanBeWritten n (No pair) = (length pair.first ≡ n) × (length pair.second ≡ n)
CanBeWritten n (Spent log size) = All HasNumbers log
