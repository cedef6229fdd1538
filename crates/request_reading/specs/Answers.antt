-- What the program asks or answers, by its words and the files that they name.
use Rattle.std.specs.Prelude.{ℕ, nat_le, IsTrue, Bool, true, false, List, [], length, Option, Some, None, Result, Ok, Err, if◌then◌else◌, map, string_bytes, String, unwrap_or}
use Rattle.std.specs.declared.alloc.Global.{Global}
use Rattle.sha2.specs.Sha256.{sha256}
use Rattle.desk_io.specs.State.{Files}
use Rattle.fbas_model.specs.Names.{Name}
use Rattle.fbas_model.specs.Systems.{System}
use Rattle.cli_words.specs.Order.{Ordered}
use Rattle.cli_words.specs.Table.{has_configuration}
use Rattle.cli_words.specs.Usage.{usage}
use Rattle.cli_words.specs.Words.{order_of}
use Rattle.cli_words.specs.declared.orders.Command.{Command}
use Rattle.cli_words.specs.declared.orders.Command.TheVariants as command
use Rattle.cli_words.specs.declared.orders.Query.{Query}
use Rattle.cli_words.specs.declared.orders.OrderFault.{OrderFault}
use Rattle.cli_words.specs.declared.orders.OrderFault.TheVariants as fault
use Rattle.node_json.specs.Configuration.{system_of}
use Rattle.node_json.specs.declared.faults.ConfigFault.{ConfigFault}
use Rattle.node_json.specs.Organisations.{Org, orgs_of}
use Rattle.node_json.specs.declared.faults.OrgFault.{OrgFault}
use Rattle.trial_network.specs.Tree.{trial_text}
use Rattle.certificate_file.specs.Acceptance.{checked}
use Rattle.certificate_file.specs.Known.{FitsHeader}
use Rattle.certificate_file.specs.Organisations.{FitsGiven}
use Rattle.certificate_file.specs.Verification.{verified}
use Rattle.request_reading.specs.Formulas.{version_of}
use Rattle.certificate_file.specs.declared.given.GivenOrgs.{GivenOrgs}
use Rattle.certificate_file.specs.declared.places.Header.{Header}
use Rattle.certificate_file.specs.declared.places.Accepted.{Accepted}
use Rattle.certificate_file.specs.declared.places.Conclusion.{Conclusion}
use Rattle.certificate_file.specs.declared.places.Conclusion.TheVariants.{Pair, Refutation, Partial, Reached}
use Rattle.reach_kinds.specs.declared.places.Reached.{Reached as Body}
use Rattle.reach_kinds.specs.declared.places.Reached.TheVariants as body
use Rattle.cert_lines.specs.declared.faults.CertError.{CertError}
use Rattle.cert_lines.specs.declared.faults.CertError.TheVariants.{TooLarge as TooManyVariables}
use Rattle.printed_lines.specs.Lines.{Text, same_path, config_too_long, config_refused, orgs_too_long, orgs_refused, script_too_long, cert_refused, accepted, verified_lines}
use Rattle.request_reading.specs.declared.status.Status.TheVariants.{Yes, Unknown, Usage, ConfigRefused, CertRefused, TooLarge, ScriptRefused}
use Rattle.request_reading.specs.declared.status.Status.{Status}
use Rattle.request_reading.specs.declared.reply.Reply.{Reply as Answer}
use Rattle.request_reading.specs.declared.early.Early.{Early}
use Rattle.request_reading.specs.declared.early.Early.TheVariants.{Refused, Read, Memory}
use Rattle.request_reading.specs.declared.files.TheConstants.{MAX_FILE, MAX_SCRIPT}
use Rattle.request_reading.specs.declared.checking.Claim.{Claim}
use Rattle.request_reading.specs.declared.checking.Claim.TheVariants as claim
use Rattle.request_reading.specs.declared.reading.Asked.{Asked}
use Rattle.request_reading.specs.declared.reading.Asked.TheVariants as asked
use Rattle.request_reading.specs.declared.names.NamedNodes.{NamedNodes}
use Rattle.request_reading.specs.declared.operands.Operands.{Operands}
use Rattle.request_reading.specs.declared.edits.Edits.{Edits}
use Rattle.request_reading.specs.Given.{given_by, orgs_among}
use Rattle.request_reading.specs.Reading.{◌>>=◌}
use Rattle.request_reading.specs.Status.{is_answer}
use Rattle.request_reading.specs.Names.{names_of}
use Rattle.request_reading.specs.Questions.{part_named, question_of, FitsQuestion}
use Rattle.request_reading.specs.Searches.{header_of, search_of, trial_of, FitsSearch}

abbrev pub words_of : List (String Global) → List (List ℕ)
words_of words = map string_bytes words

-- the bytes of a file, which is refused with this answer where they are more than this many
abbrev pub file_within : ℕ → Answer → Option (List ℕ) → Result (List ℕ) Early
file_within most refusal None = Err Read
file_within most refusal (Some bytes) = if nat_le (length bytes) most then Ok bytes else Err (Refused refusal)

-- the bytes of a configuration, or of organisations, which is refused with this text where they are too many
abbrev pub file_in : Text → Option (List ℕ) → Result (List ℕ) Early
file_in too_long file = file_within MAX_FILE (record { status = ConfigRefused; text = too_long }) file

-- the bytes of a script
abbrev pub script_in : Option (List ℕ) → Result (List ℕ) Early
script_in file = file_within MAX_SCRIPT (record { status = ScriptRefused; text = script_too_long }) file

abbrev pub or_config_refused : Result System ConfigFault → Result System Early
or_config_refused (Ok f) = Ok f
or_config_refused (Err fault) = Err (Refused (record { status = ConfigRefused; text = config_refused fault }))

-- the system of a configuration
abbrev pub system_in : List ℕ → Result System Early
system_in config = or_config_refused (system_of config)

abbrev pub or_orgs_refused : Result (List Org) OrgFault → Result (List Org) Early
or_orgs_refused (Ok orgs) = Ok orgs
or_orgs_refused (Err fault) = Err (Refused (record { status = ConfigRefused; text = orgs_refused fault }))

-- the organisations of a file's bytes, with their digest
abbrev pub orgs_with_digest : List Name → List ℕ → Result (Option GivenOrgs) Early
orgs_with_digest names bytes = do
  orgs ← or_orgs_refused (orgs_of names bytes)
  Ok (Some (record { orgs = orgs; digest = sha256 bytes }))

-- the organisations of the file that the order names, if it names one
abbrev pub orgs_given : List Name → Files → Option (List ℕ) → Result (Option GivenOrgs) Early
orgs_given names files None = Ok None
orgs_given names files (Some path) = do
  bytes ← file_in orgs_too_long (files path)
  orgs_with_digest names bytes

-- ---- what an order names in a system

-- the nodes are read once the organisations were
abbrev pub operands_among : Ordered → System → Option GivenOrgs → Result Operands Early
operands_among o f orgs = do
  named ← names_of f (orgs_among orgs) o
  Ok (record { system = f; orgs = orgs; named = named })

-- the organisations and the nodes that an order names in the system of its configuration
abbrev pub operands_of : Ordered → System → Files → Result Operands Early
operands_of o f files = do
  orgs ← orgs_given f.names files o.orgs
  operands_among o f orgs

-- ---- a certificate

-- how the program ends where a certificate has this fault
abbrev pub cert_status : CertError → Status
cert_status (TooManyVariables vars) = TooLarge
cert_status fault = CertRefused

-- how it ends where this body is accepted
abbrev pub body_status : Body → Status
body_status (body.Partial shows units) = Unknown
body_status shown = Yes

-- how it ends where a certificate is accepted: a partial one leaves the question open
abbrev pub accepted_status : Conclusion → Status
accepted_status (Pair p) = Yes
accepted_status Refutation = Yes
accepted_status (Partial units) = Unknown
accepted_status (Reached shown) = body_status shown

-- the first fault of a certificate, or of a proof, is named
abbrev pub refused_answer : List Name → CertError → Answer
refused_answer names e = record { status = cert_status e; text = cert_refused names e }

-- a certificate is accepted, or its first fault is named
abbrev pub checked_answer : List Name → Result Accepted CertError → Answer
checked_answer names (Ok a) = record { status = accepted_status a.answer; text = accepted names a }
checked_answer names (Err e) = refused_answer names e

-- ---- a proof of another solver

-- a proof is verified, or its first fault is named
abbrev pub verified_answer : List Name → Header → Result (Unit {0}) CertError → Answer
verified_answer names h (Ok done) = record { status = Yes; text = verified_lines names h }
verified_answer names h (Err e) = refused_answer names e

-- ---- a file that is checked

-- what is given is over the system
abbrev pub FitsClaim : System → Claim → Type 0
FitsClaim f (claim.Cert given) = FitsGiven f given
FitsClaim f (claim.Proof version h) = FitsHeader f h

-- what is said of the bytes of a file: as a certificate, or as a proof of the formula of a version, for a part of the system without the faulty nodes
abbrev pub claim_answer : System → Claim → List ℕ → Answer
claim_answer f (claim.Cert given) cert = checked_answer f.names (checked f given cert)
claim_answer f (claim.Proof version h) proof = verified_answer f.names h (verified f version h proof)

-- what is said of a file
abbrev pub claim_in : System → Claim → Option (List ℕ) → Result Answer Early
claim_in f c None = Err Read
claim_in f c (Some bytes) = Ok (claim_answer f c bytes)

-- what the file of a check is held to be: a certificate of the configuration, or a proof of the formula of the version that this number means, for the part and the faulty nodes that the options name
abbrev pub claim_by : Command → ℕ → List ℕ → System → Option GivenOrgs → NamedNodes → Claim
claim_by command.CheckLrat formula config f orgs named = claim.Proof (version_of formula) (header_of f named)
claim_by k formula config f orgs named = claim.Cert (given_by config orgs)

-- ---- what is asked

-- the commands that check a file: what is said of it comes with what is asked
abbrev pub is_check : Command → Bool
is_check command.Check = true
is_check command.CheckLrat = true
is_check command.Whatif = false
is_check (command.Query q) = false
is_check (command.Search goal) = false

-- what an order with this question asks of the part that its options name
abbrev pub query_asked : Query → Ordered → List ℕ → Operands → Result Asked Early
query_asked q o config s = do
  question ← question_of q o config (part_named s).node (part_named s).faulty (part_named s).set
  Ok (asked.Question (part_named s).system question)

-- the edits that an order names
abbrev pub edits_of : Ordered → System → Files → Result Edits Early
edits_of o f files = do
  script ← script_in (files o.script)
  Ok (record { system = f; script = script; set = unwrap_or o.set [] })

-- what a command asks, by what its order names; a check with what it says
abbrev pub command_asked : Command → Ordered → List ℕ → Operands → Files → Result Asked Early
command_asked (command.Query q) o config s files = query_asked q o config s
command_asked (command.Search goal) o config s files = do
  search ← search_of goal o config s
  Ok (asked.Search search)
command_asked command.Whatif o config s files = do
  edits ← edits_of o s.system files
  Ok (asked.Edits edits)
command_asked k o config s files = do
  answer ← claim_in s.system (claim_by k o.formula config s.system s.orgs s.named) (files o.cert)
  Ok (asked.Checked answer)

-- what an order asks over the bytes of its configuration
abbrev pub config_asked : Ordered → Files → List ℕ → Result Asked Early
config_asked o files config = do
  f ← system_in config
  s ← operands_of o f files
  command_asked o.command o config s files

-- what an order asks over the file of its configuration
abbrev pub file_asked : Ordered → Files → Result Asked Early
file_asked o files = do
  config ← file_in config_too_long (files o.config)
  config_asked o files config

-- what a trial asks: the text of its configuration is in no file
abbrev pub trial_asked : Ordered → Result Asked Early
trial_asked o = do
  f ← system_in (trial_text o.trial)
  Ok (asked.Search (trial_of f (trial_text o.trial) o))

-- what an order asks
abbrev pub order_asked : Ordered → Files → Result Asked Early
order_asked o files = if has_configuration o.command then file_asked o files else trial_asked o

-- why nothing is asked where the words are no order
abbrev pub refused_words : OrderFault → Early
refused_words fault.Words = Refused (record { status = Usage; text = usage })
refused_words fault.SamePath = Refused (record { status = Usage; text = same_path })
refused_words fault.Memory = Memory

abbrev pub or_words_refused : Result Ordered OrderFault → Result Ordered Early
or_words_refused (Ok o) = Ok o
or_words_refused (Err fault) = Err (refused_words fault)

-- what the words ask, which begin with the program's name, over the files; or a refusal, or a missing file
abbrev pub asked_of : List (List ℕ) → Files → Result Asked Early
asked_of words files = do
  o ← or_words_refused (order_of words)
  order_asked o files

-- what is asked fits the system, and what is said of a file is an answer
abbrev pub FitsAsked : Asked → Type 0
FitsAsked (asked.Question f question) = FitsQuestion (length f.sets) question
FitsAsked (asked.Search s) = FitsSearch s
FitsAsked (asked.Edits e) = Unit {0}
FitsAsked (asked.Checked answer) = IsTrue (is_answer answer.status)
