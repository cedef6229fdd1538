-- What is read of words and of files, or refused.
use Rattle.std.proofs.Common.{◌≡◌, ◌≤◌, ◌<◌, ◌⊎◌, inl, inr, ℕ, nat_le, length, Bool, true, false, List, Option, Some, None, Result, Ok, Err, sym, ◌∙◌, ap, if◌then◌else◌}
use Rattle.std.proofs.lemmas.Bool.{le-leb, lt-leb}
use Rattle.fbas_model.specs.Systems.{System}
use Rattle.node_json.specs.Configuration.{system_of}
use Rattle.node_json.specs.declared.faults.ConfigFault.{ConfigFault}
use Rattle.node_json.specs.declared.faults.OrgFault.{OrgFault}
use Rattle.node_json.specs.Organisations.{Org, orgs_of}
use Rattle.hex.specs.Hex.{IsBytes}
use Rattle.cert_writer.specs.Promises.{AreOrgs}
use Rattle.cli_words.specs.Order.{Ordered}
use Rattle.cli_words.specs.declared.orders.OrderFault.{OrderFault}
use Rattle.cli_words.specs.declared.orders.OrderFault.TheVariants as fault
use Rattle.printed_lines.specs.Lines.{Text}
use Rattle.request_reading.specs.declared.reply.Reply.{Reply as Answer}
use Rattle.request_reading.specs.declared.status.Status.TheVariants.{ConfigRefused}
use Rattle.request_reading.specs.declared.early.Early.{Early}
use Rattle.request_reading.specs.declared.early.Early.TheVariants.{Refused}
use Rattle.request_reading.specs.declared.files.TheConstants.{MAX_FILE}
use Rattle.request_reading.specs.Answers.{or_words_refused, refused_words, file_in, file_within, system_in, or_config_refused, or_orgs_refused}

pub words_refused : (r : Result Ordered OrderFault) (e : OrderFault) (a : Answer) → (e ≡ fault.Memory) ⊎ (r ≡ Err e) → refused_words e ≡ Refused a → or_words_refused r ≡ Err (Refused a)
words_refused r e a (inl memory) said = absurd (let k = ap refused_words memory in cc)
words_refused r e a (inr words) said = ap or_words_refused words ∙ ap (λ (x : Early). Err x) said

held_within : (refusal : Answer) (held bytes : List ℕ) (within : Bool) → (if within then Ok held else Err (Refused refusal)) ≡ Ok bytes → Some held ≡ Some bytes
held_within refusal held bytes true e = cc
held_within refusal held bytes false e = absurd cc

-- a file within the limit is read, and one past it is refused
pub file_read : (most : ℕ) (refusal : Answer) (file : Option (List ℕ)) (bytes : List ℕ) → file ≡ Some bytes → length bytes ≤ most → file_within most refusal file ≡ Ok bytes
file_read most refusal file bytes held within =
    rw held (ap {B = Result (List ℕ) Early} (λ (b : Bool). if b then Ok bytes else Err (Refused refusal)) (le-leb (length bytes) most within))

pub file_refused : (most : ℕ) (refusal : Answer) (file : Option (List ℕ)) (bytes : List ℕ) (a : Answer) → file ≡ Some bytes → most < length bytes → a ≡ refusal → file_within most refusal file ≡ Err (Refused a)
file_refused most refusal file bytes a held longer said =
    rw held (ap {B = Result (List ℕ) Early} (λ (b : Bool). if b then Ok bytes else Err (Refused refusal)) (lt-leb (length bytes) most longer) ∙ ap {B = Result (List ℕ) Early} (λ (x : Answer). Err (Refused x)) (sym said))

-- the bytes that were read are those of the file
pub file_held : (text : Text) (file : Option (List ℕ)) (bytes : List ℕ) → file_in text file ≡ Ok bytes → file ≡ Some bytes
file_held text None bytes e = absurd cc
file_held text (Some held) bytes e = held_within (record { status = ConfigRefused; text = text }) held bytes (nat_le (length held) MAX_FILE) e

read_of : (r : Result System ConfigFault) (f : System) → or_config_refused r ≡ Ok f → r ≡ Ok f
read_of (Ok g) f e = cc
read_of (Err fault) f e = absurd cc

orgs_of_read : (r : Result (List Org) OrgFault) (orgs : List Org) → or_orgs_refused r ≡ Ok orgs → r ≡ Ok orgs
orgs_of_read (Ok held) orgs e = cc
orgs_of_read (Err fault) orgs e = absurd cc

-- the organisations are those that the bytes say over the system
pub are_orgs : (f : System) (bytes digest : List ℕ) (orgs : List Org) → or_orgs_refused (orgs_of f.names bytes) ≡ Ok orgs → length digest ≡ 32 → IsBytes digest → AreOrgs f (record { orgs = orgs; digest = digest })
are_orgs f bytes digest orgs read long is = record { file = bytes; read = orgs_of_read (orgs_of f.names bytes) orgs read; long = long; bytes = is }

pub system_read : (config : List ℕ) (f : System) → system_in config ≡ Ok f → system_of config ≡ Ok f
system_read config f e = read_of (system_of config) f e
