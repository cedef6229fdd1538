-- What comes of words that order a check, by what it has read.
use Rattle.std.proofs.Common.{◌≡◌, ◌⊎◌, ◌≤◌, ◌↔◌, inl, inr, ℕ, ◌++◌, List, length, Bool, true, nat_le, IsTrue, if◌then◌else◌, Option, Some, None, Result, Ok, Err, IfErr, refl, sym, ◌∙◌, ap, subst}
use Rattle.std.proofs.lemmas.Bool.{cases_Bool, leb-true}
use Rattle.desk_io.specs.State.{DeskState, Files}
use Rattle.fbas_model.specs.Names.{Name}
use Rattle.fbas_model.specs.Systems.{System}
use Rattle.cli_words.specs.Order.{Ordered}
use Rattle.cli_words.specs.Table.{row_of, has_configuration}
use Rattle.cli_words.specs.Words.{order_of}
use Rattle.cli_words.specs.declared.orders.Command.{Command}
use Rattle.cli_words.specs.declared.orders.Command.TheVariants.{Query, Search, Check, CheckLrat, Whatif}
use Rattle.cli_words.specs.declared.orders.OrderFault.{OrderFault}
use Rattle.cli_words.specs.declared.orders.OrderFault.TheVariants as fault
use Rattle.cert_lines.specs.declared.faults.CertError.{CertError}
use Rattle.cert_lines.specs.declared.faults.CertError.TheVariants.{TooLarge as TooManyVariables}
use Rattle.certificate_file.specs.declared.given.GivenOrgs.{GivenOrgs}
use Rattle.certificate_file.specs.declared.places.Header.{Header}
use Rattle.certificate_file.specs.declared.places.Accepted.{Accepted}
use Rattle.certificate_file.specs.declared.places.Conclusion.{Conclusion}
use Rattle.certificate_file.specs.declared.places.Conclusion.TheVariants.{Pair, Refutation, Partial, Reached}
use Rattle.reach_kinds.specs.declared.places.Reached.{Reached as Body}
use Rattle.reach_kinds.specs.declared.places.Reached.TheVariants as body
use Rattle.printed_lines.specs.Lines.{config_too_long}
use Rattle.request_reading.specs.declared.status.Status.{Status}
use Rattle.request_reading.specs.declared.status.Status.TheVariants.{Yes, ConfigRefused, TooLarge}
use Rattle.request_reading.specs.declared.reply.Reply.{Reply as Answer}
use Rattle.request_reading.specs.declared.early.Early.{Early}
use Rattle.request_reading.specs.declared.early.Early.TheVariants.{Refused, Read, Memory}
use Rattle.request_reading.specs.declared.files.TheConstants.{MAX_FILE}
use Rattle.request_reading.specs.declared.names.NamedNodes.{NamedNodes}
use Rattle.request_reading.specs.declared.operands.Operands.{Operands}
use Rattle.request_reading.specs.declared.reading.Asked.{Asked}
use Rattle.request_reading.specs.declared.reading.Asked.TheVariants as asked
use Rattle.request_reading.specs.Answers.{file_within, file_in, system_in, or_config_refused, orgs_given, operands_among, operands_of, cert_status, body_status, accepted_status, checked_answer, verified_answer, claim_answer, claim_in, claim_by, is_check, command_asked, config_asked, file_asked, trial_asked, order_asked, or_words_refused, asked_of}
use Rattle.request_reading.specs.Formulas.{version_of}
use Rattle.request_reading.specs.Given.{given_by, orgs_among}
use Rattle.request_reading.specs.Names.{names_of}
use Rattle.request_reading.specs.Reading.{◌>>=◌, IsRefusal}
use Rattle.request_reading.specs.Searches.{header_of}
use Rattle.request_reading.specs.Meaning.{OfConfig, OfFile, OfWords, HasAccepted, HasVerified, NamesAccepted, NamesVerified, Shows, Verifies, IsCheck, IsCheckLrat, ChecksFile}
use Rattle.request_reading.proofs.Meanings.{check_checks, check_lrat_checks}
use Rattle.request_reading.proofs.Readings.{file_read, file_held, system_read}
use Rattle.command_run.specs.Printing.{Prints}
use Rattle.command_run.specs.Checks.{ReadsCheck, given_in, header_in, cert_verdict, proof_verdict, SaysAccepted, SaysVerified, IsLargeCert, IsLargeProof}
use Rattle.command_run.proofs.Checks.{refused_yes}
use Rattle.command_run.proofs.Large.{refusal_small}

-- ---- a chain of readings

and_then : {A B : Type 0} → (r : Result A Early) (f : A → Result B Early) (a : A) → r ≡ Ok a → (r >>= f) ≡ f a
and_then r f a h = ap (λ x. x >>= f) h

bound : {A B : Type 0} → (r : Result A Early) (f : A → Result B Early) (b : B) → (r >>= f) ≡ Ok b → (a : A) × (r ≡ Ok a) × (f a ≡ Ok b)
bound (Ok a) f b h = (a, refl, h)
bound (Err e) f b h = absurd cc

same_some : {A : Type 0} → (a b : A) → ◌≡◌ {A = Option A} (Some a) (Some b) → a ≡ b
same_some a b h = cc

same_ok : {A E : Type 0} → (a b : A) → ◌≡◌ {A = Result A E} (Ok a) (Ok b) → a ≡ b
same_ok a b h = cc

-- ---- what a check asks, by what it has read

over_file : (k : Command) → IsTrue (is_check k) → has_configuration k ≡ true
unfolding row_of
over_file Check is = refl
over_file CheckLrat is = refl
over_file Whatif is = absurd cc
over_file (Query q) is = absurd cc
over_file (Search goal) is = absurd cc

claimed : (k : Command) (o : Ordered) (config : List ℕ) (s : Operands) (files : Files) (file : List ℕ) → IsTrue (is_check k) → files o.cert ≡ Some file
    → command_asked k o config s files ≡ Ok (asked.Checked (claim_answer s.system (claim_by k o.formula config s.system s.orgs s.named) file))
claimed Check o config s files file is has = rw has refl
claimed CheckLrat o config s files file is has = rw has refl
claimed Whatif o config s files file is has = absurd cc
claimed (Query q) o config s files file is has = absurd cc
claimed (Search goal) o config s files file is has = absurd cc

there : (f : System) (c : _) (file : Option (List ℕ)) (answer : Answer) → claim_in f c file ≡ Ok answer → (bytes : List ℕ) × (file ≡ Some bytes)
there f c None answer h = absurd cc
there f c (Some bytes) answer h = (bytes, refl)

has_file : (k : Command) (o : Ordered) (config : List ℕ) (s : Operands) (files : Files) (a : Asked) → IsTrue (is_check k) → command_asked k o config s files ≡ Ok a → (bytes : List ℕ) × (files o.cert ≡ Some bytes)
has_file Check o config s files a is h =
    let c = claim_by Check o.formula config s.system s.orgs s.named in
    let answer = bound (claim_in s.system c (files o.cert)) (λ answer. Ok (asked.Checked answer)) a h in
    there s.system c (files o.cert) answer.0 answer.1
has_file CheckLrat o config s files a is h =
    let c = claim_by CheckLrat o.formula config s.system s.orgs s.named in
    let answer = bound (claim_in s.system c (files o.cert)) (λ answer. Ok (asked.Checked answer)) a h in
    there s.system c (files o.cert) answer.0 answer.1
has_file Whatif o config s files a is h = absurd cc
has_file (Query q) o config s files a is h = absurd cc
has_file (Search goal) o config s files a is h = absurd cc

operands_there : (o : Ordered) (f : System) (files : Files) (orgs : Option GivenOrgs) (nodes : NamedNodes) → orgs_given f.names files o.orgs ≡ Ok orgs → names_of f (orgs_among orgs) o ≡ Ok nodes
    → operands_of o f files ≡ Ok (record { system = f; orgs = orgs; named = nodes })
operands_there o f files orgs nodes given named =
    and_then (orgs_given f.names files o.orgs) (λ x. operands_among o f x) orgs given ∙ and_then (names_of f (orgs_among orgs) o) (λ x. Ok (record { system = f; orgs = orgs; named = x })) nodes named

-- what is said of the file
abbrev answer_in : {words : List (List ℕ)} {files : Files} → ReadsCheck words files → Command → Answer
answer_in r k = claim_answer r.system (claim_by k r.order.formula r.config r.system r.orgs r.nodes) r.file

checked_is : (words : List (List ℕ)) (files : Files) (k : Command) (r : ReadsCheck words files) → r.order.command ≡ k → IsTrue (is_check k) → asked_of words files ≡ Ok (asked.Checked (answer_in r k))
checked_is words files k r command is =
    let o = r.order in
    let s : Operands = record { system = r.system; orgs = r.orgs; named = r.nodes } in
    and_then (or_words_refused (order_of words)) (λ x. order_asked x files) o (ap or_words_refused r.taken)
    ∙ ap (λ (b : Bool). if b then file_asked o files else trial_asked o) (ap has_configuration command ∙ over_file k is)
    ∙ and_then (file_in config_too_long (files o.config)) (λ x. config_asked o files x) r.config (file_read MAX_FILE (record { status = ConfigRefused; text = config_too_long }) (files o.config) r.config r.held r.within)
    ∙ and_then (system_in r.config) (λ f. operands_of o f files >>= (λ x. command_asked o.command o r.config x files)) r.system (ap or_config_refused r.read)
    ∙ and_then (operands_of o r.system files) (λ x. command_asked o.command o r.config x files) s (operands_there o r.system files r.orgs r.nodes r.given r.named)
    ∙ ap (λ (x : Command). command_asked x o r.config s files) command
    ∙ claimed k o r.config s files r.file is r.has

words_there : (r : Result Ordered OrderFault) (o : Ordered) → or_words_refused r ≡ Ok o → r ≡ Ok o
words_there (Ok x) o h = ap Ok (same_ok x o h)
words_there (Err fault.Words) o h = absurd cc
words_there (Err fault.SamePath) o h = absurd cc
words_there (Err fault.Memory) o h = absurd cc

file_short : (refusal : Answer) (file : Option (List ℕ)) (bytes : List ℕ) → file_within MAX_FILE refusal file ≡ Ok bytes → file ≡ Some bytes → length bytes ≤ MAX_FILE
file_short refusal None bytes h held = absurd cc
file_short refusal (Some all) bytes h held = elim (cases_Bool (nat_le (length all) MAX_FILE)) [
  | inl low ↦ subst (λ (x : List ℕ). length x ≤ MAX_FILE) (same_some all bytes held) (leb-true (length all) MAX_FILE low)
  | inr high ↦ absurd (let e = sym (ap {B = Result (List ℕ) Early} (λ (b : Bool). if b then Ok all else Err (Refused refusal)) high) ∙ h in cc)
]

-- what a check that asks something has read
reads_of : (words : List (List ℕ)) (files : Files) (a : Asked) → ChecksFile (order_of words) → asked_of words files ≡ Ok a → ReadsCheck words files
reads_of words files a check h =
    let o = bound (or_words_refused (order_of words)) (λ x. order_asked x files) a h in
    let taken : order_of words ≡ Ok o.0 = words_there (order_of words) o.0 o.1 in
    let is : IsTrue (is_check (o.0).command) = subst ChecksFile taken check in
    let by_file : file_asked o.0 files ≡ Ok a = sym (ap (λ (b : Bool). if b then file_asked o.0 files else trial_asked o.0) (over_file (o.0).command is)) ∙ o.2 in
    let c = bound (file_in config_too_long (files (o.0).config)) (λ x. config_asked o.0 files x) a by_file in
    let held : files (o.0).config ≡ Some c.0 = file_held config_too_long (files (o.0).config) c.0 c.1 in
    let f = bound (system_in c.0) (λ x. operands_of o.0 x files >>= (λ s. command_asked (o.0).command o.0 c.0 s files)) a c.2 in
    let s = bound (operands_of o.0 f.0 files) (λ x. command_asked (o.0).command o.0 c.0 x files) a f.2 in
    let orgs = bound (orgs_given (f.0).names files (o.0).orgs) (λ x. operands_among o.0 f.0 x) s.0 s.1 in
    let nodes = bound (names_of f.0 (orgs_among orgs.0) o.0) (λ x. Ok (record { system = f.0; orgs = orgs.0; named = x })) s.0 orgs.2 in
    let file = has_file (o.0).command o.0 c.0 s.0 files a is s.2 in
    record {
      order = o.0;
      taken = taken;
      config = c.0;
      held = held;
      within = file_short (record { status = ConfigRefused; text = config_too_long }) (files (o.0).config) c.0 c.1 held;
      system = f.0;
      read = system_read c.0 f.0 f.1;
      orgs = orgs.0;
      given = orgs.1;
      nodes = nodes.0;
      named = nodes.1;
      file = file.0;
      has = file.1;
    }

-- ---- the statuses of what is said

no_body_large : (b : Body) → body_status b ≡ TooLarge → ⊥
no_body_large (body.Partial shows units) h = cc
no_body_large shown h = cc

none_large : (c : Conclusion) → accepted_status c ≡ TooLarge → ⊥
none_large (Pair p) h = cc
none_large Refutation h = cc
none_large (Partial units) h = cc
none_large (Reached shown) h = no_body_large shown h

large_fault : (e : CertError) → cert_status e ≡ TooLarge → (n : ℕ) × (e ≡ TooManyVariables n)
large_fault (TooManyVariables n) h = (n, refl)
large_fault e h = absurd cc

cert_large : (names : List Name) (v : Result Accepted CertError) → (checked_answer names v).status ≡ TooLarge → (n : ℕ) × (v ≡ Err (TooManyVariables n))
cert_large names (Ok a) h = absurd (none_large a.answer h)
cert_large names (Err e) h = let large = large_fault e h in (large.0, ap Err large.1)

proof_large : (names : List Name) (at : Header) (v : Result (Unit {0}) CertError) → (verified_answer names at v).status ≡ TooLarge → (n : ℕ) × (v ≡ Err (TooManyVariables n))
proof_large names at (Ok done) h = absurd cc
proof_large names at (Err e) h = let large = large_fault e h in (large.0, ap Err large.1)

-- ---- what is so of the file, by the definition of a yes

in_order : (words : List (List ℕ)) (files : Files) (M : Ordered → System → List ℕ → Type 0) (r : ReadsCheck words files) → OfWords M files words → M r.order r.system r.config
in_order words files M r m =
    let o : m.order ≡ r.order = same_ok m.order r.order (sym m.taken ∙ r.taken) in
    let file : OfFile (M r.order) files r.order.config = subst (λ (x : Ordered). OfFile (M x) files x.config) o m.means in
    let c : file.config ≡ r.config = same_some file.config r.config (sym file.held ∙ r.held) in
    let config : OfConfig (λ f. M r.order f r.config) r.config = subst (λ (x : List ℕ). OfConfig (λ f. M r.order f x) x) c file.means in
    let f : config.system ≡ r.system = same_ok config.system r.system (sym config.read ∙ r.read) in
    subst (λ (x : System). M r.order x r.config) f config.means

shown_there : (words : List (List ℕ)) (files : Files) (r : ReadsCheck words files) → NamesAccepted words files → Shows r.system (given_in r) r.file
shown_there words files r m =
    let is = in_order words files (λ o f config. HasAccepted o f config files) r m in
    let orgs : is.orgs ≡ r.orgs = same_ok is.orgs r.orgs (sym is.given ∙ r.given) in
    let bytes : is.cert.bytes ≡ r.file = same_some is.cert.bytes r.file (sym is.cert.held ∙ r.has) in
    subst (λ (x : Option GivenOrgs). Shows r.system (given_by r.config x) r.file) orgs (subst (λ (x : List ℕ). Shows r.system (given_by r.config is.orgs) x) bytes is.cert.means)

verified_there : (words : List (List ℕ)) (files : Files) (r : ReadsCheck words files) → NamesVerified words files → Verifies r.system (version_of r.order.formula) (header_in r) r.file
verified_there words files r m =
    let is = in_order words files (λ o f config. HasVerified o f files) r m in
    let orgs : is.orgs ≡ r.orgs = same_ok is.orgs r.orgs (sym is.given ∙ r.given) in
    let named : names_of r.system (orgs_among r.orgs) r.order ≡ Ok is.nodes = subst (λ (x : Option GivenOrgs). names_of r.system (orgs_among x) r.order ≡ Ok is.nodes) orgs is.named in
    let nodes : is.nodes ≡ r.nodes = same_ok is.nodes r.nodes (sym named ∙ r.named) in
    let bytes : is.proof.bytes ≡ r.file = same_some is.proof.bytes r.file (sym is.proof.held ∙ r.has) in
    subst (λ (x : NamedNodes). Verifies r.system (version_of r.order.formula) (header_of r.system x) r.file) nodes (subst (λ (x : List ℕ). Verifies r.system (version_of r.order.formula) (header_of r.system is.nodes) x) bytes is.proof.means)

-- ---- what a check that was answered says

command_there : (words : List (List ℕ)) (o : Ordered) → IsCheck (order_of words) → order_of words ≡ Ok o → o.command ≡ Check
command_there words o check taken = subst IsCheck taken check

lrat_there : (words : List (List ℕ)) (o : Ordered) → IsCheckLrat (order_of words) → order_of words ≡ Ok o → o.command ≡ CheckLrat
lrat_there words o check taken = subst IsCheckLrat taken check

-- what was printed of a check that was read
printed_there : (words : List (List ℕ)) (old new : DeskState) (status : Status) (k : Command) (r : ReadsCheck words old.files) → r.order.command ≡ k → IsTrue (is_check k) → Prints (asked_of words old.files) old new status
    → Prints (Ok (asked.Checked (answer_in r k))) old new status
printed_there words old new status k r command is p = subst (λ (x : Result Asked Early). Prints x old new status) (checked_is words old.files k r command is) p

-- an answer that no refusal gives is one of a check that was read
asked_or_refused : (x : Result Asked Early) (old new : DeskState) (status : Status) → IfErr x IsRefusal → Prints x old new status → (status ≡ Yes) ⊎ (status ≡ TooLarge) → (a : Asked) × (x ≡ Ok a)
asked_or_refused (Ok a) old new status refused p is = (a, refl)
asked_or_refused (Err (Refused a)) old new status refused p (inl said) = absurd (refused_yes a.status refused (sym p.status_is ∙ said))
asked_or_refused (Err (Refused a)) old new status refused p (inr large) = absurd (refusal_small a.status refused (sym p.status_is ∙ large))
asked_or_refused (Err Read) old new status refused p is = absurd p
asked_or_refused (Err Memory) old new status refused p is = absurd p

module _ (words : List (List ℕ)) (old new : DeskState) (status : Status) (refused : IfErr (asked_of words old.files) IsRefusal) (prints : Prints (asked_of words old.files) old new status) where
  reads : ChecksFile (order_of words) → (status ≡ Yes) ⊎ (status ≡ TooLarge) → ReadsCheck words old.files
  reads check is = let a = asked_or_refused (asked_of words old.files) old new status refused prints is in reads_of words old.files a.0 check a.1

  pub says_accepted : IsCheck (order_of words) → status ≡ Yes → NamesAccepted words old.files → SaysAccepted words old new
  says_accepted check said names =
      let r = reads (check_checks (order_of words) check) (inl said) in
      let p = printed_there words old new status Check r (command_there words r.order check r.taken) refl prints in
      let shows = shown_there words old.files r names in
      record {
        reads = r;
        shown = shows.accepted;
        checks = shows.checks;
        holds = shows.holds;
        said = p.out ∙ ap (λ (v : Result Accepted CertError). old.out ++ (checked_answer r.system.names v).text) shows.checks;
      }

  pub says_verified : IsCheckLrat (order_of words) → status ≡ Yes → NamesVerified words old.files → SaysVerified words old new
  says_verified check said names =
      let r = reads (check_lrat_checks (order_of words) check) (inl said) in
      let p = printed_there words old new status CheckLrat r (lrat_there words r.order check r.taken) refl prints in
      let shows = verified_there words old.files r names in
      record {
        reads = r;
        verifies = shows.verifies;
        meets = shows.meets;
        said = p.out ∙ ap (λ (v : Result (Unit {0}) CertError). old.out ++ (verified_answer r.system.names (header_in r) v).text) shows.verifies;
      }

  pub large_cert : IsCheck (order_of words) → (status ≡ TooLarge) ↔ IsLargeCert words old.files
  large_cert check = (
    λ large.
        let r = reads (check_checks (order_of words) check) (inr large) in
        let p = printed_there words old new status Check r (command_there words r.order check r.taken) refl prints in
        let first = cert_large r.system.names (cert_verdict r) (sym p.status_is ∙ large) in
        record { reads = r; vars = first.0; first = first.1 },
    λ is.
        let r = is.reads in
        let p = printed_there words old new status Check r (command_there words r.order check r.taken) refl prints in
        p.status_is ∙ ap (λ (v : Result Accepted CertError). (checked_answer r.system.names v).status) is.first,
  )

  pub large_proof : IsCheckLrat (order_of words) → (status ≡ TooLarge) ↔ IsLargeProof words old.files
  large_proof check = (
    λ large.
        let r = reads (check_lrat_checks (order_of words) check) (inr large) in
        let p = printed_there words old new status CheckLrat r (lrat_there words r.order check r.taken) refl prints in
        let first = proof_large r.system.names (header_in r) (proof_verdict r) (sym p.status_is ∙ large) in
        record { reads = r; vars = first.0; first = first.1 },
    λ is.
        let r = is.reads in
        let p = printed_there words old new status CheckLrat r (lrat_there words r.order check r.taken) refl prints in
        p.status_is ∙ ap (λ (v : Result (Unit {0}) CertError). (verified_answer r.system.names (header_in r) v).status) is.first,
  )
