-- What the yes of a check means.
use Rattle.std.proofs.Common.{◌≡◌, IsTrue, List, ℕ, Option, Result, Ok, Err, sym, ap, subst}
use Rattle.fbas_model.specs.Systems.{System}
use Rattle.cli_words.specs.Order.{Ordered}
use Rattle.desk_io.specs.State.{Files}
use Rattle.certificate_file.specs.declared.given.GivenOrgs.{GivenOrgs}
use Rattle.cli_words.specs.Words.{order_of}
use Rattle.cli_words.specs.declared.orders.Command.{Command}
use Rattle.cli_words.specs.declared.orders.Command.TheVariants.{Query, Search, Check, CheckLrat, Whatif}
use Rattle.cli_words.specs.declared.orders.OrderFault.{OrderFault}
use Rattle.request_reading.specs.declared.early.Early.{Early}
use Rattle.request_reading.specs.declared.names.NamedNodes.{NamedNodes}
use Rattle.request_reading.specs.declared.operands.Operands.{Operands}
use Rattle.request_reading.specs.declared.reading.Asked.{Asked}
use Rattle.request_reading.specs.declared.reading.Asked.TheVariants as asked
use Rattle.request_reading.specs.Answers.{claim_by, is_check, operands_among, operands_of, orgs_given}
use Rattle.request_reading.specs.Given.{given_by, orgs_among}
use Rattle.request_reading.specs.Names.{names_of}
use Rattle.request_reading.specs.Reading.{◌>>=◌}
use Rattle.request_reading.specs.Searches.{header_of}
use Rattle.request_reading.specs.Formulas.{version_of}
use Rattle.request_reading.specs.Meaning.{HasFile, Shows, ShowsClaim, Verifies, MeansYes, OfWords, NamesAccepted, NamesVerified, WordsMean, YesMeans, IsCheck, IsCheckLrat, ChecksFile}

pub YesMeans-weaker : (A B : Type 0) (a : Asked) → (A → B) → YesMeans A a → YesMeans B a
YesMeans-weaker A B (asked.Checked answer) f means = λ said. f (means said)
YesMeans-weaker A B (asked.Question system question) f means = means
YesMeans-weaker A B (asked.Search s) f means = means
YesMeans-weaker A B (asked.Edits e) f means = means

-- ---- what a yes means, by the command

pub check_checks : (r : Result Ordered OrderFault) → IsCheck r → ChecksFile r
check_checks (Ok order) is = ap is_check is
check_checks (Err fault) never = never

pub check_lrat_checks : (r : Result Ordered OrderFault) → IsCheckLrat r → ChecksFile r
check_lrat_checks (Ok order) is = ap is_check is
check_lrat_checks (Err fault) never = never

-- with the meaning of one command
by_command : (words : List (List ℕ)) (files : Files) (k : Command) (m : WordsMean words files) → m.order.command ≡ k → OfWords (λ order system config. MeansYes k order system config files) files words
by_command words files k m is =
    let file = m.means in
    let config = m.means.means in
    record {
      order = m.order;
      taken = m.taken;
      means = record {
        config = file.config;
        held = file.held;
        means = record {
          system = config.system;
          read = config.read;
          means = subst (λ (x : Command). MeansYes x m.order config.system file.config files) is config.means;
        };
      };
    }

pub accepted_by : (words : List (List ℕ)) (files : Files) → IsCheck (order_of words) → WordsMean words files → NamesAccepted words files
accepted_by words files check m = by_command words files Check m (subst IsCheck m.taken check)

pub verified_by : (words : List (List ℕ)) (files : Files) → IsCheckLrat (order_of words) → WordsMean words files → NamesVerified words files
verified_by words files check m = by_command words files CheckLrat m (subst IsCheckLrat m.taken check)

-- ---- what was read for a check

named_read : (f : System) (orgs : Option GivenOrgs) (r : Result NamedNodes Early) (s : Operands) → (r >>= (λ named. Ok (record { system = f; orgs = orgs; named = named }))) ≡ Ok s → (r ≡ Ok s.named) × ((orgs ≡ s.orgs) × (f ≡ s.system))
named_read f orgs (Ok named) s e =
    let is : s ≡ record { system = f; orgs = orgs; named = named } = cc in
    (ap Ok (sym (ap (λ (x : Operands). x.named) is)), (sym (ap (λ (x : Operands). x.orgs) is), sym (ap (λ (x : Operands). x.system) is)))
named_read f orgs (Err early) s e = absurd cc

operands_read : (f : System) (o : Ordered) (r : Result (Option GivenOrgs) Early) (s : Operands) → (r >>= (λ orgs. operands_among o f orgs)) ≡ Ok s → (r ≡ Ok s.orgs) × ((names_of f (orgs_among s.orgs) o ≡ Ok s.named) × (f ≡ s.system))
operands_read f o (Ok orgs) s e =
    let parts = named_read f orgs (names_of f (orgs_among orgs) o) s e in
    (ap Ok parts.1.0, (subst (λ (x : Option GivenOrgs). names_of f (orgs_among x) o ≡ Ok s.named) parts.1.0 parts.0, parts.1.1))
operands_read f o (Err early) s e = absurd cc

-- what was shown of the file is what the command's yes means
pub means_by : (k : Command) (o : Ordered) (f : System) (config : List ℕ) (files : Files) (s : Operands) → IsTrue (is_check k) → operands_of o f files ≡ Ok s
    → HasFile (ShowsClaim s.system (claim_by k o.formula config s.system s.orgs s.named)) files o.cert → MeansYes k o f config files
means_by Check o f config files s is read shows =
    let parts = operands_read f o (orgs_given f.names files o.orgs) s read in
    record {
      orgs = s.orgs;
      given = parts.0;
      cert = subst (λ (g : System). HasFile (Shows g (given_by config s.orgs)) files o.cert) (sym parts.1.1) shows;
    }
means_by CheckLrat o f config files s is read shows =
    let parts = operands_read f o (orgs_given f.names files o.orgs) s read in
    record {
      orgs = s.orgs;
      given = parts.0;
      nodes = s.named;
      named = parts.1.0;
      proof = subst (λ (g : System). HasFile (Verifies g (version_of o.formula) (header_of g s.named)) files o.cert) (sym parts.1.1) shows;
    }
means_by Whatif o f config files s is read shows = absurd cc
means_by (Query q) o f config files s is read shows = absurd cc
means_by (Search goal) o f config files s is read shows = absurd cc
