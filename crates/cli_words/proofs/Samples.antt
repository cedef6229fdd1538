-- How some command lines are read, computed from the definition.
use Rattle.std.proofs.Common.{◌≡◌, ◌==◌, ℕ, List, [], ◌∷◌, map, Some, None, Result, Ok, Err, codes, refl, if◌then◌else◌}
use Rattle.clap.specs.Words.{Text}
use Rattle.cli_words.proofs.OnLiterals.{words_on_literals}
use Rattle.cli_words.specs.Order.{Ordered}
use Rattle.cli_words.specs.Words.{order_of}
use Rattle.cli_words.specs.Table.{row_of}
use Rattle.cli_words.specs.Usage.{usage}
use Rattle.cli_words.specs.declared.budget.TheConstants.{USUAL_BUDGET}
use Rattle.cli_words.specs.declared.formula.TheConstants.{NEWEST_FORMULA}
use Rattle.cli_words.specs.declared.orders.Command.{Command}
use Rattle.cli_words.specs.declared.orders.Command.TheVariants.{Query, Search, Check, CheckLrat, Whatif}
use Rattle.cli_words.specs.declared.orders.Goal.{Goal}
use Rattle.cli_words.specs.declared.orders.Goal.TheVariants.{Intersect, Dset, Splits, Blocking, Trial, Quorums, Least, OrgBlocking}
use Rattle.cli_words.specs.declared.orders.Query.TheVariants.{Show, Closure, Greatest, Available, Blocks, Vblocks, Export}
use Rattle.cli_words.specs.declared.orders.OrderFault.{OrderFault}
use Rattle.cli_words.specs.declared.orders.OrderFault.TheVariants.{Words, SamePath}

-- the command without any text
abbrev nothing_for : Command → Ordered
nothing_for command = record {
  command = command;
  config = [];
  cert = [];
  script = [];
  orgs = None;
  node = None;
  from = None;
  faulty = None;
  faulty_orgs = None;
  set = None;
  budget = 0;
  trial = 0;
  formula = 0;
}

abbrev search_of : Goal → ℕ → Ordered
search_of goal units = record (nothing_for (Search goal)) { config = codes "f"; cert = codes "c"; budget = units }

abbrev put_first : ℕ → List Text → List Text
put_first b [] = (b ∷ []) ∷ []
put_first b (word ∷ words) = (b ∷ word) ∷ words

-- the words of a line, parted at each space, so that two spaces have an empty word between them
abbrev words_of : Text → List Text
words_of [] = [] ∷ []
words_of (b ∷ bs) = if b == 32 then [] ∷ words_of bs else put_first b (words_of bs)

-- the order of a line after the program's name
abbrev typed : Text → Result Ordered OrderFault
typed line = order_of (codes "quorum_cli" ∷ words_of line)

-- each line has the order beside it
abbrev AreRead : List (Text × Result Ordered OrderFault) → Type 0
AreRead rows = map (λ row. typed row.0) rows ≡ map (λ row. row.1) rows

-- none of the lines is an order
abbrev AreRefused : List Text → Type 0
AreRefused lines = map typed lines ≡ map (λ _. Err Words) lines

no_words : order_of [] ≡ Err Words
no_words = refl

program_alone : order_of (codes "quorum_cli" ∷ []) ≡ Err Words
program_alone = refl

-- ---- the usage text

usage_text : usage ≡ codes "usage: quorum_cli COMMAND\nshow CONFIG\nclosure CONFIG --node NAME\ngreatest CONFIG [COMMON]\nintersect CONFIG CERT [COMMON] [--budget UNITS]\navailable CONFIG --set NAMES [--from NAME]\ndset CONFIG CERT --set NAMES [--from NAME] [--budget UNITS]\nblocks CONFIG --set NAMES [COMMON]\nvblocks CONFIG --node NAME --set NAMES\nsplits CONFIG CERT --set NAMES [COMMON] [--budget UNITS]\nblocking CONFIG CERT [COMMON] [--budget UNITS]\ncheck CONFIG CERT [--orgs ORGS]\nexport CONFIG [COMMON] [--formula VERSION]\ntrial N CERT [--budget UNITS]\ncheck-lrat CONFIG LRAT [COMMON] [--formula VERSION]\nquorums CONFIG CERT [COMMON] [--budget UNITS]\nleast CONFIG CERT [COMMON] [--budget UNITS]\norg-blocking CONFIG CERT --orgs ORGS [--from NAME] [--faulty NAMES] [--faulty-orgs IDS] [--budget UNITS]\nwhatif CONFIG SCRIPT --set NAMES\nCOMMON: --from NAME --faulty NAMES --orgs ORGS --faulty-orgs IDS\n"
unfolding usage row_of
usage_text = refl

-- ---- the commands

commands_read : AreRead (
    (codes "show f", Ok (record (nothing_for (Query Show)) { config = codes "f" })) ∷
    (codes "closure f --node a", Ok (record (nothing_for (Query Closure)) { config = codes "f"; node = Some (codes "a") })) ∷
    (codes "greatest f", Ok (record (nothing_for (Query Greatest)) { config = codes "f" })) ∷
    (codes "greatest f --faulty a,b", Ok (record (nothing_for (Query Greatest)) { config = codes "f"; faulty = Some (codes "a,b") })) ∷
    (codes "greatest f --from a --faulty b --orgs o --faulty-orgs c,d", Ok (record (nothing_for (Query Greatest)) { config = codes "f"; orgs = Some (codes "o"); from = Some (codes "a"); faulty = Some (codes "b"); faulty_orgs = Some (codes "c,d") })) ∷
    (codes "available f --set a", Ok (record (nothing_for (Query Available)) { config = codes "f"; set = Some (codes "a") })) ∷
    (codes "available f --from a --set b", Ok (record (nothing_for (Query Available)) { config = codes "f"; from = Some (codes "a"); set = Some (codes "b") })) ∷
    (codes "blocks f --set a", Ok (record (nothing_for (Query Blocks)) { config = codes "f"; set = Some (codes "a") })) ∷
    (codes "blocks f --set a --faulty b", Ok (record (nothing_for (Query Blocks)) { config = codes "f"; faulty = Some (codes "b"); set = Some (codes "a") })) ∷
    (codes "blocks f --set a --from b --orgs=o --faulty-orgs=", Ok (record (nothing_for (Query Blocks)) { config = codes "f"; orgs = Some (codes "o"); from = Some (codes "b"); faulty_orgs = Some []; set = Some (codes "a") })) ∷
    (codes "vblocks f --node v --set a", Ok (record (nothing_for (Query Vblocks)) { config = codes "f"; node = Some (codes "v"); set = Some (codes "a") })) ∷
    (codes "check f c", Ok (record (nothing_for Check) { config = codes "f"; cert = codes "c" })) ∷
    (codes "export f --from a", Ok (record (nothing_for (Query Export)) { config = codes "f"; from = Some (codes "a"); formula = NEWEST_FORMULA })) ∷
    (codes "export f --formula 2", Ok (record (nothing_for (Query Export)) { config = codes "f"; formula = 2 })) ∷
    (codes "check-lrat f p --formula=2", Ok (record (nothing_for CheckLrat) { config = codes "f"; cert = codes "p"; formula = 2 })) ∷
    (codes "check-lrat f p", Ok (record (nothing_for CheckLrat) { config = codes "f"; cert = codes "p"; formula = NEWEST_FORMULA })) ∷
    (codes "check-lrat f p --from a --faulty b --orgs o --faulty-orgs c,d", Ok (record (nothing_for CheckLrat) { formula = NEWEST_FORMULA; config = codes "f"; cert = codes "p"; orgs = Some (codes "o"); from = Some (codes "a"); faulty = Some (codes "b"); faulty_orgs = Some (codes "c,d") })) ∷
    (codes "intersect f c", Ok (search_of Intersect USUAL_BUDGET)) ∷
    (codes "intersect f c --faulty a --budget 0", Ok (record (search_of Intersect 0) { faulty = Some (codes "a") })) ∷
    (codes "dset f c --set a --from b --budget 4000000000", Ok (record (search_of Dset 4000000000) { from = Some (codes "b"); set = Some (codes "a") })) ∷
    (codes "splits f c --set a --orgs o --budget=10", Ok (record (search_of Splits 10) { orgs = Some (codes "o"); set = Some (codes "a") })) ∷
    (codes "blocking f c --from b --budget 0", Ok (record (search_of Blocking 0) { from = Some (codes "b") })) ∷
    (codes "quorums f c --from b --budget 0", Ok (record (search_of Quorums 0) { from = Some (codes "b") })) ∷
    (codes "least f c --from b --budget 0", Ok (record (search_of Least 0) { from = Some (codes "b") })) ∷
    (codes "org-blocking f c --orgs o", Ok (record (search_of OrgBlocking USUAL_BUDGET) { orgs = Some (codes "o") })) ∷
    (codes "org-blocking f c --orgs=o --from a --faulty b --faulty-orgs c,d --budget 0", Ok (record (search_of OrgBlocking 0) { orgs = Some (codes "o"); from = Some (codes "a"); faulty = Some (codes "b"); faulty_orgs = Some (codes "c,d") })) ∷
    (codes "org-blocking f c --orgs c", Err SamePath) ∷
    -- one path may stand for both files that are read
    (codes "org-blocking f c --orgs f", Ok (record (search_of OrgBlocking USUAL_BUDGET) { orgs = Some (codes "f") })) ∷
    (codes "check f c --orgs o", Ok (record (nothing_for Check) { config = codes "f"; cert = codes "c"; orgs = Some (codes "o") })) ∷
    (codes "check f c --orgs c", Err SamePath) ∷
    (codes "whatif f s --set a,b", Ok (record (nothing_for Whatif) { config = codes "f"; script = codes "s"; set = Some (codes "a,b") })) ∷
    -- one path may stand for both: nothing is written
    (codes "whatif f f --set=", Ok (record (nothing_for Whatif) { config = codes "f"; script = codes "f"; set = Some [] })) ∷
    (codes "trial 100 c", Ok (record (nothing_for (Search Trial)) { cert = codes "c"; budget = USUAL_BUDGET; trial = 100 })) ∷
    (codes "trial --budget=0 1 c", Ok (record (nothing_for (Search Trial)) { cert = codes "c"; budget = 0; trial = 1 })) ∷
    (codes "trial 4 ", Ok (record (nothing_for (Search Trial)) { budget = USUAL_BUDGET; trial = 4 })) ∷
    (codes "intersect f c --orgs c", Err SamePath) ∷
    []
    )
unfolding words_on_literals
commands_read = refl

-- ---- one path for both files

paths_compared_read : AreRead (
    (codes "check f f", Err SamePath) ∷
    (codes "check f ./f", Ok (record (nothing_for Check) { config = codes "f"; cert = codes "./f" })) ∷
    (codes "check  ", Err SamePath) ∷
    []
    )
unfolding words_on_literals
paths_compared_read = refl

-- ---- options

options_read : AreRead (
    (codes "blocks f --set=a", Ok (record (nothing_for (Query Blocks)) { config = codes "f"; set = Some (codes "a") })) ∷
    (codes "blocks --set=a f", Ok (record (nothing_for (Query Blocks)) { config = codes "f"; set = Some (codes "a") })) ∷
    (codes "blocks --set a f", Ok (record (nothing_for (Query Blocks)) { config = codes "f"; set = Some (codes "a") })) ∷
    (codes "blocks f --set=a=b", Ok (record (nothing_for (Query Blocks)) { config = codes "f"; set = Some (codes "a=b") })) ∷
    (codes "blocks f --set=", Ok (record (nothing_for (Query Blocks)) { config = codes "f"; set = Some [] })) ∷
    (codes "blocks f --set ", Ok (record (nothing_for (Query Blocks)) { config = codes "f"; set = Some [] })) ∷
    (codes "blocks f --set=-x", Ok (record (nothing_for (Query Blocks)) { config = codes "f"; set = Some (codes "-x") })) ∷
    (codes "blocks f --set -", Ok (record (nothing_for (Query Blocks)) { config = codes "f"; set = Some (codes "-") })) ∷
    []
    )
unfolding words_on_literals
options_read = refl

-- ---- paths

paths_read : AreRead (
    (codes "check - c", Ok (record (nothing_for Check) { config = codes "-"; cert = codes "c" })) ∷
    (codes "check  c", Ok (record (nothing_for Check) { config = []; cert = codes "c" })) ∷
    (codes "show ", Ok (record (nothing_for (Query Show)) { config = [] })) ∷
    (codes "check -- --help -c", Ok (record (nothing_for Check) { config = codes "--help"; cert = codes "-c" })) ∷
    (codes "check f -- c", Ok (record (nothing_for Check) { config = codes "f"; cert = codes "c" })) ∷
    (codes "check f c --", Ok (record (nothing_for Check) { config = codes "f"; cert = codes "c" })) ∷
    (codes "check -- f --", Ok (record (nothing_for Check) { config = codes "f"; cert = codes "--" })) ∷
    []
    )
unfolding words_on_literals
paths_read = refl

-- ---- no help and no version

no_help_read : AreRead (
    (codes "check help c", Ok (record (nothing_for Check) { config = codes "help"; cert = codes "c" })) ∷
    []
    )
unfolding words_on_literals
no_help_read = refl

-- ---- lines that are no order

refused : AreRefused (
    -- of the commands
    codes "org-blocking f c" ∷
    codes "whatif f s" ∷
    codes "whatif f --set a" ∷
    codes "whatif f s --set a --from b" ∷
    codes "trial 0 c" ∷
    codes "trial 101 c" ∷
    codes "trial 01 c" ∷
    codes "trial f c" ∷
    codes "trial 4" ∷
    codes "trial 4 c --from a" ∷
    codes "trial 4 c --budget x" ∷
    codes "intersect f c --budget 4000000001" ∷
    codes "intersect f c --budget +1" ∷
    codes "intersect f c --budget 01" ∷
    codes "intersect f c --budget=" ∷
    codes "greatest f --budget 1" ∷
    codes "export f --formula 1" ∷
    codes "export f --formula 4" ∷
    codes "check-lrat f p --formula 03" ∷
    codes "check f c --formula 2" ∷
    codes "dset f c" ∷
    codes "intersect f f --budget x" ∷
    codes "interse f c" ∷
    codes "sho f" ∷
    codes "--set=a blocks f" ∷
    codes "-- show f" ∷
    codes "show" ∷
    codes "check f" ∷
    codes "check f c d" ∷
    codes "show f g" ∷
    codes "available f" ∷
    codes "vblocks f --set a" ∷
    codes "available f --set a --faulty b" ∷
    codes "check f c --from a" ∷
    codes "closure f" ∷
    codes "greatest f --quorum a" ∷
    -- of one path for both files
    codes "check f f --set=a" ∷
    -- of options
    codes "blocks f --set" ∷
    codes "blocks f --se=a" ∷
    codes "blocks f --set=a --set=b" ∷
    codes "blocks f --set=a --set=a" ∷
    codes "blocks f --set -x" ∷
    codes "blocks f --set -- a" ∷
    -- of paths
    codes "show -f" ∷
    codes "blocks f -- --set=a" ∷
    -- of help and versions
    codes "help" ∷
    codes "help show" ∷
    codes "--help" ∷
    codes "-h" ∷
    codes "--version" ∷
    codes "-V" ∷
    codes "blocks --help" ∷
    codes "check f c -h" ∷
    codes "check f c --version" ∷
    codes "check f c -V" ∷
    []
    )
unfolding words_on_literals
refused = refl
