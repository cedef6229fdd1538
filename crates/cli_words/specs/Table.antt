-- The table of the commands: a row for each, from which all that depends on the command follows.
use Rattle.std.specs.Prelude.{List, [], ◌∷◌, Bool, true, false, Option, Some, None, codes}
use Rattle.std.specs.List.{list_any}
use Rattle.clap.specs.Words.{Text}
use Rattle.cli_words.specs.declared.orders.Command.{Command}
use Rattle.cli_words.specs.declared.orders.Command.TheVariants.{Query, Search, Check, CheckLrat, Whatif}
use Rattle.cli_words.specs.declared.orders.Goal.TheVariants.{Intersect, Dset, Splits, Blocking, Trial, Quorums, Least, OrgBlocking}
use Rattle.cli_words.specs.declared.orders.Query.TheVariants.{Show, Closure, Greatest, Available, Blocks, Vblocks, Export}
use Rattle.cli_words.specs.declared.table.Target.{Target}
use Rattle.cli_words.specs.declared.table.Target.TheVariants.{Config, Organisations}
use Rattle.cli_words.specs.declared.table.SecondFile.{SecondFile}
use Rattle.cli_words.specs.declared.table.SecondFile.TheVariants.{Certificate, Proof, Script}
use Rattle.cli_words.specs.declared.table.Flag.{Flag}
use Rattle.cli_words.specs.declared.table.Flag.TheVariants.{From, Faulty, Orgs, FaultyOrgs, Node, Set, Budget, Formula}
use Rattle.cli_words.specs.declared.table.Parameter.{Parameter}
use Rattle.cli_words.specs.declared.table.Parameter.TheVariants.{Needs, Takes, Common}
use Rattle.cli_words.specs.declared.table.Row.{Row as RowValue}

-- a command's own word, what it is about, its second file, and its options
pub record Row : Type 0 where
  pub word : Text
  pub target : Target
  pub second : Option SecondFile
  pub options : List Parameter

-- the row that a Rust value is
abbrev pub row_view : RowValue → Row
row_view r = record { word = r.word.now; target = r.target; second = r.second; options = r.options.now }

abbrev pub row : Text → Target → Option SecondFile → List Parameter → Row
row word target second options = record { word = word; target = target; second = second; options = options }

-- the table
unfoldable pub row_of : Command → Row
row_of (Query Show) = row (codes "show") Config None []
row_of (Query Closure) = row (codes "closure") Config None (Needs Node ∷ [])
row_of (Query Greatest) = row (codes "greatest") Config None (Common ∷ [])
row_of (Query Available) = row (codes "available") Config None (Needs Set ∷ Takes From ∷ [])
row_of (Query Blocks) = row (codes "blocks") Config None (Needs Set ∷ Common ∷ [])
row_of (Query Vblocks) = row (codes "vblocks") Config None (Needs Node ∷ Needs Set ∷ [])
row_of (Query Export) = row (codes "export") Config None (Common ∷ Takes Formula ∷ [])
row_of (Search Intersect) = row (codes "intersect") Config (Some Certificate) (Common ∷ Takes Budget ∷ [])
row_of (Search Dset) = row (codes "dset") Config (Some Certificate) (Needs Set ∷ Takes From ∷ Takes Budget ∷ [])
row_of (Search Splits) = row (codes "splits") Config (Some Certificate) (Needs Set ∷ Common ∷ Takes Budget ∷ [])
row_of (Search Blocking) = row (codes "blocking") Config (Some Certificate) (Common ∷ Takes Budget ∷ [])
row_of (Search Trial) = row (codes "trial") Organisations (Some Certificate) (Takes Budget ∷ [])
row_of (Search Quorums) = row (codes "quorums") Config (Some Certificate) (Common ∷ Takes Budget ∷ [])
row_of (Search Least) = row (codes "least") Config (Some Certificate) (Common ∷ Takes Budget ∷ [])
row_of (Search OrgBlocking) = row (codes "org-blocking") Config (Some Certificate) (Needs Orgs ∷ Takes From ∷ Takes Faulty ∷ Takes FaultyOrgs ∷ Takes Budget ∷ [])
row_of Check = row (codes "check") Config (Some Certificate) (Takes Orgs ∷ [])
row_of CheckLrat = row (codes "check-lrat") Config (Some Proof) (Common ∷ Takes Formula ∷ [])
row_of Whatif = row (codes "whatif") Config (Some Script) (Needs Set ∷ [])

-- the commands in the order of the usage text
abbrev pub commands : List Command
commands = Query Show ∷ Query Closure ∷ Query Greatest ∷ Search Intersect ∷ Query Available ∷ Search Dset ∷ Query Blocks ∷ Query Vblocks ∷ Search Splits ∷ Search Blocking ∷ Check ∷ Query Export ∷ Search Trial ∷ CheckLrat ∷ Search Quorums ∷ Search Least ∷ Search OrgBlocking ∷ Whatif ∷ []

-- ---- the names that clap knows the arguments by, and what stands for them in the usage text

abbrev pub target_id : Target → Text
target_id Config = codes "config"
target_id Organisations = codes "organisations"

abbrev pub target_place : Target → Text
target_place Config = codes "CONFIG"
target_place Organisations = codes "N"

abbrev pub file_id : SecondFile → Text
file_id Certificate = codes "cert"
file_id Proof = codes "cert"
file_id Script = codes "script"

abbrev pub file_place : SecondFile → Text
file_place Certificate = codes "CERT"
file_place Proof = codes "LRAT"
file_place Script = codes "SCRIPT"

abbrev pub flag_words : Flag → Text × Text
flag_words From = (codes "from", codes "NAME")
flag_words Faulty = (codes "faulty", codes "NAMES")
flag_words Orgs = (codes "orgs", codes "ORGS")
flag_words FaultyOrgs = (codes "faulty-orgs", codes "IDS")
flag_words Node = (codes "node", codes "NAME")
flag_words Set = (codes "set", codes "NAMES")
flag_words Budget = (codes "budget", codes "UNITS")
flag_words Formula = (codes "formula", codes "VERSION")

abbrev pub flag_id : Flag → Text
flag_id flag = (flag_words flag).0

abbrev pub flag_place : Flag → Text
flag_place flag = (flag_words flag).1

-- the options that `COMMON` stands for
abbrev pub common : List Flag
common = From ∷ Faulty ∷ Orgs ∷ FaultyOrgs ∷ []

-- ---- what a row says of its command

abbrev pub is_config : Target → Bool
is_config Config = true
is_config Organisations = false

-- the commands with a configuration: a trial makes its own
abbrev pub has_configuration : Command → Bool
has_configuration command = is_config (row_of command).target

abbrev pub is_evidence : Option SecondFile → Bool
is_evidence None = false
is_evidence (Some Certificate) = true
is_evidence (Some Proof) = true
is_evidence (Some Script) = false

-- the commands with a certificate, or with another solver's proof in its place
abbrev pub has_certificate : Command → Bool
has_certificate command = is_evidence (row_of command).second

abbrev pub is_budget : Parameter → Bool
is_budget (Takes Budget) = true
is_budget parameter = false

-- the commands with a budget: those that search
abbrev pub has_budget : Command → Bool
has_budget command = list_any is_budget (row_of command).options

abbrev pub is_formula : Parameter → Bool
is_formula (Takes Formula) = true
is_formula parameter = false

-- the commands with a version of the formula: those whose formula stands in a file of its own
abbrev pub has_formula : Command → Bool
has_formula command = list_any is_formula (row_of command).options
