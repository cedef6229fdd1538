-- Each stage of the reading of a command's words.
use Rattle.std.proofs.Common.{Option, Some, ℕ, ◌≡◌, ◌∙◌, ap, sym, subst, List, [], ◌∷◌, ◌++◌, true, false, Ok, Err, inl, inr, refl, rules}
use Rattle.std.proofs.lemmas.List.{append_assoc, append-nil}
use Rattle.std.specs.Str.{bytes_eq}
use Rattle.clap.specs.Words.{App, Row as Matched, Rule, Text, kind_of, fault_of, first_of, matches_of, is_simple_and_free, with_rule}
use Rattle.clap.specs.Walk.{is_empty}
use Rattle.clap.specs.Kinds.{Kinds, HasKind}
use Rattle.clap.specs.declared.error.Error.{Error}
use Rattle.clap.specs.declared.error.kind.ErrorKind.TheVariants.{OutOfMemory}
use Rattle.cli_words.specs.Order.{Ordered, has_same_path}
use Rattle.cli_words.specs.Table.{Row, file_id, flag_id, row_of, target_id}
use Rattle.cli_words.specs.declared.table.Target.TheVariants.{Config}
use Rattle.cli_words.specs.declared.table.SecondFile.TheVariants.{Certificate, Script}
use Rattle.cli_words.specs.declared.table.Flag.TheVariants.{From, Faulty, Orgs, FaultyOrgs, Node, Set}
use Rattle.cli_words.specs.Words.{all_option_rules, app_for, app_with, file_rules, is_taken, named_among, order_in, text_of, order_by, order_among, path_checked, positional, rules_of_row, with_rules}
use Rattle.cli_words.specs.declared.orders.Command.{Command}
use Rattle.cli_words.specs.declared.orders.Command.TheVariants.{Query, Search, Check, CheckLrat, Whatif}
use Rattle.cli_words.specs.declared.orders.Goal.TheVariants.{Intersect, Dset, Splits, Blocking, Trial, Quorums, Least, OrgBlocking}
use Rattle.cli_words.specs.declared.orders.Query.TheVariants.{Show, Closure, Greatest, Available, Blocks, Vblocks, Export}
use Rattle.cli_words.specs.declared.orders.OrderFault.TheVariants.{Words, SamePath}

-- an error that is not of memory comes only where a kind does
pub is_empty-refused : (kinds : Kinds) (e : Error) → HasKind kinds e → (kind_of e ≡ OutOfMemory → ⊥) → is_empty kinds ≡ false
is_empty-refused [] e (inl memory) other = absurd (other memory)
is_empty-refused [] e (inr never) other = absurd never
is_empty-refused (k ∷ ks) e h other = search rules

-- clap states the matches of each command
pub is_stated : (k : Command) (app : App) → app ≡ app_for k → is_simple_and_free app ≡ true
unfolding app_for row_of
is_stated (Query Show) app e = rw e refl
is_stated (Query Closure) app e = rw e refl
is_stated (Query Greatest) app e = rw e refl
is_stated (Query Available) app e = rw e refl
is_stated (Query Blocks) app e = rw e refl
is_stated (Query Vblocks) app e = rw e refl
is_stated (Search Intersect) app e = rw e refl
is_stated (Search Dset) app e = rw e refl
is_stated (Search Splits) app e = rw e refl
is_stated (Search Blocking) app e = rw e refl
is_stated (Search Trial) app e = rw e refl
is_stated (Search Quorums) app e = rw e refl
is_stated (Search Least) app e = rw e refl
is_stated (Search OrgBlocking) app e = rw e refl
is_stated Check app e = rw e refl
is_stated (Query Export) app e = rw e refl
is_stated CheckLrat app e = rw e refl
is_stated Whatif app e = rw e refl

-- words in which clap finds no fault are taken
pub taken_by : (app wanted : App) (words : List Text) → app ≡ wanted → fault_of app words ≡ [] → is_taken wanted words ≡ true
unfolding is_taken
taken_by app wanted words same none =
    let found : fault_of wanted words ≡ [] = subst (λ (x : App). fault_of x words ≡ []) same none in
    rw found refl

pub refused_by : (app wanted : App) (words : List Text) (e : Error) → app ≡ wanted → HasKind (fault_of app words) e → (kind_of e ≡ OutOfMemory → ⊥) → is_taken wanted words ≡ false
unfolding is_taken
refused_by app wanted words e same h other =
    let found : HasKind (fault_of wanted words) e = subst (λ (x : App). HasKind (fault_of x words) e) same h in
    is_empty-refused (fault_of wanted words) e found other

-- words that are taken have the order of their texts
pub order_by-taken : (k : Command) (words : List Text) (rows : List Matched) → is_taken (app_for k) words ≡ true → rows ≡ matches_of (app_for k) words → order_by k words ≡ order_among k rows
unfolding order_by
order_by-taken k words rows taken whole = rw taken (ap (λ (x : List Matched). order_among k x) (sym whole))

pub order_by-refused : (k : Command) (words : List Text) → is_taken (app_for k) words ≡ false → order_by k words ≡ Err Words
unfolding order_by
order_by-refused k words refused = rw refused refl

pub path_checked-same : (o : Ordered) → has_same_path o ≡ true → path_checked o ≡ Err SamePath
path_checked-same o same = rw same refl

pub path_checked-other : (o : Ordered) → has_same_path o ≡ false → path_checked o ≡ Ok o
path_checked-other o other = rw other refl

-- rules that are added after those of an app
pub rules_behind : (name : Text) (before rules : List Rule) → with_rules (app_with name before) rules ≡ app_with name (before ++ rules)
rules_behind name before [] = ap (app_with name) (sym (append-nil before))
rules_behind name before (rule ∷ rules) = rules_behind name (before ++ rule ∷ []) rules ∙ ap (app_with name) (append_assoc before (rule ∷ []) rules)

-- rules that are added in two parts
pub with_rules-append : (app : App) (first second : List Rule) → with_rules app (first ++ second) ≡ with_rules (with_rules app first) second
with_rules-append app [] second = refl
with_rules-append app (rule ∷ first) second = with_rules-append (with_rule app rule) first second

-- the app of a row, added to part by part
pub app_by_parts : (row : Row) → with_rules (with_rules (with_rule (app_with row.word []) (positional (target_id row.target))) (file_rules row.second)) (all_option_rules row.options) ≡ app_with row.word (rules_of_row row)
app_by_parts row =
    let about : Rule = positional (target_id row.target) in
    ap (λ (x : App). with_rules x (all_option_rules row.options)) (rules_behind row.word (about ∷ []) (file_rules row.second))
    ∙ rules_behind row.word (about ∷ file_rules row.second) (all_option_rules row.options)

-- an order by its texts
pub order_by_texts : (k : Command) (budget trial formula : ℕ) (rows : List Matched) {config cert script : Text} {orgs node from faulty faulty_orgs set : Option Text} → config ≡ text_of (target_id Config) rows → cert ≡ text_of (file_id Certificate) rows → script ≡ text_of (file_id Script) rows
    → orgs ≡ first_of (flag_id Orgs) rows → node ≡ first_of (flag_id Node) rows → from ≡ first_of (flag_id From) rows → faulty ≡ first_of (flag_id Faulty) rows → faulty_orgs ≡ first_of (flag_id FaultyOrgs) rows → set ≡ first_of (flag_id Set) rows
    → record { command = k; config = config; cert = cert; script = script; orgs = orgs; node = node; from = from; faulty = faulty; faulty_orgs = faulty_orgs; set = set; budget = budget; trial = trial; formula = formula } ≡ order_in k budget trial formula rows
order_by_texts k budget trial formula rows a b c d e f g h i = rw (a, b, c, d, e, f, g, h, i) refl

-- ---- a command by its name

pub named_here : (command : Command) (rest : List Command) (name : Text) → bytes_eq name (row_of command).word ≡ true → named_among (command ∷ rest) name ≡ Some command
named_here command rest name is = rw is refl

pub named_further : (command : Command) (rest : List Command) (name : Text) → bytes_eq name (row_of command).word ≡ false → named_among (command ∷ rest) name ≡ named_among rest name
named_further command rest name other = rw other refl
