-- The lines that the program prints.
use Rattle.std.specs.Prelude.{ℕ, ◌+◌, List, [], ◌∷◌, ◌++◌, length, Bool, true, false, Option, Some, None, unwrap_or, slice_get, codes, decimal}
use Rattle.hex.specs.Hex.{encode_lower}
use Rattle.fbas_model.specs.Names.{Name}
use Rattle.fbas_model.specs.Nodes.{Table, size}
use Rattle.fbas_model.specs.Systems.{System, entries_in, unset_in}
use Rattle.fbas_model.specs.Fbas.{Fbas}
use Rattle.quorum_set.specs.Findings.{Found, bad_threshold, repeated, findings_of}
use Rattle.name_set.specs.declared.lists.NameFault.{NameFault}
use Rattle.name_set.specs.declared.lists.NameFault.TheVariants.{Empty, BadKey as BadName, Unknown}
use Rattle.node_json.specs.declared.faults.SetFault.{SetFault}
use Rattle.node_json.specs.declared.faults.SetFault.TheVariants.{Shape, Threshold, Validators, Inner}
use Rattle.node_json.specs.declared.faults.ConfigFault.{ConfigFault}
use Rattle.node_json.specs.declared.faults.ConfigFault.TheVariants.{NotJson, NotNodes, NotNode, BadKey, Duplicate, TooDeep, BadQuorumSet, TooManyNodes, TooManyEntries, Memory}
use Rattle.node_json.specs.Groups.{texts_of}
use Rattle.node_json.specs.declared.faults.OrgFault.{OrgFault}
use Rattle.node_json.specs.declared.faults.OrgFault.TheVariants.{NotJson as NoTree, NotOrgs, BadOrg, DuplicateOrg, TooManyOrgs, Memory as NoRoom}
use Rattle.lrat_model.specs.Literal.{Literal, Plus, Minus}
use Rattle.lrat_model.specs.declared.step.StepFault.{StepFault}
use Rattle.lrat_model.specs.declared.step.StepFault.TheVariants.{IdOrder, BadLiteral, Tautology, NoSuchClause, NotUnit, NoConflict, RatStep, RatMissing, Memory as NoStep}
use Rattle.cert_lines.specs.declared.faults.CertError.{CertError}
use Rattle.cert_lines.specs.declared.faults.CertError.TheVariants.{BadLine, LineTooLong, TooManyLines, Digest, NoOrgs, OrgsDigest, UnknownNode, NotQuorum, NotBlocking, NotMinimal, NotSmaller, Overlap, Formula, Step, NotNew, NotRefuted, TooLarge, Truncated, Trailing, Memory as NoMemory}
use Rattle.certificate_file.specs.declared.places.Accepted.{Accepted}
use Rattle.certificate_file.specs.declared.places.Header.{Header}
use Rattle.witness_pair.specs.declared.Pair.{Pair}
use Rattle.certificate_file.specs.declared.places.Conclusion.{Conclusion}
use Rattle.certificate_file.specs.declared.places.Conclusion.TheVariants.{Pair as pair, Refutation, Partial, Reached}
use Rattle.certificate_file.specs.Acceptance.{aim_word}
use Rattle.certificate_file.specs.declared.places.Aim.TheVariants as aim
use Rattle.enumeration_journal.specs.declared.kinds.ListKind.TheVariants.{Whole, Partial as Part}
use Rattle.enumeration_journal.specs.declared.kinds.Listed.TheVariants.{Smaller}
use Rattle.reach_kinds.specs.Kinds.{kind_word}
use Rattle.reach_kinds.specs.declared.kinds.ReachKind.TheVariants.{Nodes, Groups}
use Rattle.reach_kinds.specs.declared.places.Reached.{Reached as Shown}
use Rattle.reach_kinds.specs.declared.places.Reached.TheVariants as reached

abbrev pub Text : Type 0
Text = List ℕ

-- the text and a line feed
abbrev pub line : Text → Text
line text = text ++ 10 ∷ []

-- the text, a space and a number
abbrev pub numbered : Text → ℕ → Text
numbered text n = text ++ 32 ∷ decimal n

-- a line of a word and a number
abbrev pub counted : Text → ℕ → Text
counted word n = line (numbered word n)

-- the text, a space and a word
abbrev pub worded : Text → Text → Text
worded text word = text ++ 32 ∷ word

-- each name whose place is marked, with a space before it
abbrev pub listed : List Name → Table → Text
listed [] marks = []
listed (name ∷ names) [] = []
listed (name ∷ names) (true ∷ marks) = (32 ∷ name) ++ listed names marks
listed (name ∷ names) (false ∷ marks) = listed names marks

-- a word and the list of a set's names
abbrev pub list : Text → List Name → Table → Text
list word names set = word ++ listed names set

-- the name at a place, and nothing where there is no such place
abbrev pub name_at : List Name → ℕ → Name
name_at names v = unwrap_or (slice_get names v) []

-- ---- refusals

abbrev pub same_path : Text
same_path = codes "usage same-path\n"

abbrev pub names_fault : Text → NameFault → Text
names_fault option (Empty at) = numbered (worded (codes "usage empty-name") option) at
names_fault option (BadName at) = numbered (worded (codes "usage bad-name") option) at
names_fault option (Unknown at) = numbered (worded (codes "usage unknown-name") option) at

-- the list of names after this option is refused
abbrev pub names_refused : Text → NameFault → Text
names_refused option fault = line (names_fault option fault)

abbrev pub set_fault : SetFault → Text
set_fault Shape = codes "shape"
set_fault Threshold = codes "threshold"
set_fault Validators = codes "validators"
set_fault Inner = codes "inner"

-- a want of memory is no refusal of the bytes, and is not printed
abbrev pub config_fault : ConfigFault → Text
config_fault NotJson = codes "config not-json"
config_fault NotNodes = codes "config not-nodes"
config_fault (NotNode i) = numbered (codes "config not-node") i
config_fault (BadKey i) = numbered (codes "config bad-key") i
config_fault (Duplicate i) = numbered (codes "config duplicate") i
config_fault (TooDeep i) = numbered (codes "config too-deep") i
config_fault (BadQuorumSet i fault) = worded (numbered (codes "config bad-quorum-set") i) (set_fault fault)
config_fault (TooManyNodes n) = numbered (codes "config too-many-nodes") n
config_fault (TooManyEntries n) = numbered (codes "config too-many-entries") n
config_fault Memory = []

abbrev pub config_too_long : Text
config_too_long = codes "config too-long\n"

abbrev pub config_refused : ConfigFault → Text
config_refused fault = line (config_fault fault)

-- a want of memory is no refusal of the bytes, and is not printed
abbrev pub orgs_fault : OrgFault → Text
orgs_fault NoTree = codes "orgs not-json"
orgs_fault NotOrgs = codes "orgs not-orgs"
orgs_fault (BadOrg i) = numbered (codes "orgs bad-org") i
orgs_fault (DuplicateOrg i) = numbered (codes "orgs duplicate-org") i
orgs_fault (TooManyOrgs n) = numbered (codes "orgs too-many-orgs") n
orgs_fault NoRoom = []

abbrev pub orgs_too_long : Text
orgs_too_long = codes "orgs too-long\n"

abbrev pub orgs_refused : OrgFault → Text
orgs_refused fault = line (orgs_fault fault)

abbrev pub script_too_long : Text
script_too_long = codes "script too-long\n"

-- why a script is refused, at which line, and how many there would be where too many are the reason
abbrev pub script_fault : Text → ℕ → Option ℕ → Text
script_fault word l None = numbered (worded (codes "script") word) l
script_fault word l (Some n) = numbered (numbered (worded (codes "script") word) l) n

abbrev pub script_refused : Text → ℕ → Option ℕ → Text
script_refused word l n = line (script_fault word l n)

-- a literal as a signed number
abbrev pub literal_word : Literal → Text
literal_word (Plus x) = decimal x
literal_word (Minus x) = 45 ∷ decimal x

-- a want of memory is no refusal of the step, and is not printed
abbrev pub step_fault : StepFault → Text
step_fault (IdOrder last id) = numbered (numbered (codes "id-order") last) id
step_fault (BadLiteral l) = worded (codes "bad-literal") (literal_word l)
step_fault (Tautology l) = worded (codes "tautology") (literal_word l)
step_fault (NoSuchClause id) = numbered (codes "no-such-clause") id
step_fault (NotUnit place) = numbered (codes "not-unit") place
step_fault NoConflict = codes "no-conflict"
step_fault (RatStep place) = numbered (codes "rat-step") place
step_fault (RatMissing id) = numbered (codes "rat-missing") id
step_fault NoStep = []

-- a want of memory is no refusal of the bytes, and is not printed
abbrev pub cert_fault : List Name → CertError → Text
cert_fault names (BadLine l) = numbered (codes "refused bad-line") l
cert_fault names (LineTooLong l) = numbered (codes "refused line-too-long") l
cert_fault names TooManyLines = codes "refused too-many-lines"
cert_fault names (Digest found wanted) = worded (worded (codes "refused digest") (encode_lower found)) (encode_lower wanted)
cert_fault names NoOrgs = codes "refused no-orgs"
cert_fault names (OrgsDigest found wanted) = worded (worded (codes "refused orgs-digest") (encode_lower found)) (encode_lower wanted)
cert_fault names (UnknownNode l) = numbered (codes "refused unknown-node") l
cert_fault names (NotQuorum l) = numbered (codes "refused not-quorum") l
cert_fault names (NotBlocking l) = numbered (codes "refused not-blocking") l
cert_fault names (NotMinimal l) = numbered (codes "refused not-minimal") l
cert_fault names (NotSmaller l) = numbered (codes "refused not-smaller") l
cert_fault names (Overlap l v) = worded (numbered (codes "refused overlap") l) (name_at names v)
cert_fault names (Formula l) = numbered (codes "refused formula") l
cert_fault names (Step l fault) = worded (numbered (codes "refused step") l) (step_fault fault)
cert_fault names (NotNew l) = numbered (codes "refused not-new") l
cert_fault names (NotRefuted l) = numbered (codes "refused not-refuted") l
cert_fault names (TooLarge vars) = numbered (codes "too-large") vars
cert_fault names (Truncated l) = numbered (codes "refused truncated") l
cert_fault names Trailing = codes "refused trailing"
cert_fault names NoMemory = []

abbrev pub cert_refused : List Name → CertError → Text
cert_refused names fault = line (cert_fault names fault)

-- ---- answers

-- a certificate of the kind that has this word is accepted
abbrev pub accepted_word : Text → Text
accepted_word word = worded (codes "accepted") word

-- a body that is read line by line: how many sets it lists, the size of its set, or its units
abbrev pub accepted_body : Shown → Text
accepted_body (reached.Minimal sought sets) = counted (accepted_word (kind_word (Nodes sought) Whole)) (length sets)
accepted_body (reached.Least None) = line (worded (accepted_word (kind_word (Nodes Smaller) Whole)) (codes "none"))
accepted_body (reached.Least (Some u)) = counted (accepted_word (kind_word (Nodes Smaller) Whole)) (size u)
accepted_body (reached.OrgBlocking groups sets) = counted (accepted_word (kind_word Groups Whole)) (length sets)
accepted_body (reached.Partial shows units) = counted (accepted_word (kind_word shows Part)) units

abbrev pub accepted_kind : Conclusion → Text
accepted_kind (pair p) = line (accepted_word (codes "pair"))
accepted_kind Refutation = line (accepted_word (aim_word aim.Refutation))
accepted_kind (Partial units) = counted (accepted_word (aim_word aim.Partial)) units
accepted_kind (Reached body) = accepted_body body

-- a line for each set
abbrev pub set_lines : List Name → List Table → Text
set_lines names [] = []
set_lines names (set ∷ sets) = line (list (codes "set") names set) ++ set_lines names sets

-- how many sets there are, and a line for each
abbrev pub with_sets : Text → List Name → List Table → Text
with_sets word names sets = counted word (length sets) ++ set_lines names sets

-- a smallest quorum: how many nodes it has, and their names; or that there is none
abbrev pub smallest : List Name → Table → Text
smallest names u = counted (codes "least") (size u) ++ line (list (codes "set") names u)

abbrev pub smallest_if_any : List Name → Option Table → Text
smallest_if_any names None = codes "least none\n"
smallest_if_any names (Some u) = smallest names u

-- a line for each set of a body, by the names of its nodes, or by the texts of its groups
abbrev pub body_lines : List Name → Shown → Text
body_lines names (reached.Minimal sought sets) = set_lines names sets
body_lines names (reached.Least None) = []
body_lines names (reached.Least (Some u)) = line (list (codes "set") names u)
body_lines names (reached.OrgBlocking groups sets) = set_lines (texts_of groups) sets
body_lines names (reached.Partial shows units) = []

abbrev pub answer_lines : List Name → Conclusion → Text
answer_lines names (pair p) = []
answer_lines names Refutation = []
answer_lines names (Partial units) = []
answer_lines names (Reached body) = body_lines names body

-- a word, and after it the name of a node where there is one
abbrev pub word_if_any : Text → List Name → Option ℕ → Text
word_if_any word names None = word
word_if_any word names (Some v) = worded word (name_at names v)

-- the kind, lines 3 and 4 of the certificate, and the sets of a list
abbrev pub accepted : List Name → Accepted → Text
accepted names a = accepted_kind a.answer ++ (line (word_if_any (codes "from") names a.header.from) ++ (line (list (codes "faulty") names a.header.faulty) ++ answer_lines names a.answer))

-- a proof from outside is verified: so is it said, and of which part and without which nodes
abbrev pub verified_lines : List Name → Header → Text
verified_lines names h = codes "verified\n" ++ (line (word_if_any (codes "from") names h.from) ++ line (list (codes "faulty") names h.faulty))

-- a line of its own, and the list of a set's names after a word
abbrev pub with_list : Text → Text → List Name → Table → Text
with_list head word names set = head ++ line (list word names set)

-- a line of its own, and the lines `first` and `second` of two quorums
abbrev pub with_pair : Text → List Name → Pair → Text
with_pair head names p = head ++ (line (list (codes "first") names p.first) ++ line (list (codes "second") names p.second))

-- a word, and after it the word of an option where it is given
abbrev pub worded_if_any : Text → Option Text → Text
worded_if_any text None = text
worded_if_any text (Some word) = worded text word

-- the first comment lines of an exported formula: its version, the digest of the configuration, and the node of whose trust
-- closure the formula speaks
abbrev pub export_head : ℕ → List ℕ → Option Name → Text
export_head version digest from = line (numbered (codes "c formula") version) ++ (line (worded (codes "c config") (encode_lower digest)) ++ line (worded_if_any (codes "c from") from))

-- the comment lines of an exported formula, the faulty nodes the last of them
abbrev pub export_comments : ℕ → List ℕ → Option Name → List Name → Table → Text
export_comments version digest from names faulty = with_list (export_head version digest from) (codes "c faulty") names faulty

-- an exported formula: its comment lines, and its DIMACS text
abbrev pub exported : ℕ → List ℕ → Option Name → List Name → Table → Text → Text
exported version digest from names faulty dimacs = export_comments version digest from names faulty ++ dimacs

-- how large a trial is: its organisations and their nodes, and the variables and clauses of its intersection formula
abbrev pub trial_size : ℕ → ℕ → ℕ → ℕ → Text
trial_size organisations nodes vars clauses = counted (codes "trial") organisations ++ (counted (codes "nodes") nodes ++ (counted (codes "variables") vars ++ counted (codes "clauses") clauses))

-- a formula with this many variables is not written
abbrev pub too_large : ℕ → Text
too_large vars = counted (codes "too-large") vars

abbrev pub closure : List Name → Table → Text
closure names set = with_list [] (codes "closure") names set

abbrev pub greatest : List Name → Table → Text
greatest names quorum = with_list [] (codes "greatest") names quorum

abbrev pub unavailable : List Name → Table → Text
unavailable names unmet = with_list (codes "available no\n") (codes "unmet") names unmet

-- whether the nodes without a set are available, and which of them are unmet where they aren't
abbrev pub available_lines : List Name → Bool → Table → Text
available_lines names true unmet = codes "available yes\n"
available_lines names false unmet = unavailable names unmet

-- what is so after an edit: its number, the greatest quorum, and whether the nodes without a set are available
abbrev pub edit_lines : List Name → ℕ → Table → Bool → Table → Text
edit_lines names i quorum available unmet = counted (codes "edit") i ++ (greatest names quorum ++ available_lines names available unmet)

abbrev pub not_blocking : List Name → Table → Text
not_blocking names quorum = with_list (codes "blocks no\n") (codes "quorum") names quorum

-- how many nodes there are, how many entries of quorum sets, and how many nodes without a quorum set
abbrev pub counts : System → Text
counts f = line (numbered (codes "nodes") (length f.names)) ++ (line (numbered (codes "entries") (entries_in f.sets)) ++ line (numbered (codes "unset") (unset_in f.sets)))

-- each number with a dot before it
abbrev pub dotted : List ℕ → Text
dotted [] = []
dotted (i ∷ is) = (46 ∷ decimal i) ++ dotted is

-- the path of a quorum set: a dot alone for that of the node itself
abbrev pub path_of : List ℕ → Text
path_of [] = codes "."
path_of (i ∷ is) = dotted (i ∷ is)

-- what is found, the node and the path
abbrev pub finding_head : Text → List Name → ℕ → List ℕ → Text
finding_head word names v path = worded (worded word (name_at names v)) (path_of path)

abbrev pub finding_line : List Name → ℕ → Found → Text
finding_line names v (bad_threshold path threshold entries) = line (numbered (numbered (finding_head (codes "threshold") names v path) threshold) entries)
finding_line names v (repeated path w) = line (worded (finding_head (codes "repeated") names v path) (name_at names w))

abbrev pub finding_lines : List Name → ℕ → List Found → Text
finding_lines names v [] = []
finding_lines names v (f ∷ fs) = finding_line names v f ++ finding_lines names v fs

-- what is found in these quorum sets, of which the first is that of node v
abbrev pub found_lines : List Name → ℕ → Fbas → Text
found_lines names v [] = []
found_lines names v (None ∷ sets) = found_lines names (v + 1) sets
found_lines names v (Some q ∷ sets) = finding_lines names v (findings_of q) ++ found_lines names (v + 1) sets

-- the answer to `show`
abbrev pub shown : System → Text
shown f = counts f ++ found_lines f.names 0 f.sets
