-- The lines of a journal, taken, whether it lists sets of nodes or of groups.
use Rattle.std.proofs.Common.{◌≡◌, ℕ, ◌+◌, ◌≤◌, ◌<◌, List, [], ◌∷◌, ◌++◌, length, map, Bool, true, false, not, ◌&&◌, ◌||◌, None, Ok, cond, refl, sym, ◌∙◌, ap, subst, arith, codes, append_assoc}
use Rattle.std.specs.List.{All, AllByRecursion}
use Rattle.std.specs.Fmt.{decimal}
use Rattle.std.specs.Str.{bytes_eq}
use Rattle.std.specs.Str.Parse.{AllDigits}
use Rattle.std.proofs.lemmas.Bool.{ne_eqb}
use Rattle.std.proofs.lemmas.List.{append-nil}
use Rattle.std.proofs.lemmas.List.Elements.{recursion_from_All}
use Rattle.std.proofs.lemmas.Str.Parse.{digit_from_value}
use Rattle.std.proofs.lemmas.Fmt.{decimal_is_IsNumeral}
use Rattle.fbas_model.specs.Nodes.{Table, size}
use Rattle.fbas_model.specs.Names.{Name}
use Rattle.fbas_model.specs.Systems.{System}
use Rattle.fbas_model.specs.Restriction.{kept}
use Rattle.lrat_model.specs.Clauses.{Held}
use Rattle.lrat_model.specs.Literal.{Literal}
use Rattle.lrat_model.specs.Steps.{ProofStep, Addition, Deletion, Database, step_fault, after_step, progress_of}
use Rattle.lrat_model.specs.declared.step.Progress.{Progress}
use Rattle.lrat_model.specs.declared.step.Progress.TheVariants.{Going as going, Refuted}
use Rattle.lrat_text.specs.Texts.{line_of, IsId, IsLiteral, HasNumbers}
use Rattle.lrat_text.specs.Left.{spaced}
use Rattle.lrat_text.proofs.BackLaws.{step_back}
use Rattle.cdcl_core.specs.Trail.{IsVariable}
use Rattle.enumeration_journal.specs.Kinds.{is_sought}
use Rattle.enumeration_journal.specs.Journals.{JournalLine, SetLine, StepLine, Rules, JournalRun, IsTaken, IsNewLine, IsNewStep, after_line, line_progress, line_units, put_if, sets_in, journal_units}
use Rattle.enumeration_journal.specs.Order.{ordered}
use Rattle.enumeration_journal.specs.declared.kinds.ListKind.{ListKind}
use Rattle.enumeration_journal.specs.declared.kinds.ListKind.TheVariants.{Whole, Partial as Part}
use Rattle.enumeration_journal.specs.declared.kinds.Listed.{Listed}
use Rattle.enumeration_journal.specs.declared.kinds.Listed.TheVariants as listed
use Rattle.enumeration_journal.proofs.Runs.{sets_append}
use Rattle.least_journal.specs.Least.{last_of}
use Rattle.clause_encoder.specs.declared.limits.TheConstants.{MOST_VARS}
use Rattle.node_json.specs.Groups.{texts_of}
use Rattle.blocking_lists.specs.Lines.{HasLineNumbers, HasFewWords, IsShortStep}
use Rattle.cert_lines.specs.Words.{Word, words_of}
use Rattle.certificate_file.specs.Acceptance.{take_line}
use Rattle.reach_kinds.specs.Bodies.{listed_by, literal_in, asks_steps, adds_covered, counted, in_shown_order, whole_of, asks_smaller, is_below, rules_of, listing_on, list_checking, put_last, with_sought}
use Rattle.reach_kinds.specs.GroupBodies.{rules_over, group_listing_on}
use Rattle.certificate_file.specs.declared.given.Given.{Given}
use Rattle.certificate_file.specs.declared.places.Subject.{Subject}
use Rattle.certificate_file.specs.declared.places.Place.TheVariants.{AtReach}
use Rattle.certificate_file.specs.declared.places.Conclusion.TheVariants.{Reached}
use Rattle.certificate_file.specs.declared.places.State.{State}
use Rattle.certificate_file.specs.declared.places.State.TheVariants.{Going, Done}
use Rattle.reach_kinds.specs.declared.kinds.ReachKind.TheVariants.{Nodes, Groups}
use Rattle.reach_kinds.specs.declared.places.ListPart.{ListPart}
use Rattle.reach_kinds.specs.declared.places.GroupPart.{GroupPart}
use Rattle.reach_kinds.specs.declared.places.Reached.{Reached as Shown}
use Rattle.reach_kinds.specs.declared.places.Reached.TheVariants.{OrgBlocking, Partial}
use Rattle.reach_kinds.specs.declared.places.ReachPlace.{ReachPlace}
use Rattle.reach_kinds.specs.declared.places.ReachPlace.TheVariants.{AtList, AtGroups, AtEnd as Ended}
use Rattle.cert_writer.specs.Texts.{Text, journal_line, group_journal_line}
use Rattle.cert_writer.specs.Promises.{ListEndsAs}
use Rattle.cert_writer.proofs.Joined.{Takes, takes-append}
use Rattle.cert_writer.proofs.Words.{AreWords, words_of-worded}
use Rattle.cert_writer.proofs.Raised.{spread}
use Rattle.cert_writer.proofs.Runs.{IsRead, not_end, new_uncovered, going_long}
use Rattle.cert_writer.proofs.LogLaws.{front_all}
use Rattle.cert_writer.proofs.SetLines.{StandsAt, set_line_taken}
use Rattle.cert_writer.proofs.GroupLines.{IsOver, group_set_taken}
use Rattle.cert_writer.proofs.StepLines.{decimal_word, lemma_words, words_lemma, line_words, deletion_words, words_deletion, deletion_line_words}

-- ---- what a journal is over

-- the sets of nodes of a kind, or the blocking sets of groups, of a part
pub data Over : Type 0 where
  OfNodes : (sought : Listed) (part : ListPart) → Over
  OfGroups : (part : GroupPart) → Over

abbrev pub sought_over : Over → Listed
sought_over (OfNodes sought part) = sought
sought_over (OfGroups part) = listed.Blocking

abbrev pub rules_for : Over → Rules
rules_for (OfNodes sought part) = rules_of sought part
rules_for (OfGroups part) = rules_over part

-- the text of a line, where these are the names of the part
abbrev pub text_over : Over → List Name → JournalLine → Text
text_over (OfNodes sought part) names line = journal_line names line
text_over (OfGroups part) names line = group_journal_line names (texts_of part.groups) line

-- a set as it is listed: nodes by their numbers in the whole system, groups as they are
abbrev pub raised_over : Over → Table → Table → Table
raised_over (OfNodes sought part) nodes u = spread nodes u
raised_over (OfGroups part) nodes u = u

-- the list where so much is held, with these sets and units
abbrev pub list_over : Over → ListKind → Database → List Table → ℕ → ReachPlace
list_over (OfNodes sought part) kind held sets units = AtList (listing_on sought kind part (list_checking (rules_of sought part).vars held) sets units)
list_over (OfGroups part) kind held sets units = AtGroups (group_listing_on kind part (list_checking (rules_over part).vars held) sets units)

-- what a whole list with these sets shows, and a part of one with these units
abbrev pub whole_over : Over → List Table → Shown
whole_over (OfNodes sought part) sets = whole_of sought (in_shown_order sought sets)
whole_over (OfGroups part) sets = OrgBlocking part.groups (ordered sets)

abbrev pub part_over : Over → ℕ → Shown
part_over (OfNodes sought part) units = Partial (Nodes sought) units
part_over (OfGroups part) units = Partial Groups units

-- what a journal shows
abbrev pub shown_over : Over → Table → ListKind → List JournalLine → Shown
shown_over over nodes Whole journal = whole_over over (map (raised_over over nodes) (sets_in (sought_over over) journal))
shown_over over nodes Part journal = part_over over (journal_units (rules_for over) journal)

-- what is so of the part
abbrev pub Stands : System → Table → Over → Type 0
Stands f nodes (OfNodes sought part) = StandsAt f nodes part
Stands f nodes (OfGroups part) = IsOver f nodes part

-- the numbers and words of a line are such as a line may have
abbrev pub IsFineLine : Over → JournalLine → Type 0
IsFineLine over line = HasLineNumbers line × HasFewWords (rules_for over).vars line

-- the place of the list
abbrev pub at_list : Subject → Over → ListKind → Database → List Table → ℕ → State
at_list s over kind held sets units = Going (AtReach s (list_over over kind held sets units))

-- ---- what a lemma says in text

literals_by : (vars : ℕ) (lits : List Literal) → vars < 2147483648 → AllByRecursion (IsVariable vars) lits → AllByRecursion IsLiteral lits
literals_by vars [] small all = tt
literals_by vars (l ∷ lits) small all = ((all.0.0, omega (arith, all.0.1)), literals_by vars lits small all.1)

pub short_literals : (vars : ℕ) (lits : List Literal) → vars < 2147483648 → All (IsVariable vars) lits → AllByRecursion IsLiteral lits
short_literals vars lits small all = literals_by vars lits small (recursion_from_All (IsVariable vars) lits all)

no_letter : (word : Word) (c : ℕ) → AllDigits 10 word → 57 < c → bytes_eq word (c ∷ []) ≡ false
no_letter [] c all above = refl
no_letter (x ∷ word) c all above = let digit = digit_from_value x all.0 in rw (ne_eqb x c (λ e. omega (arith, digit, e))) refl

-- the first word of a step is its id, which lists no set
by_no_letter : (sought : Listed) (word : Word) (rest : List Word) → AllDigits 10 word → listed_by sought (word ∷ rest) ≡ None
by_no_letter listed.Quorum word rest digits = rw (no_letter word 113 digits (omega arith), no_letter word 98 digits (omega arith)) refl
by_no_letter listed.Blocking word rest digits = rw (no_letter word 113 digits (omega arith), no_letter word 98 digits (omega arith)) refl
by_no_letter listed.Smaller word rest digits = rw (no_letter word 115 digits (omega arith), no_letter word 98 digits (omega arith)) refl

lists_nothing : (sought : Listed) (id : ℕ) (rest : List Word) (text : Text) → id < 9223372036854775808 → AreWords rest → text ≡ decimal id ++ spaced rest → listed_by sought (words_of text) ≡ None
lists_nothing sought id rest text low are is =
    let words : words_of text ≡ decimal id ∷ rest = ap words_of is ∙ words_of-worded (decimal id) rest (decimal_word id (omega (arith, low))) are in
    let digits : AllDigits 10 (decimal id) = (decimal_is_IsNumeral id (omega (arith, low))).0.1 in
    ap (listed_by sought) words ∙ by_no_letter sought (decimal id) rest digits

-- what is so of the text of a step: it reads back, and lists no set
record IsStepText (sought : Listed) (step : ProofStep) : Type 0 where
  read : IsRead step
  none : listed_by sought (words_of (line_of step)) ≡ None

step_text : (sought : Listed) (vars : ℕ) (step : ProofStep) → vars < 2147483648 → HasNumbers step → IsShortStep vars step → IsStepText sought step
step_text sought vars (Addition id lits hints) small has short =
    let literals = short_literals vars lits small short.0 in record {
      read = step_back (Addition id lits hints) has literals;
      none = lists_nothing sought id (lemma_words lits hints) (line_of (Addition id lits hints)) has.0.1 (words_lemma lits hints has.1 literals) (line_words id lits hints);
    }
step_text sought vars (Deletion id ids) small has short = record {
  read = step_back (Deletion id ids) has tt;
  none = lists_nothing sought id (deletion_words ids) (line_of (Deletion id ids)) has.0.1 (words_deletion ids has.1) (deletion_line_words id ids);
}

-- ---- a step

literal_there : (kind : ListKind) (l : ℕ) (step : ProofStep) → progress_of step ≡ going → literal_in kind l step ≡ Ok step
literal_there Whole l step on = refl
literal_there Part l step on = rw on refl

step_is_new : (kind : ListKind) (held : Held) (step : ProofStep) → IsNewStep kind held step → (asks_steps kind && adds_covered held step) ≡ false
step_is_new Whole held step new = refl
step_is_new Part held (Addition id lits hints) new = new_uncovered held id lits new
step_is_new Part held (Deletion id ids) new = refl

-- a lemma takes a unit
units_on : (r : Rules) (n : ℕ) (step : ProofStep) → progress_of step ≡ going → n + line_units r (StepLine step) ≡ counted n step
units_on r n (Addition id lits hints) on = ap (λ (b : Bool). n + cond b 0 1) (going_long lits on).1
units_on r n (Deletion id ids) on = omega arith

-- where a step leads: on, or to `end`
abbrev led : Subject → Over → ListKind → Database → List Table → ℕ → Progress → State
led s over kind held sets units going = at_list s over kind held sets units
led s over kind held sets units Refuted = Going (AtReach s (Ended (whole_over over sets)))

step_taken : (f : System) (given : Given) (s : Subject) (over : Over) (kind : ListKind) (l : ℕ) (old : Database) (sets : List Table) (units : ℕ) (step : ProofStep) (to : Progress) → IsStepText (sought_over over) step → literal_in kind l step ≡ Ok step
    → step_fault (rules_for over).vars old step ≡ None → (asks_steps kind && adds_covered old.held step) ≡ false → progress_of step ≡ to
    → take_line f given (AtReach s (list_over over kind old sets units)) l (text_over over (kept s.nodes f.names) (StepLine step)) ≡ Ok (led s over kind (after_step old step) sets (counted units step) to)
unfolding take_line
step_taken f given s (OfNodes sought part) kind l old sets units step going text literal fault new leads = rw (not_end step text.read, text.none, text.read, literal, fault, new, leads) refl
step_taken f given s (OfNodes sought part) kind l old sets units step Refuted text literal fault new leads = rw (not_end step text.read, text.none, text.read, literal, fault, new, leads) refl
step_taken f given s (OfGroups part) kind l old sets units step going text literal fault new leads = rw (not_end step text.read, text.none, text.read, literal, fault, new, leads) refl
step_taken f given s (OfGroups part) kind l old sets units step Refuted text literal fault new leads = rw (not_end step text.read, text.none, text.read, literal, fault, new, leads) refl

-- ---- a set

-- where smaller quorums are asked for, the set is smaller than the last of those so far
abbrev pub FallsOn : Over → Listed → Table → List Table → Type 0
FallsOn over which u sets = (not (asks_smaller (sought_over over) which) || is_below (size u) (last_of None sets)) ≡ true

-- and so is each set of the lines
abbrev pub FallOn : Over → Table → List Table → List JournalLine → Type 0
FallOn over nodes sets [] = Unit {0}
FallOn over nodes sets (SetLine which id u ∷ lines) = FallsOn over which u sets × FallOn over nodes (with_sought (sought_over over) sets which (raised_over over nodes u)) lines
FallOn over nodes sets (StepLine step ∷ lines) = FallOn over nodes sets lines

set_taken : (f : System) (given : Given) (s : Subject) (over : Over) (kind : ListKind) → Stands f s.nodes over → (l : ℕ) (old : Database) (sets : List Table) (units : ℕ) (which : Listed) (id : ℕ) (u : Table) → IsTaken (rules_for over) old (SetLine which id u) → IsNewLine (rules_for over) kind old.held (SetLine which id u) → FallsOn over which u sets → IsId id
    → take_line f given (AtReach s (list_over over kind old sets units)) l (text_over over (kept s.nodes f.names) (SetLine which id u))
    ≡ Ok (at_list s over kind (after_line (rules_for over) old (SetLine which id u)) (with_sought (sought_over over) sets which (raised_over over s.nodes u)) (units + (rules_for over).cost which))
set_taken f given s (OfNodes sought part) kind stands l old sets units which id u taken new falls is =
    set_line_taken f s (listing_on sought kind part (list_checking (rules_of sought part).vars old) sets units) l which id u stands taken.0 taken.1 falls new given is
set_taken f given s (OfGroups part) kind stands l old sets units which id u taken new falls is =
    group_set_taken f s (group_listing_on kind part (list_checking (rules_over part).vars old) sets units) l stands given which id u taken.0 taken.1 new is

-- ---- a journal

-- the sets so far with one more, raised, and those of the lines after it
set_behind : (b : Bool) (raise : Table → Table) (sets : List Table) (u : Table) (more : List Table) → (sets ++ map raise (put_if b u more)) ≡ put_last b sets (raise u) ++ map raise more
set_behind true raise sets u more = sym (append_assoc sets (raise u ∷ []) (map raise more))
set_behind false raise sets u more = refl

module _ (f : System) (given : Given) (s : Subject) (over : Over) (kind : ListKind) (stands : Stands f s.nodes over) (small : (rules_for over).vars < 2147483648) where
  abbrev text : JournalLine → Text
  text line = text_over over (kept s.nodes f.names) line

  step_line : (l : ℕ) (old : Database) (sets : List Table) (units : ℕ) (step : ProofStep) (to : Progress) → IsFineLine over (StepLine step) → IsTaken (rules_for over) old (StepLine step) → IsNewStep kind old.held step → literal_in kind l step ≡ Ok step → progress_of step ≡ to
      → take_line f given (AtReach s (list_over over kind old sets units)) l (text (StepLine step)) ≡ Ok (led s over kind (after_step old step) sets (counted units step) to)
  step_line l old sets units step to fine taken new literal leads =
      step_taken f given s over kind l old sets units step to (step_text (sought_over over) (rules_for over).vars step small fine.0 fine.1) literal taken (step_is_new kind old.held step new) leads

  -- the lines before the empty lemma
  takes_journal : (l : ℕ) (old new : Database) (sets all : List Table) (units total : ℕ) (lines : List JournalLine) → AllByRecursion (IsFineLine over) lines → AllByRecursion (λ line. line_progress line ≡ going) lines → JournalRun (rules_for over) kind old lines new → FallOn over s.nodes sets lines
      → all ≡ sets ++ map (raised_over over s.nodes) (sets_in (sought_over over) lines) → total ≡ units + journal_units (rules_for over) lines
      → Takes f given l (at_list s over kind old sets units) (map text lines) (at_list s over kind new all total)
  takes_journal l old new sets all units total [] fine on run falls all_is total_is =
      let one : units ≡ total = omega (arith, total_is) in
      let two : sets ≡ all = sym (all_is ∙ append-nil sets) in
      ap (λ (n : ℕ). at_list s over kind old sets n) one ∙ ap (λ (xs : List Table). at_list s over kind old xs total) two ∙ ap (λ (x : Database). at_list s over kind x all total) (sym run)
  takes_journal l old new sets all units total (SetLine which id u ∷ lines) fine on run falls all_is total_is =
      let next : Database = after_line (rules_for over) old (SetLine which id u) in
      let now : List Table = with_sought (sought_over over) sets which (raised_over over s.nodes u) in
      let all_behind = all_is ∙ set_behind (is_sought (sought_over over) which) (raised_over over s.nodes) sets u (sets_in (sought_over over) lines) in (
        at_list s over kind next now (units + (rules_for over).cost which),
        set_taken f given s over kind stands l old sets units which id u run.0 run.1 falls.0 fine.0.0,
        takes_journal (l + 1) next new now all (units + (rules_for over).cost which) total lines fine.1 on.1 run.2 falls.1 all_behind (omega (arith, total_is)),
      )
  takes_journal l old new sets all units total (StepLine step ∷ lines) fine on run falls all_is total_is =
      let next : Database = after_step old step in
      let one = units_on (rules_for over) units step on.0 in (
        at_list s over kind next sets (counted units step),
        step_line l old sets units step going fine.0 run.0 run.1 (literal_there kind l step on.0) on.0,
        takes_journal (l + 1) next new sets all (counted units step) total lines fine.1 on.1 run.2 falls all_is (omega (arith, total_is, one)),
      )

-- ---- the last lines

run_split : (r : Rules) (kind : ListKind) (old new : Database) (lines : List JournalLine) (last : JournalLine) → JournalRun r kind old (lines ++ last ∷ []) new → (middle : Database) × JournalRun r kind old lines middle × JournalRun r kind middle (last ∷ []) new
run_split r kind old new [] last run = (old, refl, run)
run_split r kind old new (line ∷ lines) last run = let rest = run_split r kind (after_line r old line) new lines last run.2 in (rest.0, (run.0, run.1, rest.1), rest.2)

split_lines : (text : JournalLine → Text) (xs : List JournalLine) (y : JournalLine) (zs : List Text) → map text (xs ++ y ∷ []) ++ zs ≡ map text xs ++ text y ∷ zs
split_lines text [] y zs = refl
split_lines text (x ∷ xs) y zs = ap (λ (ls : List Text). text x ∷ ls) (split_lines text xs y zs)

no_set : (sought : Listed) (last : JournalLine) → line_progress last ≡ Refuted → sets_in sought (last ∷ []) ≡ []
no_set sought (SetLine which id u) ends = absurd cc
no_set sought (StepLine step) ends = refl

fall_front : (over : Over) (nodes : Table) (sets : List Table) (xs ys : List JournalLine) → FallOn over nodes sets (xs ++ ys) → FallOn over nodes sets xs
fall_front over nodes sets [] ys falls = tt
fall_front over nodes sets (SetLine which id u ∷ xs) ys falls = (falls.0, fall_front over nodes (with_sought (sought_over over) sets which (raised_over over nodes u)) xs ys falls.1)
fall_front over nodes sets (StepLine step ∷ xs) ys falls = fall_front over nodes sets xs ys falls

-- the last line of a part
takes_part_end : (f : System) (given : Given) (s : Subject) (over : Over) (l : ℕ) (held : Database) (sets : List Table) (units : ℕ) → Takes f given l (at_list s over Part held sets units) (codes "end" ∷ []) (Done (record { header = s.header; answer = Reached (part_over over units) }))
unfolding take_line
takes_part_end f given s (OfNodes sought part) l held sets units = (Done (record { header = s.header; answer = Reached (Partial (Nodes sought) units) }), refl, refl)
takes_part_end f given s (OfGroups part) l held sets units = (Done (record { header = s.header; answer = Reached (Partial Groups units) }), refl, refl)

module _ (f : System) (given : Given) (s : Subject) (over : Over) (stands : Stands f s.nodes over) (few : (rules_for over).vars ≤ MOST_VARS) where
  abbrev line_text : JournalLine → Text
  line_text line = text_over over (kept s.nodes f.names) line

  abbrev sought : Listed
  sought = sought_over over

  abbrev r : Rules
  r = rules_for over

  abbrev shows : Shown → State
  shows answer = Done (record { header = s.header; answer = Reached answer })

  -- of a whole list: the empty lemma, and `end`
  takes_refuted : (l : ℕ) (old new : Database) (sets : List Table) (units : ℕ) (last : JournalLine) → IsFineLine over last → line_progress last ≡ Refuted → JournalRun r Whole old (last ∷ []) new
      → Takes f given l (at_list s over Whole old sets units) (line_text last ∷ codes "end" ∷ []) (shows (whole_over over sets))
  unfolding take_line
  takes_refuted l old new sets units (SetLine which id u) fine ends run = absurd cc
  takes_refuted l old new sets units (StepLine step) fine ends run = (
    Going (AtReach s (Ended (whole_over over sets))),
    step_line f given s over Whole stands (omega (arith, few)) l old sets units step Refuted fine run.0 run.1 refl ends,
    (shows (whole_over over sets), refl, refl),
  )

  pub takes_body : (kind : ListKind) (l : ℕ) (new : Database) (journal : List JournalLine) → JournalRun r kind r.start journal new → AllByRecursion (IsFineLine over) journal → FallOn over s.nodes [] journal → ListEndsAs kind journal
      → Takes f given l (at_list s over kind r.start [] 0) (map line_text journal ++ codes "end" ∷ []) (shows (shown_over over s.nodes kind journal))
  takes_body Part l new journal run fine falls ends =
      let on = recursion_from_All (λ line. line_progress line ≡ going) journal ends in
      let sets = map (raised_over over s.nodes) (sets_in sought journal) in
      let lines = map line_text journal in
      let taken = takes_journal f given s over Part stands (omega (arith, few)) l r.start new [] sets 0 (journal_units r journal) journal fine on run falls refl (omega arith) in
      takes-append f given l (l + length lines) (at_list s over Part r.start [] 0) (at_list s over Part new sets (journal_units r journal)) (shows (part_over over (journal_units r journal))) lines (codes "end" ∷ []) refl taken
      (takes_part_end f given s over (l + length lines) new sets (journal_units r journal))
  takes_body Whole l new journal run fine falls ends =
      let before = ends.before in
      let last = ends.last in
      let each = front_all (IsFineLine over) before last (subst (λ (ls : List JournalLine). AllByRecursion (IsFineLine over) ls) ends.is fine) in
      let split = run_split r Whole r.start new before last (subst (λ (ls : List JournalLine). JournalRun r Whole r.start ls new) ends.is run) in
      let on = recursion_from_All (λ line. line_progress line ≡ going) before ends.only in
      let sets = map (raised_over over s.nodes) (sets_in sought before) in
      let lines = map line_text before in
      let front_falls = fall_front over s.nodes [] before (last ∷ []) (subst (λ (ls : List JournalLine). FallOn over s.nodes [] ls) ends.is falls) in
      let taken = takes_journal f given s over Whole stands (omega (arith, few)) l r.start split.0 [] sets 0 (journal_units r before) before each.0 on split.1 front_falls refl (omega arith) in
      let end = takes_refuted (l + length lines) split.0 new sets (journal_units r before) last each.1 ends.ends split.2 in
      let whole = takes-append f given l (l + length lines) (at_list s over Whole r.start [] 0) (at_list s over Whole split.0 sets (journal_units r before)) (shows (whole_over over sets)) lines (line_text last ∷ codes "end" ∷ []) refl taken end in
      let texts : lines ++ line_text last ∷ codes "end" ∷ [] ≡ map line_text journal ++ codes "end" ∷ [] = sym (split_lines line_text before last (codes "end" ∷ [])) ∙ ap (λ (ls : List JournalLine). map line_text ls ++ codes "end" ∷ []) (sym ends.is) in
      let those : sets_in sought before ≡ sets_in sought journal = sym (append-nil (sets_in sought before)) ∙ ap (λ (xs : List Table). sets_in sought before ++ xs) (sym (no_set sought last ends.ends)) ∙ sym (sets_append sought before (last ∷ [])) ∙ ap (sets_in sought) (sym ends.is) in
      subst (λ (xs : List Table). Takes f given l (at_list s over Whole r.start [] 0) (map line_text journal ++ codes "end" ∷ []) (shows (whole_over over (map (raised_over over s.nodes) xs)))) those
      (subst (λ (ls : List Text). Takes f given l (at_list s over Whole r.start [] 0) ls (shows (whole_over over sets))) texts whole)
