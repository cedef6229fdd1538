-- What is known of a list from line to line.
use Rattle.std.proofs.Common.{◌≡◌, ℕ, ◌<◌, ◌≤◌, ◌+◌, ◌*◌, ◌==◌, Bool, List, [], ◌∷◌, ◌++◌, map, length, true, false, not, ◌&&◌, ◌||◌, nat_le, Option, Some, None, ok_or, Result, Ok, IfOk, refl, sym, ap, ◌∙◌, subst, arith, inl, inr, codes}
use Rattle.std.specs.Prelude.{All}
use Rattle.std.specs.Str.{bytes_eq}
use Rattle.std.proofs.lemmas.Bool.{cases_Bool, cases_lt, both_ways, leb-true, leb-false, ne_eqb, not-true}
use Rattle.std.proofs.lemmas.List.{append-nil, map-append}
use Rattle.std.proofs.lemmas.List.Elements.{All-nil, All-cons, All-append}
use Rattle.fbas_model.specs.Nodes.{Table, members, ◌⊆◌, IsInhabited, size}
use Rattle.fbas_model.specs.Names.{Name, marks}
use Rattle.fbas_model.proofs.Marks.{length-marks}
use Rattle.witness_pair.proofs.PairLaws.{none_of_both}
use Rattle.fbas_model.specs.Fbas.{Fbas}
use Rattle.fbas_model.specs.Systems.{System}
use Rattle.fbas_model.specs.Restriction.{kept}
use Rattle.lrat_model.specs.Literal.{Literal, IsSubset}
use Rattle.lrat_model.specs.Clauses.{clause_at, numbered}
use Rattle.lrat_model.specs.Steps.{ProofStep, Addition, Deletion, Database, step_fault, after_step, progress_of}
use Rattle.lrat_model.specs.Rules.{step_fault_by}
use Rattle.lrat_model.proofs.RatRuns.{rup_is_the_first_rule}
use Rattle.lrat_model.specs.declared.step.Rule.{Rule}
use Rattle.lrat_model.specs.declared.step.Rule.TheVariants.{Rup}
use Rattle.lrat_model.specs.declared.step.Progress.{Progress}
use Rattle.lrat_model.specs.declared.step.Progress.TheVariants.{Going as going, Refuted}
use Rattle.lrat_checker.specs.Checking.{Checking}
use Rattle.lrat_text.specs.Lines.{step_in}
use Rattle.enumeration_journal.specs.Kinds.{is_sought}
use Rattle.enumeration_journal.specs.Journals.{JournalLine, SetLine, StepLine, Rules, IsNewIf, JournalRun, IsNewLine, IsOpen, line_progress, put_if, sets_in}
use Rattle.enumeration_journal.specs.Tests.{is_within, is_kind, is_minimal}
use Rattle.enumeration_journal.specs.declared.kinds.ListKind.{ListKind}
use Rattle.enumeration_journal.specs.declared.kinds.ListKind.TheVariants.{Whole, Partial as Part}
use Rattle.enumeration_journal.specs.declared.kinds.Listed.{Listed}
use Rattle.enumeration_journal.specs.declared.kinds.Listed.TheVariants as listed
use Rattle.enumeration_journal.proofs.Greatest.{IsGreatest}
use Rattle.enumeration_journal.proofs.Duality.{quorum_within, right_within as listed_within}
use Rattle.enumeration_journal.proofs.Ids.{AreBelow, below_run}
use Rattle.enumeration_journal.proofs.Runs.{run_append, open_append, sets_append}
use Rattle.enumeration_journal.proofs.TestLaws.{is_kind_to, minimal_to, within_to}
use Rattle.cert_lines.specs.Limits.{unless}
use Rattle.cert_lines.specs.Words.{words_of}
use Rattle.cert_lines.specs.Saying.{counter_in, or_bad_line}
use Rattle.cert_lines.specs.declared.faults.CertError.{CertError}
use Rattle.cert_lines.specs.declared.faults.CertError.TheVariants.{BadLine, UnknownNode, NotMinimal, NotSmaller, NotNew, TooLarge, Formula}
use Rattle.clause_encoder.specs.NameCounter.{counter_vars, counter_of}
use Rattle.clause_encoder.specs.declared.limits.TheConstants.{MOST_VARS}
use Rattle.least_journal.specs.Least.{FallFrom, last_of}
use Rattle.reach_kinds.specs.Bodies.{and_then, all_among, nodes_of, others, within, adds_covered, is_covered, rules_of, list_part, list_checking, listing_on, counted_listing, counter_sized, counter_line, body_begins, asks_inside, is_listed_for, asks_minimal, asks_smaller, is_below, not_of, asks_steps, listed_by, Numbered, numbered_in, right_set, is_old, new_set, put_last, with_sought, with_listed, list_set, set_line, literal_in, is_old_step, with_step, after_list_step, list_step, list_end, list_text, list_line}
use Rattle.reach_kinds.specs.Shown.{IsReached}
use Rattle.reach_kinds.specs.declared.kinds.ReachKind.TheVariants.{Nodes}
use Rattle.reach_kinds.specs.declared.places.Reached.{Reached}
use Rattle.reach_kinds.specs.declared.places.Reached.TheVariants.{Partial}
use Rattle.reach_kinds.specs.Known.{IsPartNodes, IsPartSet, FallsIf, IsSmallIf, IsList, IsReachPlace, IsReachState}
use Rattle.reach_kinds.specs.declared.places.Listing.{Listing}
use Rattle.reach_kinds.specs.declared.places.ListPart.{ListPart}
use Rattle.reach_kinds.specs.declared.places.ReachPlace.TheVariants.{AtCounter, AtList}
use Rattle.reach_kinds.specs.declared.places.ReachState.{ReachState}
use Rattle.reach_kinds.specs.declared.places.ReachState.TheVariants.{Going, Done}
use Rattle.reach_kinds.proofs.CoverLaws.{covered-from}
use Rattle.reach_kinds.proofs.ListShown.{part_faulty_size, cut_size, part_greatest, list_shown}
use Rattle.reach_kinds.proofs.Falling.{falls_more, below_in_part}
use Rattle.reach_kinds.proofs.Inside.{inside}
use Rattle.reach_kinds.proofs.Refused.{taken_so}
use Rattle.reach_kinds.proofs.Results.{got, passed, under_id, within_part}

-- before the first line
list_starts : (f : System) (sought : Listed) (kind : ListKind) (nodes gone : Table) → IsPartNodes f nodes gone → IsSmallIf sought (size (list_part f nodes gone).greatest) → FallsIf sought []
    → IsList f nodes gone (listing_on sought kind (list_part f nodes gone) (list_checking (rules_of sought (list_part f nodes gone)).vars (rules_of sought (list_part f nodes gone)).start) [] 0)
list_starts f sought kind nodes gone is small falls = record {
  subject = is;
  part = refl;
  rule = refl;
  vars = refl;
  small = small;
  sets = All-nil (IsPartSet f nodes);
  journal = [];
  opens = All-nil (λ line. line_progress line ≡ going);
  run = refl;
  listed = refl;
  falls = falls;
}

pub body_starts : (f : System) (sought : Listed) (kind : ListKind) (nodes gone : Table) → IsPartNodes f nodes gone → IsReachPlace f nodes gone (body_begins f sought kind nodes gone)
body_starts f listed.Quorum kind nodes gone is = list_starts f listed.Quorum kind nodes gone is tt tt
body_starts f listed.Blocking kind nodes gone is = list_starts f listed.Blocking kind nodes gone is tt tt
body_starts f listed.Smaller kind nodes gone is = (is, refl)

-- after the counter
pub counter_gave : (kind : ListKind) (p : ListPart) (l : ℕ) (text : List ℕ) (state : ReachState) → counter_line kind p l text ≡ Ok state → (counter_vars (size p.greatest) ≤ MOST_VARS) × (Going (AtList (counted_listing kind p)) ≡ state)
counter_gave kind p l text state e =
    let vars : ℕ = counter_vars (size p.greatest) in
    let next : Result ReachState CertError = Ok (Going (AtList (counted_listing kind p))) in
    let g = got (ok_or (counter_in text) (BadLine l)) (counter_sized l kind p) state e in
    let same : Bool = (g.0.vars == vars) && (g.0.clauses == size p.greatest * size p.greatest) in
    let one = passed (TooLarge vars) (nat_le vars MOST_VARS) (unless (Formula l) same next) state g.2 in
    let two = passed (Formula l) same next state one.1 in
    (leb-true vars MOST_VARS one.0, let q = two.1 in cc)

counter_known : (f : System) (nodes gone : Table) (kind : ListKind) (l : ℕ) (text : List ℕ) (state : ReachState) → IsPartNodes f nodes gone → counter_line kind (list_part f nodes gone) l text ≡ Ok state → IsReachState f nodes gone state
counter_known f nodes gone kind l text state is e =
    let g = counter_gave kind (list_part f nodes gone) l text state e in
    subst (IsReachState f nodes gone) g.1 (list_starts f listed.Smaller kind nodes gone is g.0 tt)

-- ---- new clauses

new_where_uncovered : (d : Database) (id : ℕ) (clause : List Literal) → AreBelow d → d.last < id → is_covered d.held id clause ≡ false → (k : ℕ) (other : List Literal) → clause_at d.held k ≡ Some other → IsSubset other clause → ⊥
new_where_uncovered d id clause below above off k other at subset = elim (cases_lt k id) [
  | inl low ↦ both_ways (is_covered d.held id clause) off (covered-from d.held id clause (k, other, low, at, subset))
  | inr high ↦ (let none = below k (omega arith) in absurd cc)
]

pub new_clause : (asked : Bool) (d : Database) (id : ℕ) (clause : List Literal) → AreBelow d → d.last < id → (asked && is_covered d.held id clause) ≡ false → IsNewIf asked d.held clause
new_clause true d id clause below above off = new_where_uncovered d id clause below above off
new_clause false d id clause below above off = tt

pub new_step : (r : Rules) (kind : ListKind) (d : Database) (step : ProofStep) → AreBelow d → step_fault r.vars d step ≡ None → (asks_steps kind && adds_covered d.held step) ≡ false → IsNewLine r kind d.held (StepLine step)
new_step r Whole d step below none off = tt
new_step r Part d (Addition id lits hints) below none off = elim (cases_Bool (nat_le id d.last)) [
  | inl low ↦ let refused = rw low at none in absurd cc
  | inr above ↦ new_where_uncovered d id lits below (leb-false id d.last above) off
]
new_step r Part d (Deletion id ids) below none off = tt

none_above : (first k : ℕ) (clauses : List (List Literal)) → first + length clauses ≤ k → clause_at (numbered first clauses) k ≡ None
none_above first k [] above = refl
none_above first k (clause ∷ clauses) above =
    let other : (first == k) ≡ false = ne_eqb first k (λ e. absurd (omega (arith, e))) in
    rw other (none_above (first + 1) k clauses (omega arith))

no_start : (sought : Listed) (p : ListPart) → AreBelow (rules_of sought p).start
no_start listed.Quorum p k h = refl
no_start listed.Blocking p k h = refl
no_start listed.Smaller p k h = none_above 1 k (counter_of (size p.greatest)) (omega arith)

-- ---- a line more

-- where nothing to spare is asked, a set of its kind is asked too
pub kind_where_minimal : (sought which : Listed) (f : Fbas) (b u : Table) → asks_minimal sought which ≡ true → is_listed_for sought which f b u ≡ true → is_kind which f b u ≡ true
kind_where_minimal listed.Quorum which f b u asked is = is
kind_where_minimal listed.Blocking which f b u asked is = is
kind_where_minimal listed.Smaller which f b u asked is = absurd cc

-- what passes the tests may be listed
made : (sought which : Listed) (p : ListPart) (u : Table) → IsGreatest p.system.sets (members p.faulty) p.greatest → length p.faulty ≡ length p.system.sets → length u ≡ length p.system.sets → (not (asks_inside sought which) || is_within u p.greatest) ≡ true
    → is_listed_for sought which p.system.sets p.faulty u ≡ true → (not (asks_minimal sought which) || is_minimal which p.system.sets p.faulty u) ≡ true → (rules_of sought p).IsRight which u
made listed.Quorum listed.Quorum p u greatest same places inside kind least =
    (places, record { quorum = is_kind_to listed.Quorum p.system.sets p.faulty u same places kind; least = minimal_to listed.Quorum p.system.sets p.faulty u same least })
made listed.Quorum listed.Blocking p u greatest same places inside kind least = (places, (is_kind_to listed.Blocking p.system.sets p.faulty u same places kind, within_to u p.greatest inside))
made listed.Quorum listed.Smaller p u greatest same places inside kind least = absurd cc
made listed.Blocking listed.Quorum p u greatest same places inside kind least =
    let is = is_kind_to listed.Quorum p.system.sets p.faulty u same places kind in
    (places, (is, quorum_within p.system.sets (members p.faulty) p.greatest (members u) greatest is))
made listed.Blocking listed.Blocking p u greatest same places inside kind least =
    (places, record { blocks = is_kind_to listed.Blocking p.system.sets p.faulty u same places kind; least = minimal_to listed.Blocking p.system.sets p.faulty u same least })
made listed.Blocking listed.Smaller p u greatest same places inside kind least = absurd cc
made listed.Smaller listed.Quorum p u greatest same places inside kind least = absurd cc
made listed.Smaller listed.Blocking p u greatest same places inside kind least = (places, is_kind_to listed.Blocking p.system.sets p.faulty u same places kind, within_to u p.greatest inside)
made listed.Smaller listed.Smaller p u greatest same places inside kind least = (places, is_kind_to listed.Quorum p.system.sets p.faulty u same places kind)

-- and lies in the greatest quorum
listed_inside : (sought which : Listed) (p : ListPart) (u : Table) → IsGreatest p.system.sets (members p.faulty) p.greatest → (rules_of sought p).IsRight which u → members u ⊆ members p.greatest
listed_inside listed.Quorum which p u greatest is = listed_within listed.Quorum which p.system.sets (members p.faulty) p.greatest u greatest is.1
listed_inside listed.Blocking which p u greatest is = listed_within listed.Blocking which p.system.sets (members p.faulty) p.greatest u greatest is.1
listed_inside listed.Smaller listed.Quorum p u greatest is = absurd is
listed_inside listed.Smaller listed.Blocking p u greatest is = is.2
listed_inside listed.Smaller listed.Smaller p u greatest is = quorum_within p.system.sets (members p.faulty) p.greatest (members u) greatest is.1

-- one of ever smaller quorums has a node
some_node : (sought which : Listed) (p : ListPart) (u : Table) → which ≡ listed.Smaller → (rules_of sought p).IsRight which u → IsInhabited (members u)
some_node listed.Quorum listed.Smaller p u at is = absurd is.1.0
some_node listed.Blocking listed.Smaller p u at is = absurd is.1.0
some_node listed.Smaller listed.Smaller p u at is = is.1.inhabited
some_node sought listed.Quorum p u at is = absurd cc
some_node sought listed.Blocking p u at is = absurd cc

-- a set that passes is the right one, and smaller than the last where that is asked
record IsRightSet (k : Listing) (which : Listed) (u v : Table) : Type 0 where
  same : v ≡ u
  right : (rules_of k.sought k.part).IsRight which u
  smaller : (not (asks_smaller k.sought which) || is_below (size u) (last_of None k.sets)) ≡ true

right_for : (k : Listing) (l : ℕ) (which : Listed) (u v : Table) → IsGreatest k.part.system.sets (members k.part.faulty) k.part.greatest → length u ≡ length k.part.system.sets → length k.part.faulty ≡ length k.part.system.sets
    → right_set k l which u ≡ Ok v → IsRightSet k which u v
right_for k l which u v greatest places same e =
    let f : Fbas = k.part.system.sets in
    let b : Table = k.part.faulty in
    let g : Table = k.part.greatest in
    let small : Bool = not (asks_smaller k.sought which) || is_below (size u) (last_of None k.sets) in
    let minimal : Bool = not (asks_minimal k.sought which) || is_minimal which f b u in
    let smaller : Result Table CertError = unless (NotSmaller l) small (Ok u) in
    let last : Result Table CertError = unless (NotMinimal l) minimal smaller in
    let one = passed (UnknownNode l) (not (asks_inside k.sought which) || is_within u g) (unless (not_of l which) (is_listed_for k.sought which f b u) last) v e in
    let two = passed (not_of l which) (is_listed_for k.sought which f b u) last v one.1 in
    let three = passed (NotMinimal l) minimal smaller v two.1 in
    let four = passed (NotSmaller l) small (Ok u) v three.1 in record {
      same = (let q = four.1 in cc);
      right = made k.sought which k.part u greatest same places one.0 two.0 three.0;
      smaller = four.0;
    }

put_more : (b : Bool) (nodes : Table) (sets : List Table) (u : Table) → (map (kept nodes) sets ++ put_if b (kept nodes u) []) ≡ map (kept nodes) (put_last b sets u)
put_more true nodes sets u = sym (map-append (kept nodes) sets (u ∷ []))
put_more false nodes sets u = append-nil (map (kept nodes) sets)

listed_more : (sought : Listed) (nodes : Table) (journal : List JournalLine) (sets : List Table) (which : Listed) (id : ℕ) (u : Table) → sets_in sought journal ≡ map (kept nodes) sets
    → sets_in sought (journal ++ SetLine which id (kept nodes u) ∷ []) ≡ map (kept nodes) (with_sought sought sets which u)
listed_more sought nodes journal sets which id u listed =
    let b : Bool = is_sought sought which in
    sets_append sought journal (SetLine which id (kept nodes u) ∷ []) ∙ ap (λ (xs : List Table). xs ++ put_if b (kept nodes u) []) listed ∙ put_more b nodes sets u

falls_with : (sought which : Listed) (f : System) (nodes : Table) (sets : List Table) (u : Table) → length nodes ≡ length f.sets → All (IsPartSet f nodes) sets → FallsIf sought (map (kept nodes) sets)
    → (not (asks_smaller sought which) || is_below (size (kept nodes u)) (last_of None sets)) ≡ true → FallsIf sought (map (kept nodes) (with_sought sought sets which u))
falls_with listed.Quorum which f nodes sets u places all falls smaller = tt
falls_with listed.Blocking which f nodes sets u places all falls smaller = tt
falls_with listed.Smaller listed.Quorum f nodes sets u places all falls smaller = falls
falls_with listed.Smaller listed.Blocking f nodes sets u places all falls smaller = falls
falls_with listed.Smaller listed.Smaller f nodes sets u places all falls smaller =
    subst FallFrom (sym (map-append (kept nodes) sets (u ∷ []))) (falls_more (map (kept nodes) sets) (kept nodes u) falls (below_in_part f nodes (size (kept nodes u)) sets places all ∙ smaller))

pub sets_more : (P : Table → Type 0) (b : Bool) (sets : List Table) (u : Table) → All P sets → P u → All P (put_last b sets u)
sets_more P false sets u all one = all
sets_more P true sets u all one = All-append P sets (u ∷ []) all (All-cons P u [] one (All-nil P))

pub open_more : (journal : List JournalLine) (line : JournalLine) → IsOpen journal → line_progress line ≡ going → IsOpen (journal ++ line ∷ [])
open_more journal line opens is = open_append journal (line ∷ []) opens (All-cons (λ l. line_progress l ≡ going) line [] is (All-nil (λ l. line_progress l ≡ going)))

held_below : (f : System) (nodes gone : Table) (k : Listing) → IsList f nodes gone k → AreBelow k.checker.database
held_below f nodes gone k is = below_run (rules_of k.sought k.part) k.kind (rules_of k.sought k.part).start is.journal k.checker.database is.run (no_start k.sought k.part)

pub faulty_fits : (f : System) (nodes gone : Table) (k : Listing) → IsList f nodes gone k → length k.part.faulty ≡ length k.part.system.sets
faulty_fits f nodes gone k is = subst (λ (p : ListPart). length p.faulty ≡ length p.system.sets) (sym is.part) (part_faulty_size f nodes gone is.subject)

pub set_fits : (f : System) (nodes gone : Table) (k : Listing) (u : Table) → IsList f nodes gone k → length u ≡ length f.sets → length (kept nodes u) ≡ length k.part.system.sets
set_fits f nodes gone k u is e = subst (λ (p : ListPart). length (kept nodes u) ≡ length p.system.sets) (sym is.part) (cut_size f nodes gone is.subject u e)

pub greatest_fits : (f : System) (nodes gone : Table) (k : Listing) → IsList f nodes gone k → IsGreatest k.part.system.sets (members k.part.faulty) k.part.greatest
greatest_fits f nodes gone k is = subst (λ (p : ListPart). IsGreatest p.system.sets (members p.faulty) p.greatest) (sym is.part) (part_greatest f nodes gone is.subject)

-- what is listed lies in the greatest quorum
pub right_within : (f : System) (nodes gone : Table) (k : Listing) (l : ℕ) (which : Listed) (u v : Table) → IsList f nodes gone k → length u ≡ length k.part.system.sets → right_set k l which u ≡ Ok v → members v ⊆ members k.part.greatest
right_within f nodes gone k l which u v is size e =
    let greatest = greatest_fits f nodes gone k is in
    let right = right_for k l which u v greatest size (faulty_fits f nodes gone k is) e in
    subst (λ (t : Table). members t ⊆ members k.part.greatest) (sym right.same) (listed_inside k.sought which k.part u greatest right.right)

-- and one of ever smaller quorums has a node
pub right_inhabited : (f : System) (nodes gone : Table) (k : Listing) (l : ℕ) (which : Listed) (u v : Table) → IsList f nodes gone k → length u ≡ length k.part.system.sets → right_set k l which u ≡ Ok v → which ≡ listed.Smaller → IsInhabited (members v)
right_inhabited f nodes gone k l which u v is size e at =
    let right = right_for k l which u v (greatest_fits f nodes gone k is) size (faulty_fits f nodes gone k is) e in
    subst (λ (t : Table). IsInhabited (members t)) (sym right.same) (some_node k.sought which k.part u at right.right)

-- a set of the part that is listed
set_known : (f : System) (nodes gone : Table) (k : Listing) (l : ℕ) (which : Listed) (id : ℕ) (u : Table) (state : ReachState) → IsList f nodes gone k → k.checker.database.last < id → IsPartSet f nodes u → list_set nodes k l which id u ≡ Ok state → IsReachState f nodes gone state
set_known f nodes gone k l which id u state is above part e =
    let p : ListPart = k.part in
    let d : Database = k.checker.database in
    let cut : Table = kept nodes u in
    let size_is = set_fits f nodes gone k u is part.places in
    let one = got (and_then (new_set k l which id) (right_set k l which cut)) (λ w. Ok (Going (AtList (with_listed k which id u w)))) state e in
    let two = got (right_set k l which cut) (new_set k l which id) one.0 one.1 in
    let right = right_for k l which cut two.0 (greatest_fits f nodes gone k is) size_is (faulty_fits f nodes gone k is) two.1 in
    let fresh = passed (NotNew l) (not (is_old k which id two.0)) (Ok two.0) one.0 two.2 in
    let same : one.0 ≡ cut = (let q = fresh.1 in let r : two.0 ≡ one.0 = cc in sym r ∙ right.same) in
    let off : is_old k which id cut ≡ false = subst (λ (t : Table). is_old k which id t ≡ false) right.same (not-true (is_old k which id two.0) fresh.0) in
    let next : Listing = with_listed k which id u cut in
    let line : JournalLine = SetLine which id cut in
    let r : Rules = rules_of k.sought p in
    let known : IsList f nodes gone next = record {
      subject = is.subject;
      part = is.part;
      rule = is.rule;
      vars = is.vars;
      small = is.small;
      sets = sets_more (IsPartSet f nodes) (is_sought k.sought which) k.sets u is.sets part;
      journal = is.journal ++ line ∷ [];
      opens = open_more is.journal line is.opens refl;
      run = run_append r k.kind r.start is.journal (line ∷ []) d next.checker.database is.run
          ((above, right.right), new_clause (r.asks k.kind which) d id (r.clause which cut) (held_below f nodes gone k is) above off, refl);
      listed = listed_more k.sought nodes is.journal k.sets which id u is.listed;
      falls = falls_with k.sought which f nodes k.sets u is.subject.places is.sets is.falls right.smaller;
    } in
    let there : Going (AtList (with_listed k which id u one.0)) ≡ state = (let q = one.2 in cc) in
    subst (IsReachState f nodes gone) (ap (λ (w : Table). Going (AtList (with_listed k which id u w))) (sym same) ∙ there) known

-- the names of a line give a set of the part
pub part_set : (f : System) (nodes gone : Table) (l : ℕ) (names : List Name) (u : Table) → IsPartNodes f nodes gone → and_then (within nodes l) (nodes_of f.names l names) ≡ Ok u → IsPartSet f nodes u
part_set f nodes gone l names u is e =
    let w = within_part nodes l (nodes_of f.names l names) u e in
    let p = passed (UnknownNode l) (all_among names f.names) (Ok (marks f.names names)) u w.0 in
    let same : marks f.names names ≡ u = (let q = p.1 in cc) in
    let places : length u ≡ length f.sets = ap (λ (t : Table). length t) (sym same) ∙ length-marks f.names names ∙ sym is.system.places in record {
      places = places;
      within = inside u nodes (places ∙ sym is.places) (none_of_both u (others nodes) w.1);
    }

numbered_known : (f : System) (nodes gone : Table) (k : Listing) (l : ℕ) (which : Listed) (n : Numbered) (state : ReachState) → IsList f nodes gone k → set_line f nodes k l which n ≡ Ok state → IsReachState f nodes gone state
numbered_known f nodes gone k l which n state is e =
    let g = under_id l k.checker.database.last n.id (list_set nodes k l which n.id) (and_then (within nodes l) (nodes_of f.names l n.names)) state e in
    set_known f nodes gone k l which n.id g.0 state is g.1 (part_set f nodes gone l n.names g.0 is.subject g.2) g.3

-- ---- a step more

pub taken_by_rup : (c : Checking) (vars : ℕ) (step : ProofStep) → c.rule ≡ Rup → c.vars ≡ vars → step_fault_by c.rule c.vars c.database step ≡ None → step_fault vars c.database step ≡ None
taken_by_rup c vars step rule same none =
    sym (rup_is_the_first_rule vars c.database step)
    ∙ subst (λ (n : ℕ). step_fault_by Rup n c.database step ≡ None) same (subst (λ (r : Rule). step_fault_by r c.vars c.database step ≡ None) rule none)

step_goes : (f : System) (nodes gone : Table) (k : Listing) (step : ProofStep) (p : Progress) → IsList f nodes gone k → step_fault_by k.checker.rule k.checker.vars k.checker.database step ≡ None → is_old_step k step ≡ false → progress_of step ≡ p → IsReachState f nodes gone (after_list_step (with_step k step) p)
step_goes f nodes gone k step p is none off progress = by_progress p progress
  where
    r : Rules
    r = rules_of k.sought k.part

    taken : step_fault r.vars k.checker.database step ≡ None
    taken = taken_by_rup k.checker r.vars step is.rule is.vars none

    run : JournalRun r k.kind r.start (is.journal ++ StepLine step ∷ []) (after_step k.checker.database step)
    run = run_append r k.kind r.start is.journal (StepLine step ∷ []) k.checker.database (after_step k.checker.database step) is.run
        (taken, new_step r k.kind k.checker.database step (held_below f nodes gone k is) taken off, refl)

    by_progress : (q : Progress) → progress_of step ≡ q → IsReachState f nodes gone (after_list_step (with_step k step) q)
    by_progress going is_going = record {
      subject = is.subject;
      part = is.part;
      rule = is.rule;
      vars = is.vars;
      small = is.small;
      sets = is.sets;
      journal = is.journal ++ StepLine step ∷ [];
      opens = open_more is.journal (StepLine step) is.opens is_going;
      run = run;
      listed = sets_append k.sought is.journal (StepLine step ∷ []) ∙ append-nil (sets_in k.sought is.journal) ∙ is.listed;
      falls = is.falls;
    }
    by_progress Refuted is_refuted =
        list_shown k.sought f nodes gone k.kind is.journal step (after_step k.checker.database step) k.sets is.subject is.opens is_refuted
        (subst (λ (p : ListPart). JournalRun (rules_of k.sought p) k.kind (rules_of k.sought p).start (is.journal ++ StepLine step ∷ []) (after_step k.checker.database step)) is.part run)
        is.listed is.falls is.sets

step_in_list : (f : System) (nodes gone : Table) (k : Listing) (l : ℕ) (step : ProofStep) (state : ReachState) → IsList f nodes gone k → list_step k l step ≡ Ok state → IsReachState f nodes gone state
step_in_list f nodes gone k l step state is e =
    let t = taken_so l (is_old_step k step) (step_fault_by k.checker.rule k.checker.vars k.checker.database step) (after_list_step (with_step k step) (progress_of step)) state e in
    subst (IsReachState f nodes gone) t.2 (step_goes f nodes gone k step (progress_of step) is t.0 t.1 refl)

-- ---- lines

end_known : (f : System) (nodes gone : Table) (k : Listing) (l : ℕ) (kind : ListKind) (state : ReachState) → IsPartNodes f nodes gone → list_end kind k l ≡ Ok state → IsReachState f nodes gone state
end_known f nodes gone k l Whole state is e = absurd cc
end_known f nodes gone k l Part state is e =
    let same : Done (Partial (Nodes k.sought) k.units) ≡ state = cc in
    subst (IsReachState f nodes gone) same (tt, tt)

text_known : (f : System) (nodes gone : Table) (k : Listing) (l : ℕ) (text : List ℕ) (o : Option Listed) (state : ReachState) → IsList f nodes gone k → list_text f nodes k l text o ≡ Ok state → IsReachState f nodes gone state
text_known f nodes gone k l text (Some which) state is e =
    let g = got (ok_or (numbered_in (words_of text)) (BadLine l)) (set_line f nodes k l which) state e in
    numbered_known f nodes gone k l which g.0 state is g.2
text_known f nodes gone k l text None state is e =
    let g = got (and_then (literal_in k.kind l) (or_bad_line l (step_in text))) (list_step k l) state e in
    step_in_list f nodes gone k l g.0 state is g.2

pub known_list : (f : System) (nodes gone : Table) (k : Listing) (l : ℕ) (text : List ℕ) → IsList f nodes gone k → (state : ReachState) → list_line f nodes k l text ≡ Ok state → IsReachState f nodes gone state
known_list f nodes gone k l text is state e = elim (cases_Bool (bytes_eq text (codes "end"))) [
  | inl ends ↦ end_known f nodes gone k l k.kind state is.subject (rw ends at e)
  | inr not ↦ text_known f nodes gone k l text (listed_by k.sought (words_of text)) state is (rw not at e)
]

-- what is known after the line of the counter
pub known_counter : (f : System) (nodes gone : Table) (kind : ListKind) (p : ListPart) (l : ℕ) (text : List ℕ) → IsReachPlace f nodes gone (AtCounter kind p) → (state : ReachState) → counter_line kind p l text ≡ Ok state → IsReachState f nodes gone state
known_counter f nodes gone kind p l text is state e = counter_known f nodes gone kind l text state is.0 (subst (λ (q : ListPart). counter_line kind q l text ≡ Ok state) is.1 e)

-- the line `end`, after what is shown
pub known_end : (f : System) (nodes gone : Table) (l : ℕ) (t : Bool) (r : Reached) (result : Result ReachState CertError) → IsReached f nodes gone r → result ≡ unless (BadLine l) t (Ok (Done r)) → IfOk result (IsReachState f nodes gone)
known_end f nodes gone l true r result is e = subst (λ (x : Result ReachState CertError). IfOk x (IsReachState f nodes gone)) (sym e) is
known_end f nodes gone l false r result is e = subst (λ (x : Result ReachState CertError). IfOk x (IsReachState f nodes gone)) (sym e) tt
