-- A list that is written is accepted.
use Rattle.std.proofs.Common.{◌≡◌, ℕ, ◌+◌, ◌*◌, ◌≤◌, ◌<◌, Bool, true, false, not, ◌||◌, List, [], ◌∷◌, ◌++◌, length, map, Option, Some, None, Ok, refl, sym, ◌∙◌, ap, subst, arith, codes, length-append}
use Rattle.std.specs.Fmt.{decimal}
use Rattle.std.proofs.lemmas.Bool.{lt-ltb, le-leb, eq-eqb}
use Rattle.std.proofs.lemmas.Fmt.{length-decimal-le}
use Rattle.std.specs.List.{All}
use Rattle.std.specs.List.Sorted.{IsStrictlySortedBy}
use Rattle.hex.specs.Hex.{IsBytes}
use Rattle.fbas_model.specs.Nodes.{Table, members, size}
use Rattle.fbas_model.specs.Names.{name_cmp}
use Rattle.fbas_model.specs.Systems.{System, IsSystem}
use Rattle.fbas_model.specs.Restriction.{kept, restricted}
use Rattle.fbas_model.proofs.Closure.{size_le_length}
use Rattle.greatest_quorum.specs.Greatest.{greatest_of}
use Rattle.greatest_quorum.proofs.GreatestLaws.{length-greatest_of}
use Rattle.lrat_model.specs.Steps.{Database, after_step}
use Rattle.enumeration_journal.specs.Journals.{JournalLine, SetLine, StepLine, Rules, JournalRun, after_line, nothing_held, sets_in, journal_units}
use Rattle.enumeration_journal.specs.declared.kinds.ListKind.{ListKind}
use Rattle.enumeration_journal.specs.declared.kinds.ListKind.TheVariants.{Whole, Partial as Part}
use Rattle.enumeration_journal.specs.Kinds.{HasLists}
use Rattle.enumeration_journal.specs.declared.kinds.Listed.{Listed}
use Rattle.enumeration_journal.specs.declared.kinds.Listed.TheVariants as listed
use Rattle.enumeration_journal.specs.Order.{ordered}
use Rattle.least_journal.specs.Least.{least_of, AreFalling, FallFrom, AreSmaller, last_of}
use Rattle.least_journal.proofs.Counts.{size_kept}
use Rattle.clause_encoder.specs.NameCounter.{counter_vars}
use Rattle.clause_encoder.specs.declared.limits.TheConstants.{MOST_VARS}
use Rattle.clause_encoder.proofs.NameCounts.{variables as counter_size}
use Rattle.cert_lines.specs.Saying.{counter_in}
use Rattle.lrat_text.specs.Left.{spaced}
use Rattle.blocking_lists.specs.Lines.{HasLineNumbers, HasFewWords}
use Rattle.blocking_lists.specs.Outcomes.{rules}
use Rattle.certificate_file.specs.Acceptance.{take_line, checked}
use Rattle.reach_kinds.specs.Bodies.{list_part, rules_of, counted_listing, body_begins, asks_smaller, is_below, with_sought, in_shown_order, whole_of}
use Rattle.reach_kinds.specs.declared.places.ListPart.{ListPart}
use Rattle.reach_kinds.proofs.Falling.{last_map}
use Rattle.certificate_file.specs.Meaning.{part_from}
use Rattle.certificate_file.specs.declared.given.Given.{Given}
use Rattle.certificate_file.specs.declared.places.Header.{Header}
use Rattle.certificate_file.specs.declared.places.Subject.{Subject}
use Rattle.certificate_file.specs.declared.places.Conclusion.{Conclusion}
use Rattle.certificate_file.specs.declared.places.Conclusion.TheVariants.{Reached}
use Rattle.reach_kinds.specs.Kinds.{kind_word}
use Rattle.reach_kinds.specs.declared.kinds.ReachKind.TheVariants.{Nodes}
use Rattle.reach_kinds.specs.declared.places.Reached.TheVariants as reached
use Rattle.certificate_file.specs.declared.places.Place.TheVariants.{AtKind, AtReach}
use Rattle.reach_kinds.specs.declared.places.ReachPlace.TheVariants.{AtCounter, AtList}
use Rattle.certificate_file.specs.declared.places.State.{State}
use Rattle.certificate_file.specs.declared.places.State.TheVariants.{Going}
use Rattle.cert_lines.specs.declared.lines.TheConstants.{MAX_LINES}
use Rattle.cert_writer.specs.Texts.{Text, joined, header_lines, kind_line, journal_line, list_text, counter_line, least_text, raised_table}
use Rattle.cert_writer.specs.Promises.{IsHeader, subject, part_of, faulty_in, ListEndsAs, rules_in, shown_by_list, IsJournalOf, greatest_of_part, least_rules, shown_by_least, IsLeastJournalOf}
use Rattle.cert_writer.proofs.Joined.{Takes, IsLine, AreLines}
use Rattle.cert_writer.proofs.Words.{IsWord, is_word, words_of-worded, plain-worded}
use Rattle.cert_writer.proofs.Names.{listable}
use Rattle.cert_writer.proofs.Raised.{spread, length-spread}
use Rattle.cert_writer.proofs.RaisedOrder.{all_raised, kept_of_spread}
use Rattle.cert_writer.proofs.KindLines.{line_body, body_taken}
use Rattle.cert_writer.proofs.Pairs.{part_is_restricted, out_spread}
use Rattle.cert_writer.proofs.LogLaws.{number_back}
use Rattle.cert_writer.proofs.SetLines.{StandsAt, line_set}
use Rattle.cert_writer.proofs.StepLines.{decimal_word}
use Rattle.cert_writer.proofs.JournalRuns.{Over, OfNodes, sought_over, raised_over, shown_over, FallOn, at_list}
use Rattle.cert_writer.proofs.JournalLaws.{stands, few_names, journal_accepted}

-- ---- what is asked of ever smaller quorums

pub lists_ordered : (sought : Listed) → HasLists sought → (xs : List Table) → in_shown_order sought xs ≡ ordered xs
lists_ordered listed.Quorum all xs = refl
lists_ordered listed.Blocking all xs = refl
lists_ordered listed.Smaller all xs = absurd all

-- of lists nothing is
asks_none : (sought which : Listed) → HasLists sought → asks_smaller sought which ≡ false
asks_none listed.Quorum which all = refl
asks_none listed.Blocking which all = refl
asks_none listed.Smaller which all = absurd all

pub lists_fall : (over : Over) → HasLists (sought_over over) → (nodes : Table) (sets : List Table) (lines : List JournalLine) → FallOn over nodes sets lines
lists_fall over all nodes sets [] = tt
lists_fall over all nodes sets (SetLine which id u ∷ lines) =
    (ap (λ (b : Bool). not b || is_below (size u) (last_of None sets)) (asks_none (sought_over over) which all), lists_fall over all nodes (with_sought (sought_over over) sets which (raised_over over nodes u)) lines)
lists_fall over all nodes sets (StepLine step ∷ lines) = lists_fall over all nodes sets lines

-- the sizes go on falling from that of a set, if there is one
abbrev FallsFrom : Option Table → List Table → Type 0
FallsFrom None us = FallFrom us
FallsFrom (Some s) us = AreSmaller (size s) us

first_falls : (o : Option Table) (u : Table) (us : List Table) → FallsFrom o (u ∷ us) → is_below (size u) o ≡ true
first_falls None u us falls = refl
first_falls (Some s) u us falls = lt-ltb (size u) (size s) falls.0

later_fall : (o : Option Table) (u : Table) (us : List Table) → FallsFrom o (u ∷ us) → AreSmaller (size u) us
later_fall None u us falls = falls
later_fall (Some s) u us falls = falls.1

last_put : (sets : List Table) (x : Table) → last_of None (sets ++ x ∷ []) ≡ Some x
last_put sets x = behind None sets x
  where
    behind : (o : Option Table) (sets : List Table) (x : Table) → last_of o (sets ++ x ∷ []) ≡ Some x
    behind o [] x = refl
    behind o (s ∷ sets) x = behind (Some s) sets x

size_spread : (nodes u : Table) → length u ≡ size nodes → size (spread nodes u) ≡ size u
size_spread nodes u places =
    sym (size_kept nodes (spread nodes u) (sym (length-spread nodes u)) (λ v there. (out_spread nodes u v there).0)) ∙ ap size (kept_of_spread nodes u places)

least_fall : (p : ListPart) (nodes : Table) (kind : ListKind) (old new : Database) (sets : List Table) (lines : List JournalLine) → length p.system.sets ≡ size nodes → JournalRun (rules_of listed.Smaller p) kind old lines new → FallsFrom (last_of None sets) (sets_in listed.Smaller lines) → FallOn (OfNodes listed.Smaller p) nodes sets lines
least_fall p nodes kind old new sets [] count run falls = tt
least_fall p nodes kind old new sets (SetLine listed.Quorum id u ∷ lines) count run falls = absurd run.0.1
least_fall p nodes kind old new sets (SetLine listed.Blocking id u ∷ lines) count run falls = (refl, least_fall p nodes kind (after_line (rules_of listed.Smaller p) old (SetLine listed.Blocking id u)) new sets lines count run.2 falls)
least_fall p nodes kind old new sets (SetLine listed.Smaller id u ∷ lines) count run falls =
    let more : List Table = sets_in listed.Smaller lines in
    let next : List Table = sets ++ spread nodes u ∷ [] in
    let later : AreSmaller (size (spread nodes u)) more = subst (λ (n : ℕ). AreSmaller n more) (sym (size_spread nodes u (run.0.1.0 ∙ count))) (later_fall (last_of None sets) u more falls) in (
      first_falls (last_of None sets) u more falls,
      least_fall p nodes kind (after_line (rules_of listed.Smaller p) old (SetLine listed.Smaller id u)) new next lines count run.2 (subst (λ (o : Option Table). FallsFrom o more) (sym (last_put sets (spread nodes u))) later),
    )
least_fall p nodes kind old new sets (StepLine step ∷ lines) count run falls = least_fall p nodes kind (after_step old step) new sets lines count run.2 falls

-- ---- the line of the counter

counter_few : (g : ℕ) → counter_vars g ≤ MOST_VARS → g * g < 9223372036854775808
counter_few g small = omega (arith, counter_size g, small)

is_counter : IsWord (codes "counter")
is_counter = is_word (codes "counter") refl

counter_back : (g : ℕ) → counter_vars g ≤ MOST_VARS → counter_in (counter_line g) ≡ Some (record { vars = counter_vars g; clauses = g * g })
counter_back g small =
    let few = counter_few g small in
    let vars : IsWord (decimal (counter_vars g)) = decimal_word (counter_vars g) (omega (arith, small)) in
    let clauses : IsWord (decimal (g * g)) = decimal_word (g * g) (omega (arith, few)) in
    rw (words_of-worded (codes "counter") (decimal (counter_vars g) ∷ decimal (g * g) ∷ []) is_counter (vars, (clauses, tt)), number_back (counter_vars g) (omega (arith, small)), number_back (g * g) few) refl

line_counter : (g : ℕ) → counter_vars g ≤ MOST_VARS → IsLine (counter_line g)
line_counter g small =
    let few = counter_few g small in
    let a : length (decimal (counter_vars g)) ≤ 19 = length-decimal-le 19 (counter_vars g) (omega arith) (omega (arith, small)) (omega (arith, small)) in
    let b : length (decimal (g * g)) ≤ 19 = length-decimal-le 19 (g * g) (omega arith) (omega (arith, few)) (omega (arith, few)) in
    record {
      plain = plain-worded (codes "counter") (decimal (counter_vars g) ∷ decimal (g * g) ∷ []) is_counter (decimal_word (counter_vars g) (omega (arith, small)), (decimal_word (g * g) (omega (arith, few)), tt));
      short = omega (arith, a, b, length-append (codes "counter") (spaced (decimal (counter_vars g) ∷ decimal (g * g) ∷ [])), length-append (decimal (counter_vars g)) (spaced (decimal (g * g) ∷ [])), length-append (decimal (g * g)) (spaced []));
    }

counter_taken : (f : System) (given : Given) (s : Subject) (kind : ListKind) (p : ListPart) → counter_vars (size p.greatest) ≤ MOST_VARS → take_line f given (AtReach s (AtCounter kind p)) 6 (counter_line (size p.greatest)) ≡ Ok (Going (AtReach s (AtList (counted_listing kind p))))
unfolding take_line
counter_taken f given s kind p small =
    rw (counter_back (size p.greatest) small, le-leb (counter_vars (size p.greatest)) MOST_VARS small, eq-eqb (counter_vars (size p.greatest)) (counter_vars (size p.greatest)) refl, eq-eqb (size p.greatest * size p.greatest) (size p.greatest * size p.greatest) refl) refl

-- ---- a list

module _ (f : System) (given : Given) (h : Header) (is : IsSystem f.names f.sets) (sorted : IsStrictlySortedBy name_cmp f.names) (size_is : length given.digest ≡ 32) (bytes : IsBytes given.digest) (head : IsHeader f h) where
  -- the nodes of the part, and the part with its faulty nodes and its greatest quorum
  abbrev nodes : Table
  nodes = part_from f h.from

  abbrev p : ListPart
  p = list_part f nodes h.faulty

  abbrev gone : Table
  gone = faulty_in f h

  there : StandsAt f nodes p
  there = stands f h is sorted head

  vars_few : size p.greatest ≤ MOST_VARS
  vars_few = omega (arith, size_le_length p.greatest, length-greatest_of p.system.sets p.faulty, there.count, size_le_length nodes, there.places, is.few)

  -- after the lines of its kind
  over_nodes : (sought : Listed) (kind : ListKind) (new : Database) (journal : List JournalLine) (front : List Text) → AreLines front → Takes f given 5 (Going (AtKind (subject f h))) front (at_list (subject f h) (OfNodes sought p) kind (rules_of sought p).start [] 0)
      → (rules_of sought p).vars ≤ MOST_VARS → JournalRun (rules_of sought p) kind (rules_of sought p).start journal new → FallOn (OfNodes sought p) nodes [] journal
      → All HasLineNumbers journal → All (HasFewWords (rules_of sought p).vars) journal → length front + length journal + 5 ≤ MAX_LINES → ListEndsAs kind journal
      → checked f given (joined (header_lines f.names given.digest h ++ (front ++ (map (journal_line (kept nodes f.names)) journal ++ codes "end" ∷ [])))) ≡ Ok (record { header = h; answer = shown_by_list sought f h (rules_of sought p) kind journal })
  over_nodes sought kind new journal front front_lines begins small run falls numbers words few ends =
      let names = kept nodes f.names in
      journal_accepted f given h is sorted size_is bytes head (OfNodes sought p) there kind new journal front front_lines begins (λ which id u is_id. line_set which id names u (listable names there.part_names) (omega (arith, few_names f h is sorted head)) is_id) small run falls numbers words few ends
      ∙ ap (λ (a : Conclusion). Ok (record { header = h; answer = a })) (as_raised kind)
    where
      as_raised : (kind : ListKind) → Reached (shown_over (OfNodes sought p) nodes kind journal) ≡ shown_by_list sought f h (rules_of sought p) kind journal
      as_raised Whole = ap (λ (xs : List Table). Reached (whole_of sought (in_shown_order sought xs))) (all_raised nodes (sets_in sought journal))
      as_raised Part = refl

  -- over a system of the part
  abbrev ListSo : Listed → ListKind → List JournalLine → Database → System → Type 0
  ListSo sought kind journal new x = JournalRun (rules sought x.sets gone) kind nothing_held journal new → All (HasFewWords (size (greatest_of x.sets gone))) journal
      → checked f given (list_text f.names x.names given.digest h sought kind journal) ≡ Ok (record { header = h; answer = shown_by_list sought f h (rules sought x.sets gone) kind journal })

  list_so : (sought : Listed) (kind : ListKind) (journal : List JournalLine) (new : Database) → HasLists sought → All HasLineNumbers journal → length journal + 6 ≤ MAX_LINES → ListEndsAs kind journal → ListSo sought kind journal new (restricted nodes f)
  list_so listed.Quorum kind journal new all numbers few ends run words =
      over_nodes listed.Quorum kind new journal (kind_line (kind_word (Nodes listed.Quorum) kind) ∷ []) (line_body (Nodes listed.Quorum) kind, tt) (Going (AtReach (subject f h) (body_begins f listed.Quorum kind nodes h.faulty)), body_taken f given (subject f h) (Nodes listed.Quorum) kind refl, refl)
      vars_few run (lists_fall (OfNodes listed.Quorum p) tt nodes [] journal) numbers words (omega (arith, few)) ends
  list_so listed.Blocking kind journal new all numbers few ends run words =
      over_nodes listed.Blocking kind new journal (kind_line (kind_word (Nodes listed.Blocking) kind) ∷ []) (line_body (Nodes listed.Blocking) kind, tt) (Going (AtReach (subject f h) (body_begins f listed.Blocking kind nodes h.faulty)), body_taken f given (subject f h) (Nodes listed.Blocking) kind refl, refl)
      vars_few run (lists_fall (OfNodes listed.Blocking p) tt nodes [] journal) numbers words (omega (arith, few)) ends
  list_so listed.Smaller kind journal new all numbers few ends run words = absurd all

  pub list_of_accepted : (sought : Listed) (x : System) (kind : ListKind) (journal : List JournalLine) → x ≡ part_of f h.from → IsJournalOf sought f h kind journal
      → checked f given (list_text f.names x.names given.digest h sought kind journal) ≡ Ok (record { header = h; answer = shown_by_list sought f h (rules_in sought f h) kind journal })
  list_of_accepted sought x kind journal x_is j =
      let e : part_of f h.from ≡ restricted nodes f = part_is_restricted f h.from is in
      ap (λ (y : System). checked f given (list_text f.names y.names given.digest h sought kind journal)) x_is
      ∙ subst (ListSo sought kind journal j.new) (sym e) (list_so sought kind journal j.new j.lists j.numbers j.few j.ends) j.run j.few_words

  -- ---- a search for a smallest quorum

  abbrev LeastSo : ListKind → List JournalLine → Database → System → Type 0
  LeastSo kind journal new x = counter_vars (size (greatest_of x.sets gone)) ≤ MOST_VARS → JournalRun (least_of x.sets (members gone) (greatest_of x.sets gone)) kind (least_of x.sets (members gone) (greatest_of x.sets gone)).start journal new → All (HasFewWords (counter_vars (size (greatest_of x.sets gone)))) journal
      → checked f given (least_text f.names x.names given.digest h (size (greatest_of x.sets gone)) kind journal) ≡ Ok (record { header = h; answer = shown_by_list listed.Smaller f h (least_of x.sets (members gone) (greatest_of x.sets gone)) kind journal })

  least_so : (kind : ListKind) (journal : List JournalLine) (new : Database) → AreFalling journal → All HasLineNumbers journal → length journal + 7 ≤ MAX_LINES → ListEndsAs kind journal → LeastSo kind journal new (restricted nodes f)
  least_so kind journal new falls numbers few ends small run words =
      let s = subject f h in
      let g : ℕ = size p.greatest in
      let place : State = Going (AtReach s (AtList (counted_listing kind p))) in
      over_nodes listed.Smaller kind new journal (kind_line (kind_word (Nodes listed.Smaller) kind) ∷ counter_line g ∷ []) (line_body (Nodes listed.Smaller) kind, (line_counter g small, tt))
      (Going (AtReach s (AtCounter kind p)), body_taken f given s (Nodes listed.Smaller) kind refl, (place, counter_taken f given s kind p small, refl))
      small run (least_fall p nodes kind (rules_of listed.Smaller p).start new [] journal there.count run falls) numbers words (omega (arith, few)) ends

  last_shown : (kind : ListKind) (journal : List JournalLine) (r : Rules) → r ≡ least_rules f h → shown_by_list listed.Smaller f h r kind journal ≡ shown_by_least f h kind journal
  last_shown Whole journal r is_r = ap (λ (o : Option Table). Reached (reached.Least o)) (last_map (raised_table nodes) None (sets_in listed.Smaller journal))
  last_shown Part journal r is_r = ap (λ (x : Rules). Reached (reached.Partial (Nodes listed.Smaller) (journal_units x journal))) is_r

  pub least_of_accepted : (x : System) (kind : ListKind) (journal : List JournalLine) → x ≡ part_of f h.from → IsLeastJournalOf f h kind journal
      → checked f given (least_text f.names x.names given.digest h (size (greatest_of_part f h)) kind journal) ≡ Ok (record { header = h; answer = shown_by_least f h kind journal })
  least_of_accepted x kind journal x_is j =
      let e : part_of f h.from ≡ restricted nodes f = part_is_restricted f h.from is in
      ap (λ (y : System). checked f given (least_text f.names y.names given.digest h (size (greatest_of_part f h)) kind journal)) x_is
      ∙ subst (LeastSo kind journal j.new) (sym e) (least_so kind journal j.new j.falls j.numbers j.few j.ends) j.small j.run j.few_words
      ∙ ap (λ (a : Conclusion). Ok (record { header = h; answer = a })) (last_shown kind journal (least_rules f h) refl)
