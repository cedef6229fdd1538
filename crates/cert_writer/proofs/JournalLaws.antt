-- A journal that is written is accepted, whether it lists sets of nodes or of groups.
use Rattle.std.proofs.Common.{◌≡◌, ℕ, ◌+◌, ◌≤◌, ◌<◌, List, [], ◌∷◌, ◌++◌, length, map, IfSome, Ok, refl, sym, ◌∙◌, subst, arith, codes, length-append}
use Rattle.std.specs.List.{All, AllByRecursion}
use Rattle.std.specs.List.Sorted.{IsStrictlySortedBy}
use Rattle.std.proofs.lemmas.List.{length-map}
use Rattle.std.proofs.lemmas.List.Elements.{recursion_from_All}
use Rattle.hex.specs.Hex.{IsBytes}
use Rattle.fbas_model.specs.Nodes.{Table, size}
use Rattle.fbas_model.specs.Names.{Name, name_cmp}
use Rattle.fbas_model.specs.Systems.{System, IsSystem}
use Rattle.fbas_model.specs.Restriction.{kept}
use Rattle.fbas_model.proofs.Kept.{kept_le, length-kept}
use Rattle.fbas_model.proofs.Renumbered.{length-restricted_sets}
use Rattle.fbas_model.specs.declared.TheConstants.{MOST_NODES}
use Rattle.lrat_model.specs.Steps.{ProofStep, Addition, Deletion, Database, after_step}
use Rattle.enumeration_journal.specs.Journals.{JournalLine, SetLine, StepLine, Rules, JournalRun, after_line}
use Rattle.enumeration_journal.specs.declared.kinds.ListKind.{ListKind}
use Rattle.enumeration_journal.specs.declared.kinds.Listed.{Listed}
use Rattle.clause_encoder.specs.declared.limits.TheConstants.{MOST_VARS}
use Rattle.lrat_text.specs.Texts.{line_of, IsId}
use Rattle.blocking_lists.specs.Lines.{HasLineNumbers, HasFewWords}
use Rattle.cert_lines.specs.declared.lines.TheConstants.{MAX_LINES}
use Rattle.certificate_file.specs.Acceptance.{checked}
use Rattle.reach_kinds.specs.Bodies.{list_part}
use Rattle.certificate_file.specs.Known.{IsPart}
use Rattle.certificate_file.specs.Meaning.{part_from}
use Rattle.certificate_file.specs.declared.given.Given.{Given}
use Rattle.certificate_file.specs.declared.places.Header.{Header}
use Rattle.certificate_file.specs.declared.places.Accepted.{Accepted}
use Rattle.certificate_file.specs.declared.places.Conclusion.TheVariants.{Reached}
use Rattle.certificate_file.specs.declared.places.Place.TheVariants.{AtTitle, AtKind}
use Rattle.certificate_file.specs.declared.places.State.TheVariants.{Going, Done}
use Rattle.certificate_file.proofs.WholeLaws.{part_is}
use Rattle.cert_writer.specs.Texts.{Text, joined, header_lines}
use Rattle.cert_writer.specs.Promises.{IsHeader, subject, ListEndsAs}
use Rattle.cert_writer.proofs.Joined.{Takes, takes-append, IsLine, AreLines, are_lines-append, accepted_text}
use Rattle.cert_writer.proofs.Words.{is_plain}
use Rattle.cert_writer.proofs.Names.{AreNames, are_keys, names-kept}
use Rattle.cert_writer.proofs.Headers.{takes_header, lines_header}
use Rattle.cert_writer.proofs.LogLaws.{literals_of}
use Rattle.cert_writer.proofs.StepLines.{line_addition, line_deletion, few_literals}
use Rattle.cert_writer.proofs.SetLines.{StandsAt}
use Rattle.cert_writer.proofs.JournalRuns.{Over, OfNodes, OfGroups, rules_for, text_over, shown_over, Stands, at_list, short_literals, FallOn, takes_body}

-- ---- each is a line

-- of a journal, where each set's line is one
lines_by : (r : Rules) (kind : ListKind) (text : JournalLine → Text) (old new : Database) (lines : List JournalLine) → ((which : Listed) (id : ℕ) (u : Table) → IsId id → IsLine (text (SetLine which id u))) → ((step : ProofStep) → text (StepLine step) ≡ line_of step) → r.vars ≤ MOST_VARS
    → JournalRun r kind old lines new → AllByRecursion (λ line. HasLineNumbers line × HasFewWords r.vars line) lines → AreLines (map text lines)
lines_by r kind text old new [] of_set of_step small run fine = tt
lines_by r kind text old new (SetLine which id u ∷ lines) of_set of_step small run fine =
    (of_set which id u fine.0.0, lines_by r kind text (after_line r old (SetLine which id u)) new lines of_set of_step small run.2 fine.1)
lines_by r kind text old new (StepLine (Deletion id ids) ∷ lines) of_set of_step small run fine = (
  subst IsLine (sym (of_step (Deletion id ids))) (line_deletion id ids fine.0.0.0 fine.0.0.1 fine.0.1.1),
  lines_by r kind text (after_step old (Deletion id ids)) new lines of_set of_step small run.2 fine.1,
)
lines_by r kind text old new (StepLine (Addition id lits hints) ∷ lines) of_set of_step small run fine =
    let numbers = fine.0.0 in
    let words = fine.0.1 in
    let literals = few_literals r.vars lits (literals_of r.vars old id lits hints run.0) words.1 in (
      subst IsLine (sym (of_step (Addition id lits hints))) (line_addition id lits hints numbers.0 numbers.1 (short_literals r.vars lits (omega (arith, small)) words.0) (omega (arith, literals, small)) (omega (arith, words.2, small))),
      lines_by r kind text (after_step old (Addition id lits hints)) new lines of_set of_step small run.2 fine.1,
    )

of_steps : (over : Over) (names : List Name) (step : ProofStep) → text_over over names (StepLine step) ≡ line_of step
of_steps (OfNodes sought part) names step = refl
of_steps (OfGroups part) names step = refl

both_all : {A : Type 0} (P Q : A → Type 0) (xs : List A) → AllByRecursion P xs → AllByRecursion Q xs → AllByRecursion (λ x. P x × Q x) xs
both_all P Q [] p q = tt
both_all P Q (x ∷ xs) p q = ((p.0, q.0), both_all P Q xs p.1 q.1)

-- ---- the part

module _ (f : System) (h : Header) (is : IsSystem f.names f.sets) (sorted : IsStrictlySortedBy name_cmp f.names) (head : IsHeader f h) where
  -- its nodes
  abbrev nodes : Table
  nodes = part_from f h.from

  names_are : AreNames f.names
  names_are = record { keys = are_keys f.names is.keys; sorted = sorted }

  part_is_one : IsPart f h.from nodes
  part_is_one = part_is f h.from is (subst (λ n. IfSome h.from (λ v. v < n)) (sym is.places) head.node)

  counted : length (list_part f nodes h.faulty).system.sets ≡ size nodes
  counted = length-restricted_sets nodes f.sets part_is_one.places

  pub stands : StandsAt f nodes (list_part f nodes h.faulty)
  stands = record {
    places = part_is_one.places ∙ is.places;
    count = counted;
    same = length-kept nodes h.faulty (part_is_one.places ∙ is.places ∙ sym head.faulty) ∙ sym counted;
    greatest = refl;
    names = names_are;
    part_names = names-kept nodes f.names names_are;
  }

  pub few_names : length (kept nodes f.names) ≤ MOST_NODES
  few_names = omega (arith, kept_le nodes f.names, is.few)

-- ---- a journal that is written is accepted

module _ (f : System) (given : Given) (h : Header) (is : IsSystem f.names f.sets) (sorted : IsStrictlySortedBy name_cmp f.names) (size_is : length given.digest ≡ 32) (bytes : IsBytes given.digest) (head : IsHeader f h) (over : Over) (there : Stands f (part_from f h.from) over) where
  abbrev text : JournalLine → Text
  text line = text_over over (kept (part_from f h.from) f.names) line

  abbrev r : Rules
  r = rules_for over

  -- after these lines, which lead to the journal's first
  pub journal_accepted : (kind : ListKind) (new : Database) (journal : List JournalLine) (front : List Text) → AreLines front → Takes f given 5 (Going (AtKind (subject f h))) front (at_list (subject f h) over kind r.start [] 0)
      → ((which : Listed) (id : ℕ) (u : Table) → IsId id → IsLine (text (SetLine which id u))) → r.vars ≤ MOST_VARS → JournalRun r kind r.start journal new → FallOn over (part_from f h.from) [] journal
      → All HasLineNumbers journal → All (HasFewWords r.vars) journal → length front + length journal + 5 ≤ MAX_LINES → ListEndsAs kind journal
      → checked f given (joined (header_lines f.names given.digest h ++ (front ++ (map text journal ++ codes "end" ∷ [])))) ≡ Ok (record { header = h; answer = Reached (shown_over over (part_from f h.from) kind journal) })
  journal_accepted kind new journal front front_lines begins of_set small run falls numbers words few ends =
      let s = subject f h in
      let names_so = (stands f h is sorted head).names in
      let fine = both_all HasLineNumbers (HasFewWords r.vars) journal (recursion_from_All HasLineNumbers journal numbers) (recursion_from_All (HasFewWords r.vars) journal words) in
      let head_lines = header_lines f.names given.digest h in
      let texts = map text journal in
      let behind = texts ++ codes "end" ∷ [] in
      let body = front ++ behind in
      let shown : Accepted = record { header = h; answer = Reached (shown_over over s.nodes kind journal) } in
      let taken : Takes f given 5 (Going (AtKind s)) body (Done shown) =
      takes-append f given 5 (5 + length front) (Going (AtKind s)) (at_list s over kind r.start [] 0) (Done shown) front behind refl begins (takes_body f given s over there small kind (5 + length front) new journal run fine falls ends) in
      let whole = takes-append f given 1 5 (Going AtTitle) (Going (AtKind s)) (Done shown) head_lines body refl (takes_header f given h names_so size_is bytes head) taken in
      let last_line : IsLine (codes "end") = record { plain = is_plain (codes "end") refl; short = omega arith } in
      let of_journal : AreLines texts = lines_by r kind text r.start new journal of_set (of_steps over (kept (part_from f h.from) f.names)) small run fine in
      let lines : AreLines (head_lines ++ body) = are_lines-append head_lines body (lines_header f given.digest h names_so is.few size_is head) (are_lines-append front behind front_lines (are_lines-append texts (codes "end" ∷ []) of_journal (last_line, tt))) in
      let total : length (head_lines ++ body) ≤ MAX_LINES = omega (arith, length-append front behind, length-append texts (codes "end" ∷ []), length-map journal text, few) in
      accepted_text f given (head_lines ++ body) shown lines total whole
