-- A list of blocking sets of groups that is written is accepted.
use Rattle.std.proofs.Common.{◌≡◌, ℕ, ◌+◌, ◌*◌, ◌≤◌, Bool, List, [], ◌∷◌, length, map-id, Option, Some, ok_or, Ok, refl, sym, ◌∙◌, ap, subst, arith, codes, length-append}
use Rattle.std.specs.List.{All}
use Rattle.std.specs.List.Sorted.{IsStrictlySortedBy}
use Rattle.std.proofs.lemmas.List.{length-map}
use Rattle.std.proofs.lemmas.List.Elements.{All-map}
use Rattle.hex.specs.Hex.{IsBytes, encode_lower}
use Rattle.hex.proofs.HexLemmas.{decode_sized-encode_lower, length-encode_with}
use Rattle.hex.specs.Hex.{lower_digits}
use Rattle.lrat_text.specs.Left.{spaced}
use Rattle.lrat_text.specs.Texts.{IsId}
use Rattle.fbas_model.specs.Nodes.{Table, size}
use Rattle.fbas_model.specs.Names.{Name, name_cmp}
use Rattle.fbas_model.specs.Systems.{System, IsSystem}
use Rattle.fbas_model.specs.Restriction.{kept, restricted}
use Rattle.fbas_model.proofs.Kept.{length-kept}
use Rattle.fbas_model.proofs.Closure.{size_le_length}
use Rattle.fbas_model.specs.declared.TheConstants.{MOST_NODES, MOST_ORGS}
use Rattle.greatest_quorum.specs.Greatest.{greatest_of}
use Rattle.lrat_model.specs.Steps.{Database}
use Rattle.enumeration_journal.specs.Journals.{JournalLine, JournalRun, nothing_held, sets_in}
use Rattle.enumeration_journal.specs.Order.{ordered}
use Rattle.enumeration_journal.specs.declared.kinds.ListKind.{ListKind}
use Rattle.enumeration_journal.specs.declared.kinds.ListKind.TheVariants.{Whole, Partial as Part}
use Rattle.enumeration_journal.specs.declared.kinds.Listed.{Listed}
use Rattle.enumeration_journal.specs.declared.kinds.Listed.TheVariants as listed
use Rattle.node_json.specs.Groups.{Group, groups_of, tables_of, texts_of}
use Rattle.node_json.proofs.GroupNodes.{groups_sized, few_groups}
use Rattle.group_journal.specs.Groups.{touching}
use Rattle.group_journal.proofs.Touched.{length-touching}
use Rattle.group_lists.specs.Search.{group_rules}
use Rattle.blocking_lists.specs.Lines.{HasLineNumbers, HasFewWords}
use Rattle.clause_encoder.specs.declared.limits.TheConstants.{MOST_VARS}
use Rattle.cert_lines.specs.Limits.{unless}
use Rattle.cert_lines.specs.Words.{orgs_digest_in}
use Rattle.cert_lines.specs.declared.faults.CertError.TheVariants.{BadLine, OrgsDigest}
use Rattle.cert_lines.specs.declared.lines.TheConstants.{MAX_LINES}
use Rattle.reach_kinds.specs.Bodies.{and_then}
use Rattle.reach_kinds.specs.GroupBodies.{group_part, rules_over, groups_begin}
use Rattle.certificate_file.specs.Acceptance.{take_line, checked, orgs_found}
use Rattle.certificate_file.specs.Meaning.{part_from}
use Rattle.certificate_file.specs.declared.given.Given.{Given}
use Rattle.certificate_file.specs.declared.given.GivenOrgs.{GivenOrgs}
use Rattle.certificate_file.specs.declared.places.Header.{Header}
use Rattle.certificate_file.specs.declared.places.Subject.{Subject}
use Rattle.certificate_file.specs.declared.places.Conclusion.{Conclusion}
use Rattle.certificate_file.specs.declared.places.Conclusion.TheVariants.{Reached}
use Rattle.reach_kinds.specs.Kinds.{kind_word}
use Rattle.reach_kinds.specs.declared.kinds.ReachKind.TheVariants.{Groups}
use Rattle.reach_kinds.specs.declared.places.Reached.TheVariants.{OrgBlocking}
use Rattle.certificate_file.specs.declared.places.Place.TheVariants.{AtOrgs, AtReach}
use Rattle.certificate_file.specs.declared.places.State.TheVariants.{Going}
use Rattle.reach_kinds.specs.declared.places.GroupPart.{GroupPart}
use Rattle.cert_writer.specs.Texts.{letter, set_line, kind_line, orgs_line, names_for, group_text}
use Rattle.cert_writer.specs.Promises.{IsHeader, AreOrgs, subject, part_of, faulty_in, ListEndsAs, groups_in, group_rules_in, shown_by_groups, IsGroupJournalOf}
use Rattle.cert_writer.proofs.Joined.{IsLine}
use Rattle.cert_writer.proofs.Words.{IsWord, is_word, same_text, words_of-worded, plain-worded}
use Rattle.cert_writer.proofs.Names.{AreListable, listable}
use Rattle.cert_writer.proofs.KindLines.{line_body, body_taken}
use Rattle.cert_writer.proofs.Headers.{digits_word}
use Rattle.cert_writer.proofs.Pairs.{part_is_restricted}
use Rattle.cert_writer.proofs.SetLines.{StandsAt, line_set}
use Rattle.cert_writer.proofs.OrgKeys.{AreRead, orgs_read}
use Rattle.cert_writer.proofs.GroupTexts.{groups_listable}
use Rattle.cert_writer.proofs.GroupLines.{IsOver}
use Rattle.cert_writer.proofs.JournalRuns.{OfGroups, shown_over, at_list}
use Rattle.cert_writer.proofs.JournalLaws.{stands, few_names, journal_accepted}
use Rattle.cert_writer.proofs.ListLaws.{lists_fall}

-- ---- the digest of the organisations' file

is_orgs : IsWord (codes "orgs")
is_orgs = is_word (codes "orgs") refl

digest_back : (digest : List ℕ) → length digest ≡ 32 → IsBytes digest → orgs_digest_in (orgs_line digest) ≡ Some digest
digest_back digest long bytes =
    rw (words_of-worded (codes "orgs") (encode_lower digest ∷ []) is_orgs (digits_word digest, tt), decode_sized-encode_lower digest 32 long bytes, same_text (encode_lower digest)) refl

line_orgs : (digest : List ℕ) → length digest ≡ 32 → IsLine (orgs_line digest)
line_orgs digest long = record {
  plain = plain-worded (codes "orgs") (encode_lower digest ∷ []) is_orgs (digits_word digest, tt);
  short =
      let twice : length (encode_lower digest) ≡ 2 * length digest = length-encode_with lower_digits digest in
      omega (arith, length-append (codes "orgs") (spaced (encode_lower digest ∷ [])), length-append (encode_lower digest) [], twice, long);
}

orgs_taken : (f : System) (given : Given) (s : Subject) (kind : ListKind) (orgs : GivenOrgs) → given.orgs ≡ Some orgs → length orgs.digest ≡ 32 → IsBytes orgs.digest
    → take_line f given (AtOrgs kind s) 6 (orgs_line orgs.digest) ≡ Ok (Going (AtReach s (groups_begin f kind s.nodes s.header.faulty orgs.orgs)))
unfolding take_line
orgs_taken f given s kind orgs is long bytes =
    ap (λ (o : Option (List ℕ)). and_then (orgs_found f kind s given.orgs) (ok_or o (BadLine 6))) (digest_back orgs.digest long bytes)
    ∙ ap (λ (o : Option GivenOrgs). orgs_found f kind s o orgs.digest) is
    ∙ ap (λ (b : Bool). unless (OrgsDigest orgs.digest orgs.digest) b (Ok (Going (AtReach s (groups_begin f kind s.nodes s.header.faulty orgs.orgs))))) (same_text orgs.digest)

-- ---- each set's line is one

line_of_set : (names texts : List Name) → AreListable names → AreListable texts → length names ≤ MOST_NODES + MOST_ORGS → length texts ≤ MOST_NODES + MOST_ORGS
    → (which : Listed) (id : ℕ) (u : Table) → IsId id → IsLine (set_line (letter which) id (names_for which names texts) u)
line_of_set names texts are those few many listed.Quorum id u is = line_set listed.Quorum id names u are few is
line_of_set names texts are those few many listed.Blocking id u is = line_set listed.Blocking id texts u those many is
line_of_set names texts are those few many listed.Smaller id u is = line_set listed.Smaller id names u are few is

-- ---- a journal that is written is accepted

module _ (f : System) (given : Given) (h : Header) (is : IsSystem f.names f.sets) (sorted : IsStrictlySortedBy name_cmp f.names) (size_is : length given.digest ≡ 32) (bytes : IsBytes given.digest) (head : IsHeader f h) (orgs : GivenOrgs) (given_is : given.orgs ≡ Some orgs) (are_orgs : AreOrgs f orgs) where
  -- the nodes of the part, and the part with its groups
  abbrev nodes : Table
  nodes = part_from f h.from

  abbrev p : GroupPart
  p = group_part f nodes h.faulty orgs.orgs

  part : StandsAt f nodes p.part
  part = stands f h is sorted head

  read : AreRead orgs.orgs
  read = orgs_read f.names are_orgs.file orgs.orgs are_orgs.read

  few_nodes : length (kept nodes f.names) ≤ MOST_NODES
  few_nodes = few_names f h is sorted head

  few_texts : length (texts_of p.groups) ≤ MOST_NODES + MOST_ORGS
  unfolding groups_of
  few_texts = omega (arith, length-map p.groups (λ (g : Group). g.text), few_groups f.names (kept nodes f.names) orgs.orgs, few_nodes, read.few)

  small : (rules_over p).vars ≤ MOST_VARS
  small = omega (arith, size_le_length (touching (tables_of p.groups) p.part.greatest), length-touching (tables_of p.groups) p.part.greatest, length-map p.groups (λ (g : Group). g.members), length-map p.groups (λ (g : Group). g.text), few_texts)

  sized : All (λ (t : Table). length t ≡ length p.part.system.sets) (tables_of p.groups)
  unfolding groups_of
  sized =
      let named = length-kept nodes f.names part.places ∙ sym part.count in
      subst (λ (n : ℕ). All (λ (t : Table). length t ≡ n) (tables_of p.groups)) named (All-map (λ (t : Table). length t ≡ length (kept nodes f.names)) (λ (g : Group). g.members) p.groups (groups_sized f.names (kept nodes f.names) orgs.orgs))

  over : IsOver f nodes p
  over = record {
    part = part;
    sized = sized;
    touched = refl;
    texts = groups_listable f.names (kept nodes f.names) orgs.orgs part.part_names.keys part.part_names.sorted read.keys;
  }

  -- over a system of the part
  abbrev gone : Table
  gone = faulty_in f h

  abbrev groups_over : System → List Group
  groups_over x = groups_of f.names x.names orgs.orgs

  abbrev GroupsSo : ListKind → List JournalLine → Database → System → Type 0
  GroupsSo kind journal new x =
      JournalRun (group_rules x.sets gone (tables_of (groups_over x))) kind nothing_held journal new → All (HasFewWords (size (touching (tables_of (groups_over x)) (greatest_of x.sets gone)))) journal
      → checked f given (group_text f.names x.names given.digest h (texts_of (groups_over x)) orgs.digest kind journal) ≡ Ok (record { header = h; answer = shown_by_groups (groups_over x) (group_rules x.sets gone (tables_of (groups_over x))) kind journal })

  groups_so : (kind : ListKind) (journal : List JournalLine) (new : Database) → All HasLineNumbers journal → length journal + 7 ≤ MAX_LINES → ListEndsAs kind journal → GroupsSo kind journal new (restricted nodes f)
  groups_so kind journal new numbers few ends run words =
      let s = subject f h in
      let place = at_list s (OfGroups p) kind nothing_held [] 0 in
      let of_set = line_of_set (kept nodes f.names) (texts_of p.groups) (listable (kept nodes f.names) part.part_names) over.texts (omega (arith, few_nodes)) few_texts in
      journal_accepted f given h is sorted size_is bytes head (OfGroups p) over kind new journal (kind_line (kind_word Groups kind) ∷ orgs_line orgs.digest ∷ []) (line_body Groups kind, (line_orgs orgs.digest are_orgs.long, tt))
      (Going (AtOrgs kind s), body_taken f given s Groups kind refl, (place, orgs_taken f given s kind orgs given_is are_orgs.long are_orgs.bytes, refl))
      of_set small run (lists_fall (OfGroups p) tt nodes [] journal) numbers words (omega (arith, few)) ends
      ∙ ap (λ (a : Conclusion). Ok (record { header = h; answer = a })) (as_listed kind)
    where
      as_listed : (kind : ListKind) → Reached (shown_over (OfGroups p) nodes kind journal) ≡ shown_by_groups p.groups (rules_over p) kind journal
      as_listed Whole = ap (λ (xs : List Table). Reached (OrgBlocking p.groups (ordered xs))) (map-id (sets_in listed.Blocking journal))
      as_listed Part = refl

  -- over the groups of the part
  abbrev AcceptedOver : ListKind → List JournalLine → List Group → Type 0
  AcceptedOver kind journal groups = IsGroupJournalOf f h groups kind journal → checked f given (group_text f.names (part_of f h.from).names given.digest h (texts_of groups) orgs.digest kind journal) ≡ Ok (record { header = h; answer = shown_by_groups groups (group_rules_in f h groups) kind journal })

  over_groups : (kind : ListKind) (journal : List JournalLine) → AcceptedOver kind journal (groups_in f h orgs.orgs)
  over_groups kind journal j = subst (GroupsSo kind journal j.new) (sym (part_is_restricted f h.from is)) (groups_so kind journal j.new j.numbers j.few j.ends) j.run j.few_words

  pub groups_of_accepted : (groups : List Group) → groups ≡ groups_in f h orgs.orgs → (x : System) (kind : ListKind) (journal : List JournalLine) → x ≡ part_of f h.from → IsGroupJournalOf f h groups kind journal
      → checked f given (group_text f.names x.names given.digest h (texts_of groups) orgs.digest kind journal) ≡ Ok (record { header = h; answer = shown_by_groups groups (group_rules_in f h groups) kind journal })
  groups_of_accepted groups groups_are x kind journal x_is j =
      ap (λ (y : System). checked f given (group_text f.names y.names given.digest h (texts_of groups) orgs.digest kind journal)) x_is
      ∙ subst (AcceptedOver kind journal) (sym groups_are) (over_groups kind journal) j
