-- The line of a listed set, taken.
use Rattle.std.proofs.Common.{◌≡◌, ℕ, ◌+◌, ◌≤◌, ◌<◌, List, ◌∷◌, length, Bool, true, false, not, ◌&&◌, ◌||◌, if◌then◌else◌, Option, Some, None, ok_or, Result, Ok, refl, sym, ◌∙◌, ap, subst, arith, codes, length-append}
use Rattle.std.specs.Fmt.{decimal}
use Rattle.std.specs.Str.{bytes_eq}
use Rattle.std.proofs.lemmas.Bool.{lt-ltb}
use Rattle.std.proofs.lemmas.Fmt.{length-decimal-le}
use Rattle.fbas_model.specs.Nodes.{Nodes, Table, members, ◌⊆◌, size}
use Rattle.fbas_model.specs.Fbas.{Fbas}
use Rattle.fbas_model.specs.Names.{Name}
use Rattle.fbas_model.specs.Systems.{System}
use Rattle.fbas_model.specs.Restriction.{kept}
use Rattle.fbas_model.proofs.Kept.{kept_le}
use Rattle.fbas_model.specs.declared.TheConstants.{MOST_NODES, MOST_ORGS}
use Rattle.lrat_model.specs.Literal.{Literal}
use Rattle.lrat_model.specs.Clauses.{Held}
use Rattle.lrat_model.specs.declared.step.StepFault.TheVariants.{IdOrder}
use Rattle.lrat_text.specs.Left.{spaced}
use Rattle.lrat_text.specs.Texts.{IsId}
use Rattle.lrat_text.proofs.TextLaws.{id_back}
use Rattle.greatest_quorum.specs.Greatest.{greatest_of}
use Rattle.enumeration_journal.specs.Kinds.{Is, is_sought}
use Rattle.enumeration_journal.specs.Journals.{RightFor, IsNewIf}
use Rattle.enumeration_journal.specs.Tests.{is_within, is_minimal}
use Rattle.enumeration_journal.proofs.Greatest.{counted_greatest}
use Rattle.least_journal.specs.Least.{last_of}
use Rattle.enumeration_journal.specs.declared.kinds.Listed.{Listed}
use Rattle.enumeration_journal.specs.declared.kinds.Listed.TheVariants as listed
use Rattle.enumeration_journal.proofs.Duality.{is_of, minimal_of, quorum_within}
use Rattle.enumeration_journal.proofs.TestLaws.{within_from, is_kind_from, minimal_from}
use Rattle.cert_lines.specs.Limits.{unless}
use Rattle.cert_lines.specs.Words.{Word, words_of, names_in}
use Rattle.cert_lines.specs.declared.faults.CertError.{CertError}
use Rattle.cert_lines.specs.declared.faults.CertError.TheVariants.{BadLine, UnknownNode, Step, NotMinimal, NotSmaller, NotNew}
use Rattle.certificate_file.specs.Acceptance.{take_line}
use Rattle.reach_kinds.specs.Bodies.{and_then, nodes_of, within, is_covered, rules_of, listed_by, asks_inside, is_listed_for, asks_minimal, asks_smaller, is_below, not_of, Numbered, numbered_if_any, numbered_in, right_set, new_set, with_listed, list_set, set_line as take_set_line, list_end, list_text}
use Rattle.certificate_file.specs.declared.given.Given.{Given}
use Rattle.certificate_file.specs.declared.places.Subject.{Subject}
use Rattle.reach_kinds.specs.declared.places.ListPart.{ListPart}
use Rattle.reach_kinds.specs.declared.places.Listing.{Listing}
use Rattle.certificate_file.specs.Acceptance.{in_reach}
use Rattle.certificate_file.specs.declared.places.Place.TheVariants.{AtReach}
use Rattle.reach_kinds.specs.declared.places.ReachPlace.TheVariants.{AtList}
use Rattle.reach_kinds.specs.declared.places.ReachState.{ReachState}
use Rattle.reach_kinds.specs.declared.places.ReachState.TheVariants.{Going}
use Rattle.certificate_file.specs.declared.places.State.TheVariants.{Going as Here}
use Rattle.reach_kinds.proofs.Inside.{apart_from_others}
use Rattle.cert_writer.specs.Texts.{Text, letter, set_line}
use Rattle.cert_writer.proofs.Joined.{IsLine}
use Rattle.cert_writer.proofs.Words.{IsWord, is_word, words_of-worded, plain-worded, length-spaced}
use Rattle.cert_writer.proofs.Names.{AreNames, AreListable, most_text_bytes, listable, texts-kept, words-texts, short-texts, names_in-kept, nodes_of-kept}
use Rattle.cert_writer.proofs.Raised.{spread, length-spread, kept-spread, not_others}
use Rattle.cert_writer.proofs.RaisedOrder.{kept_of_spread}
use Rattle.cert_writer.proofs.Pairs.{out_spread}
use Rattle.cert_writer.proofs.Runs.{new_uncovered}
use Rattle.cert_writer.proofs.StepLines.{decimal_word}

-- ---- the words

letter_word : (which : Listed) → IsWord (letter which)
letter_word listed.Quorum = is_word (codes "q") refl
letter_word listed.Blocking = is_word (codes "b") refl
letter_word listed.Smaller = is_word (codes "s") refl

letter_short : (which : Listed) → length (letter which) ≤ 1
letter_short listed.Quorum = omega arith
letter_short listed.Blocking = omega arith
letter_short listed.Smaller = omega arith

listed_letter : (sought which : Listed) (p : ListPart) (set : Table) (words : List Word) → (rules_of sought p).IsRight which set → listed_by sought (letter which ∷ words) ≡ Some which
listed_letter listed.Quorum listed.Quorum p set words is = refl
listed_letter listed.Quorum listed.Blocking p set words is = refl
listed_letter listed.Quorum listed.Smaller p set words is = absurd is.1.0
listed_letter listed.Blocking listed.Quorum p set words is = refl
listed_letter listed.Blocking listed.Blocking p set words is = refl
listed_letter listed.Blocking listed.Smaller p set words is = absurd is.1.0
listed_letter listed.Smaller listed.Quorum p set words is = absurd is
listed_letter listed.Smaller listed.Blocking p set words is = refl
listed_letter listed.Smaller listed.Smaller p set words is = refl

pub not_end : (which : Listed) (id : ℕ) (names : List Name) (set : Table) → bytes_eq (set_line (letter which) id names set) (codes "end") ≡ false
not_end listed.Quorum id names set = refl
not_end listed.Blocking id names set = refl
not_end listed.Smaller id names set = refl

pub set_words : (which : Listed) (id : ℕ) (names : List Name) (set : Table) → AreListable names → IsId id → words_of (set_line (letter which) id names set) ≡ letter which ∷ decimal id ∷ kept set names
set_words which id names set are is = words_of-worded (letter which) (decimal id ∷ kept set names) (letter_word which) (decimal_word id (omega (arith, is.1)), words-texts (kept set names) (texts-kept set names are.texts))

pub numbered : (which : Listed) (id : ℕ) (names : List Name) (set : Table) → AreListable names → IsId id → numbered_in (letter which ∷ decimal id ∷ kept set names) ≡ Some (record { id = id; names = kept set names })
numbered which id names set are is =
    ap (λ (o : Option ℕ). numbered_if_any o (names_in (kept set names))) (id_back id is).0
    ∙ ap (λ (o : Option (List Name)). numbered_if_any (Some id) o) (names_in-kept names set are)

-- ---- it is a line

pub line_set : (which : Listed) (id : ℕ) (names : List Name) (set : Table) → AreListable names → length names ≤ MOST_NODES + MOST_ORGS → IsId id → IsLine (set_line (letter which) id names set)
line_set which id names set are few is = record {
  plain = plain-worded (letter which) (decimal id ∷ kept set names) (letter_word which) (decimal_word id (omega (arith, is.1)), words-texts (kept set names) (texts-kept set names are.texts));
  short =
      let head : length (decimal id) ≤ 19 = length-decimal-le 19 id (omega arith) (omega (arith, is.1)) (omega (arith, is.1)) in
      let rest = length-spaced most_text_bytes (kept set names) (short-texts (kept set names) (texts-kept set names are.texts)) in
      omega (arith, letter_short which, head, rest, kept_le set names, length-append (letter which) (spaced (decimal id ∷ kept set names)), length-append (decimal id) (spaced (kept set names)));
}

-- ---- the set

pub within_part : (nodes : Table) (l : ℕ) (set : Table) → within nodes l (spread nodes set) ≡ Ok (spread nodes set)
within_part nodes l set = apart_from_others nodes l (spread nodes set) (λ m. not_others nodes m.0 m.2 (out_spread nodes set m.0 m.1).0)

-- the set is what it is listed for in the part
abbrev pub IsRightIn : Listing → Listed → Table → Type 0
IsRightIn k which set = (rules_of k.sought k.part).IsRight which set

pub right_places : (sought which : Listed) (p : ListPart) (s : Table) → (rules_of sought p).IsRight which s → length s ≡ length p.system.sets
right_places listed.Quorum which p s is = is.0
right_places listed.Blocking which p s is = is.0
right_places listed.Smaller listed.Quorum p s is = absurd is
right_places listed.Smaller listed.Blocking p s is = is.0
right_places listed.Smaller listed.Smaller p s is = is.0

-- it passes each test that is asked
passes_inside : (sought which : Listed) (p : ListPart) (s : Table) → length p.faulty ≡ length p.system.sets → p.greatest ≡ greatest_of p.system.sets p.faulty → (rules_of sought p).IsRight which s → (not (asks_inside sought which) || is_within s p.greatest) ≡ true
passes_inside listed.Quorum listed.Quorum p s same greatest is = refl
passes_inside listed.Quorum listed.Blocking p s same greatest is = within_from s p.greatest is.1.1
passes_inside listed.Quorum listed.Smaller p s same greatest is = refl
passes_inside listed.Blocking which p s same greatest is = refl
passes_inside listed.Smaller listed.Quorum p s same greatest is = absurd is
passes_inside listed.Smaller listed.Blocking p s same greatest is = within_from s p.greatest is.2
passes_inside listed.Smaller listed.Smaller p s same greatest is =
    within_from s p.greatest (subst (λ (g : Table). members s ⊆ members g) (sym greatest) (quorum_within p.system.sets (members p.faulty) (greatest_of p.system.sets p.faulty) (members s) (counted_greatest p.system.sets p.faulty same) is.1))

kind_of_right : (asked : Bool) (which : Listed) (f : Fbas) (b : Nodes) (g s : Table) → RightFor asked which f b g s → Is which f b (members s)
kind_of_right true which f b g s is = is_of which f b (members s) is
kind_of_right false which f b g s is = is.0

passes_kind : (sought which : Listed) (p : ListPart) (s : Table) → length p.faulty ≡ length p.system.sets → (rules_of sought p).IsRight which s → is_listed_for sought which p.system.sets p.faulty s ≡ true
passes_kind listed.Quorum which p s same is = is_kind_from which p.system.sets p.faulty s same is.0 (kind_of_right (is_sought listed.Quorum which) which p.system.sets (members p.faulty) p.greatest s is.1)
passes_kind listed.Blocking which p s same is = is_kind_from which p.system.sets p.faulty s same is.0 (kind_of_right (is_sought listed.Blocking which) which p.system.sets (members p.faulty) p.greatest s is.1)
passes_kind listed.Smaller listed.Quorum p s same is = absurd is
passes_kind listed.Smaller listed.Blocking p s same is = is_kind_from listed.Blocking p.system.sets p.faulty s same is.0 is.1
passes_kind listed.Smaller listed.Smaller p s same is = is_kind_from listed.Quorum p.system.sets p.faulty s same is.0 is.1

minimal_if : (asked : Bool) (which : Listed) (f : Fbas) (b g s : Table) → length b ≡ length f → RightFor asked which f (members b) g s → (not asked || is_minimal which f b s) ≡ true
minimal_if true which f b g s same is = minimal_from which f b s same (λ t inside one. minimal_of which f (members b) (members s) t is inside one)
minimal_if false which f b g s same is = refl

passes_minimal : (sought which : Listed) (p : ListPart) (s : Table) → length p.faulty ≡ length p.system.sets → (rules_of sought p).IsRight which s → (not (asks_minimal sought which) || is_minimal which p.system.sets p.faulty s) ≡ true
passes_minimal listed.Quorum which p s same is = minimal_if (is_sought listed.Quorum which) which p.system.sets p.faulty p.greatest s same is.1
passes_minimal listed.Blocking which p s same is = minimal_if (is_sought listed.Blocking which) which p.system.sets p.faulty p.greatest s same is.1
passes_minimal listed.Smaller which p s same is = refl

-- it is smaller than the one that is listed last, where that is asked
abbrev pub IsSmallerIn : Listing → Listed → Table → Type 0
IsSmallerIn k which set = (not (asks_smaller k.sought which) || is_below (size set) (last_of None k.sets)) ≡ true

right : (k : Listing) (l : ℕ) (which : Listed) (set : Table) → length k.part.faulty ≡ length k.part.system.sets → k.part.greatest ≡ greatest_of k.part.system.sets k.part.faulty → IsRightIn k which set → IsSmallerIn k which set → right_set k l which set ≡ Ok set
right k l which set same greatest is smaller =
    let f : Fbas = k.part.system.sets in
    let b : Table = k.part.faulty in
    let below : Bool = not (asks_smaller k.sought which) || is_below (size set) (last_of None k.sets) in
    let last : Result Table CertError = unless (NotSmaller l) below (Ok set) in
    let minimal : Result Table CertError = unless (NotMinimal l) (not (asks_minimal k.sought which) || is_minimal which f b set) last in
    ap (λ (x : Bool). unless (UnknownNode l) x (unless (not_of l which) (is_listed_for k.sought which f b set) minimal)) (passes_inside k.sought which k.part set same greatest is)
    ∙ ap (λ (x : Bool). unless (not_of l which) x minimal) (passes_kind k.sought which k.part set same is)
    ∙ ap (λ (x : Bool). unless (NotMinimal l) x last) (passes_minimal k.sought which k.part set same is)
    ∙ ap (λ (x : Bool). unless (NotSmaller l) x (Ok set)) smaller

-- its clause is as new as the kind asks
pub uncovered : (asked : Bool) (held : Held) (id : ℕ) (clause : List Literal) → IsNewIf asked held clause → (asked && is_covered held id clause) ≡ false
uncovered true held id clause new = new_uncovered held id clause new
uncovered false held id clause new = refl

-- as the list asks
abbrev pub IsNewIn : Listing → Listed → Table → Type 0
IsNewIn k which set = IsNewIf ((rules_of k.sought k.part).asks k.kind which) k.checker.database.held ((rules_of k.sought k.part).clause which set)

new : (k : Listing) (l : ℕ) (which : Listed) (id : ℕ) (set : Table) → IsNewIn k which set → new_set k l which id set ≡ Ok set
new k l which id set is = ap (λ (b : Bool). unless (NotNew l) (not b) (Ok set)) (uncovered ((rules_of k.sought k.part).asks k.kind which) k.checker.database.held id ((rules_of k.sought k.part).clause which set) is)

-- ---- the line

-- what is so of a part: it lies in the system at these nodes, and its greatest quorum is known
pub record StandsAt (f : System) (nodes : Table) (part : ListPart) : Type 0 where
  pub places : length nodes ≡ length f.names
  pub count : length part.system.sets ≡ size nodes
  pub same : length part.faulty ≡ length part.system.sets
  pub greatest : part.greatest ≡ greatest_of part.system.sets part.faulty
  pub names : AreNames f.names
  pub part_names : AreNames (kept nodes f.names)

module _ (f : System) (s : Subject) (k : Listing) (l : ℕ) (which : Listed) (id : ℕ) (set : Table) (stands : StandsAt f s.nodes k.part) (above : k.checker.database.last < id) (is_right : IsRightIn k which set) (is_smaller : IsSmallerIn k which set) (is_new : IsNewIn k which set) where
  -- what is awaited after the line
  abbrev next : Table → ReachState
  next w = Going (AtList (with_listed k which id (spread s.nodes set) w))

  set_listed : list_set s.nodes k l which id (spread s.nodes set) ≡ Ok (next set)
  set_listed =
      ap (λ (t : Table). and_then (λ w. Ok (next w)) (and_then (new_set k l which id) (right_set k l which t))) (kept_of_spread s.nodes set (right_places k.sought which k.part set is_right ∙ stands.count))
      ∙ ap (λ (r : Result Table CertError). and_then (λ w. Ok (next w)) (and_then (new_set k l which id) r)) (right k l which set stands.same stands.greatest is_right is_smaller)
      ∙ ap (λ (r : Result Table CertError). and_then (λ w. Ok (next w)) r) (new k l which id set is_new)

  set_taken : take_set_line f s.nodes k l which (record { id = id; names = kept set (kept s.nodes f.names) }) ≡ Ok (next set)
  set_taken =
      let u : Table = spread s.nodes set in
      let names : List Name = kept set (kept s.nodes f.names) in
      ap (λ (b : Bool). unless (Step l (IdOrder k.checker.database.last id)) b (and_then (list_set s.nodes k l which id) (and_then (within s.nodes l) (nodes_of f.names l names)))) (lt-ltb k.checker.database.last id above)
      ∙ ap (λ (ns : List Name). and_then (list_set s.nodes k l which id) (and_then (within s.nodes l) (nodes_of f.names l ns))) (kept-spread s.nodes set f.names)
      ∙ ap (λ (r : Result Table CertError). and_then (list_set s.nodes k l which id) (and_then (within s.nodes l) r)) (nodes_of-kept f.names l u stands.names.sorted (length-spread s.nodes set ∙ stands.places))
      ∙ ap (λ (r : Result Table CertError). and_then (list_set s.nodes k l which id) r) (within_part s.nodes l set)
      ∙ set_listed

  pub set_line_taken : (given : Given) → IsId id → take_line f given (AtReach s (AtList k)) l (set_line (letter which) id (kept s.nodes f.names) set) ≡ Ok (Here (AtReach s (AtList (with_listed k which id (spread s.nodes set) set))))
  unfolding take_line
  set_line_taken given is =
      let names : List Name = kept s.nodes f.names in
      let text : Text = set_line (letter which) id names set in
      let names_are : AreListable names = listable names stands.part_names in
      let words : words_of text ≡ letter which ∷ decimal id ∷ kept set names = set_words which id names set names_are is in
      ap (λ (b : Bool). and_then (λ x. Ok (in_reach s x)) (if b then list_end k.kind k l else list_text f s.nodes k l text (listed_by k.sought (words_of text)))) (not_end which id names set)
      ∙ ap (λ (ws : List Word). and_then (λ x. Ok (in_reach s x)) (list_text f s.nodes k l text (listed_by k.sought ws))) words
      ∙ ap (λ (o : Option Listed). and_then (λ x. Ok (in_reach s x)) (list_text f s.nodes k l text o)) (listed_letter k.sought which k.part set (decimal id ∷ kept set names) is_right)
      ∙ ap (λ (ws : List Word). and_then (λ x. Ok (in_reach s x)) (and_then (take_set_line f s.nodes k l which) (ok_or (numbered_in ws) (BadLine l)))) words
      ∙ ap (λ (o : Option Numbered). and_then (λ x. Ok (in_reach s x)) (and_then (take_set_line f s.nodes k l which) (ok_or o (BadLine l)))) (numbered which id names set names_are is)
      ∙ ap (λ (r : Result ReachState CertError). and_then (λ x. Ok (in_reach s x)) r) set_taken
