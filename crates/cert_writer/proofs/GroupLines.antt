-- The line of a listed set where blocking sets are sets of groups, taken.
use Rattle.std.proofs.Common.{◌≡◌, ℕ, ◌<◌, List, ◌∷◌, length, Bool, not, if◌then◌else◌, Option, Some, ok_or, Result, Ok, refl, sym, ◌∙◌, ap, subst}
use Rattle.std.specs.Prelude.{All}
use Rattle.std.specs.Fmt.{decimal}
use Rattle.std.proofs.lemmas.Bool.{lt-ltb}
use Rattle.std.proofs.lemmas.List.{length-map}
use Rattle.fbas_model.specs.Nodes.{Table, members, ◌⊆◌}
use Rattle.fbas_model.specs.Fbas.{Fbas}
use Rattle.fbas_model.specs.Names.{Name}
use Rattle.fbas_model.specs.Systems.{System}
use Rattle.fbas_model.specs.Restriction.{kept}
use Rattle.lrat_model.specs.declared.step.StepFault.TheVariants.{IdOrder}
use Rattle.lrat_text.specs.Texts.{IsId}
use Rattle.enumeration_journal.specs.Journals.{IsNewIf}
use Rattle.enumeration_journal.specs.declared.kinds.Listed.{Listed}
use Rattle.enumeration_journal.specs.declared.kinds.Listed.TheVariants as listed
use Rattle.enumeration_journal.proofs.TestLaws.{is_kind_from}
use Rattle.node_json.specs.Groups.{Group, tables_of, texts_of}
use Rattle.group_journal.specs.Groups.{touching}
use Rattle.group_journal.specs.Tests.{is_least_block}
use Rattle.group_journal.proofs.Decided.{group_block_from, least_from}
use Rattle.cert_lines.specs.Limits.{unless}
use Rattle.cert_lines.specs.Words.{Word, words_of}
use Rattle.cert_lines.specs.declared.faults.CertError.{CertError}
use Rattle.cert_lines.specs.declared.faults.CertError.TheVariants.{BadLine, NotQuorum, NotBlocking, NotMinimal, Step, NotNew}
use Rattle.certificate_file.specs.Acceptance.{take_line, in_reach}
use Rattle.reach_kinds.specs.Bodies.{and_then, nodes_of, within, listed_by, Numbered, numbered_in}
use Rattle.reach_kinds.specs.GroupBodies.{rules_over, quorum_in, block_in, listed_set, with_group_set, list_group_set, group_set_line, group_end, group_text}
use Rattle.certificate_file.specs.declared.given.Given.{Given}
use Rattle.certificate_file.specs.declared.places.Subject.{Subject}
use Rattle.certificate_file.specs.declared.places.Place.TheVariants.{AtReach}
use Rattle.certificate_file.specs.declared.places.State.TheVariants.{Going as Here}
use Rattle.reach_kinds.specs.declared.places.GroupPart.{GroupPart}
use Rattle.reach_kinds.specs.declared.places.GroupListing.{GroupListing}
use Rattle.reach_kinds.specs.declared.places.ReachPlace.TheVariants.{AtGroups}
use Rattle.reach_kinds.specs.declared.places.ReachState.{ReachState}
use Rattle.reach_kinds.specs.declared.places.ReachState.TheVariants.{Going}
use Rattle.reach_kinds.proofs.Inside.{apart_from_others}
use Rattle.cert_writer.specs.Texts.{Text, letter, set_line, names_for}
use Rattle.cert_writer.proofs.Names.{AreListable, listable, nodes_of-kept}
use Rattle.cert_writer.proofs.Raised.{spread, length-spread, kept-spread, not_others}
use Rattle.cert_writer.proofs.RaisedOrder.{kept_of_spread}
use Rattle.cert_writer.proofs.SetLines.{StandsAt, set_words, numbered, not_end, within_part, uncovered}

-- what is so of a part with groups, which are such as lines may name
pub record IsOver (f : System) (nodes : Table) (p : GroupPart) : Type 0 where
  pub part : StandsAt f nodes p.part
  pub sized : All (λ (t : Table). length t ≡ length p.part.system.sets) (tables_of p.groups)
  pub touched : p.touched ≡ touching (tables_of p.groups) p.part.greatest
  pub texts : AreListable (texts_of p.groups)

-- a set inside another is within it
inside_of : (touched : Table) (l : ℕ) (set : Table) → members set ⊆ members touched → within touched l set ≡ Ok set
inside_of touched l set inside = apart_from_others touched l set (λ m. not_others touched m.0 m.2 (inside m.0 m.1))

module _ (f : System) (s : Subject) (k : GroupListing) (l : ℕ) (is : IsOver f s.nodes k.over) where
  -- what is listed for what is right by the rules
  abbrev pub IsRightOver : Listed → Table → Type 0
  IsRightOver which set = (rules_over k.over).IsRight which set

  -- what a set of the kind names
  abbrev pub names_over : Listed → List Name
  names_over which = names_for which (kept s.nodes f.names) (texts_of k.over.groups)

  abbrev sets : Fbas
  sets = k.over.part.system.sets

  abbrev faulty : Table
  faulty = k.over.part.faulty

  abbrev tables : List Table
  tables = tables_of k.over.groups

  pub listable_over : (which : Listed) → AreListable (names_over which)
  listable_over listed.Quorum = listable (kept s.nodes f.names) is.part.part_names
  listable_over listed.Blocking = is.texts
  listable_over listed.Smaller = listable (kept s.nodes f.names) is.part.part_names

  quorum_there : (set : Table) → IsRightOver listed.Quorum set → listed_set f s.nodes k.over l listed.Quorum (kept set (kept s.nodes f.names)) ≡ Ok set
  quorum_there set right =
      let u : Table = spread s.nodes set in
      ap (λ (ns : List Name). and_then (λ w. quorum_in k.over l (kept s.nodes w)) (and_then (within s.nodes l) (nodes_of f.names l ns))) (kept-spread s.nodes set f.names)
      ∙ ap (λ (r : Result Table CertError). and_then (λ w. quorum_in k.over l (kept s.nodes w)) (and_then (within s.nodes l) r)) (nodes_of-kept f.names l u is.part.names.sorted (length-spread s.nodes set ∙ is.part.places))
      ∙ ap (λ (r : Result Table CertError). and_then (λ w. quorum_in k.over l (kept s.nodes w)) r) (within_part s.nodes l set)
      ∙ ap (λ (t : Table). quorum_in k.over l t) (kept_of_spread s.nodes set (right.0 ∙ is.part.count))
      ∙ ap (λ (b : Bool). unless (NotQuorum l) b (Ok set)) (is_kind_from listed.Quorum sets faulty set is.part.same right.0 right.1)

  block_there : (set : Table) → IsRightOver listed.Blocking set → listed_set f s.nodes k.over l listed.Blocking (kept set (texts_of k.over.groups)) ≡ Ok set
  block_there set right =
      let least : Result Table CertError = unless (NotMinimal l) (is_least_block sets faulty tables set) (Ok set) in
      let places : length set ≡ length (texts_of k.over.groups) = right.places ∙ length-map k.over.groups (λ (g : Group). g.members) ∙ sym (length-map k.over.groups (λ (g : Group). g.text)) in
      let inside : members set ⊆ members k.over.touched = subst (λ (t : Table). members set ⊆ members t) (sym is.touched) right.useful in
      ap (λ (r : Result Table CertError). and_then (block_in k.over l) (and_then (within k.over.touched l) r)) (nodes_of-kept (texts_of k.over.groups) l set is.texts.sorted places)
      ∙ ap (λ (r : Result Table CertError). and_then (block_in k.over l) r) (inside_of k.over.touched l set inside)
      ∙ ap (λ (b : Bool). unless (NotBlocking l) b least) (group_block_from sets faulty tables is.part.same is.sized set right.minimal.blocks)
      ∙ ap (λ (b : Bool). unless (NotMinimal l) b (Ok set)) (least_from sets faulty tables is.part.same is.sized set right.minimal.least)

  set_there : (which : Listed) (set : Table) → IsRightOver which set → listed_set f s.nodes k.over l which (kept set (names_over which)) ≡ Ok set
  set_there listed.Quorum set right = quorum_there set right
  set_there listed.Blocking set right = block_there set right
  set_there listed.Smaller set right = absurd right

  by_letter : (which : Listed) (set : Table) (words : List Word) → IsRightOver which set → listed_by listed.Blocking (letter which ∷ words) ≡ Some which
  by_letter listed.Quorum set words right = refl
  by_letter listed.Blocking set words right = refl
  by_letter listed.Smaller set words right = absurd right

  -- its clause is as new as the list asks
  abbrev pub IsNewOver : Listed → Table → Type 0
  IsNewOver which set = IsNewIf ((rules_over k.over).asks k.kind which) k.checker.database.held ((rules_over k.over).clause which set)

  set_taken : (which : Listed) (id : ℕ) (set : Table) → k.checker.database.last < id → IsRightOver which set → IsNewOver which set
      → group_set_line f s.nodes k l which (record { id = id; names = kept set (names_over which) }) ≡ Ok (Going (AtGroups (with_group_set k which id set)))
  set_taken which id set above right new =
      let names : List Name = kept set (names_over which) in
      ap (λ (b : Bool). unless (Step l (IdOrder k.checker.database.last id)) b (and_then (list_group_set k l which id) (listed_set f s.nodes k.over l which names))) (lt-ltb k.checker.database.last id above)
      ∙ ap (λ (r : Result Table CertError). and_then (list_group_set k l which id) r) (set_there which set right)
      ∙ ap (λ (b : Bool). unless (NotNew l) (not b) (Ok (Going (AtGroups (with_group_set k which id set))))) (uncovered ((rules_over k.over).asks k.kind which) k.checker.database.held id ((rules_over k.over).clause which set) new)

  pub group_set_taken : (given : Given) (which : Listed) (id : ℕ) (set : Table) → k.checker.database.last < id → IsRightOver which set → IsNewOver which set → IsId id
      → take_line f given (AtReach s (AtGroups k)) l (set_line (letter which) id (names_over which) set) ≡ Ok (Here (AtReach s (AtGroups (with_group_set k which id set))))
  unfolding take_line
  group_set_taken given which id set above right new is_id =
      let names : List Name = names_over which in
      let text : Text = set_line (letter which) id names set in
      let words : words_of text ≡ letter which ∷ decimal id ∷ kept set names = set_words which id names set (listable_over which) is_id in
      ap (λ (b : Bool). and_then (λ x. Ok (in_reach s x)) (if b then group_end k.kind k l else group_text f s.nodes k l text (listed_by listed.Blocking (words_of text)))) (not_end which id names set)
      ∙ ap (λ (ws : List Word). and_then (λ x. Ok (in_reach s x)) (group_text f s.nodes k l text (listed_by listed.Blocking ws))) words
      ∙ ap (λ (o : Option Listed). and_then (λ x. Ok (in_reach s x)) (group_text f s.nodes k l text o)) (by_letter which set (decimal id ∷ kept set names) right)
      ∙ ap (λ (ws : List Word). and_then (λ x. Ok (in_reach s x)) (and_then (group_set_line f s.nodes k l which) (ok_or (numbered_in ws) (BadLine l)))) words
      ∙ ap (λ (o : Option Numbered). and_then (λ x. Ok (in_reach s x)) (and_then (group_set_line f s.nodes k l which) (ok_or o (BadLine l)))) (numbered which id names set (listable_over which) is_id)
      ∙ ap (λ (r : Result ReachState CertError). and_then (λ x. Ok (in_reach s x)) r) (set_taken which id set above right new)
