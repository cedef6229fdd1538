-- The groups of a place are those of the place after its line.
use Rattle.std.proofs.Common.{◌≡◌, ℕ, List, not, Option, Some, None, ok_or, Ok, subst, codes, inl, inr}
use Rattle.std.specs.Str.{bytes_eq}
use Rattle.std.proofs.lemmas.Bool.{cases_Bool}
use Rattle.fbas_model.specs.Nodes.{Table}
use Rattle.fbas_model.specs.Systems.{System}
use Rattle.fbas_model.specs.Restriction.{kept}
use Rattle.node_json.specs.Groups.{Group}
use Rattle.lrat_model.specs.Steps.{ProofStep, progress_of}
use Rattle.lrat_model.specs.Rules.{step_fault_by}
use Rattle.lrat_model.specs.declared.step.Progress.{Progress}
use Rattle.lrat_model.specs.declared.step.Progress.TheVariants.{Going as going, Refuted}
use Rattle.lrat_text.specs.Lines.{step_in}
use Rattle.enumeration_journal.specs.declared.kinds.ListKind.{ListKind}
use Rattle.enumeration_journal.specs.declared.kinds.ListKind.TheVariants.{Whole, Partial as Part}
use Rattle.enumeration_journal.specs.declared.kinds.Listed.{Listed}
use Rattle.enumeration_journal.specs.declared.kinds.Listed.TheVariants as listed
use Rattle.cert_lines.specs.Words.{words_of}
use Rattle.cert_lines.specs.Saying.{or_bad_line}
use Rattle.cert_lines.specs.declared.faults.CertError.TheVariants.{BadLine, NotNew}
use Rattle.reach_kinds.specs.Bodies.{and_then, nodes_of, within, counter_line, listed_by, Numbered, numbered_in, right_set, new_set, with_listed, list_set, set_line, literal_in, is_old_step, with_step, in_shown_order, whole_of, after_list_step, list_step, list_end, list_text, list_line}
use Rattle.reach_kinds.specs.GroupBodies.{listed_set, is_old_group_set, with_group_set, list_group_set, group_set_line, is_old_group_step, with_group_step, after_group_step, group_step, group_end, group_text, group_line}
use Rattle.reach_kinds.specs.PlaceLines.{reach_line}
use Rattle.reach_kinds.specs.Known.{IsShownOver, IsPlaceOver, IsStateOver}
use Rattle.reach_kinds.specs.declared.kinds.ReachKind.TheVariants.{Nodes, Groups}
use Rattle.reach_kinds.specs.declared.places.Reached.TheVariants.{Partial}
use Rattle.reach_kinds.specs.declared.places.ListPart.{ListPart}
use Rattle.reach_kinds.specs.declared.places.Listing.{Listing}
use Rattle.reach_kinds.specs.declared.places.GroupListing.{GroupListing}
use Rattle.reach_kinds.specs.declared.places.ReachPlace.{ReachPlace}
use Rattle.reach_kinds.specs.declared.places.ReachPlace.TheVariants.{AtCounter, AtList, AtGroups, AtEnd}
use Rattle.reach_kinds.specs.declared.places.ReachState.{ReachState}
use Rattle.reach_kinds.specs.declared.places.ReachState.TheVariants.{Going, Done}
use Rattle.reach_kinds.proofs.ListKnown.{counter_gave}
use Rattle.reach_kinds.proofs.Refused.{taken_so}
use Rattle.reach_kinds.proofs.Results.{got, passed, under_id}

module _ (o : Option (List Group)) where
  -- ---- lists of sets of nodes have none

  counter_none : (kind : ListKind) (p : ListPart) (l : ℕ) (text : List ℕ) (state : ReachState) → counter_line kind p l text ≡ Ok state → IsStateOver o state
  counter_none kind p l text state e = subst (IsStateOver o) (counter_gave kind p l text state e).1 tt

  whole_none : (sought : Listed) (sets : List Table) → IsShownOver o (whole_of sought sets)
  whole_none listed.Quorum sets = tt
  whole_none listed.Blocking sets = tt
  whole_none listed.Smaller sets = tt

  after_none : (k : Listing) (p : Progress) → IsStateOver o (after_list_step k p)
  after_none k going = tt
  after_none k Refuted = whole_none k.sought (in_shown_order k.sought k.sets)

  step_none : (k : Listing) (l : ℕ) (step : ProofStep) (state : ReachState) → list_step k l step ≡ Ok state → IsStateOver o state
  step_none k l step state e =
      let t = taken_so l (is_old_step k step) (step_fault_by k.checker.rule k.checker.vars k.checker.database step) (after_list_step (with_step k step) (progress_of step)) state e in
      subst (IsStateOver o) t.2 (after_none (with_step k step) (progress_of step))

  set_none : (f : System) (nodes : Table) (k : Listing) (l : ℕ) (which : Listed) (n : Numbered) (state : ReachState) → set_line f nodes k l which n ≡ Ok state → IsStateOver o state
  set_none f nodes k l which n state e =
      let g = under_id l k.checker.database.last n.id (list_set nodes k l which n.id) (and_then (within nodes l) (nodes_of f.names l n.names)) state e in
      let h = got (and_then (new_set k l which n.id) (right_set k l which (kept nodes g.0))) (λ w. Ok (Going (AtList (with_listed k which n.id g.0 w)))) state g.3 in
      let there : Going (AtList (with_listed k which n.id g.0 h.0)) ≡ state = (let q = h.2 in cc) in
      subst (IsStateOver o) there tt

  text_none : (f : System) (nodes : Table) (k : Listing) (l : ℕ) (text : List ℕ) (which : Option Listed) (state : ReachState) → list_text f nodes k l text which ≡ Ok state → IsStateOver o state
  text_none f nodes k l text (Some which) state e =
      let g = got (ok_or (numbered_in (words_of text)) (BadLine l)) (set_line f nodes k l which) state e in
      set_none f nodes k l which g.0 state g.2
  text_none f nodes k l text None state e =
      let g = got (and_then (literal_in k.kind l) (or_bad_line l (step_in text))) (list_step k l) state e in
      step_none k l g.0 state g.2

  end_none : (k : Listing) (l : ℕ) (kind : ListKind) (state : ReachState) → list_end kind k l ≡ Ok state → IsStateOver o state
  end_none k l Whole state e = absurd cc
  end_none k l Part state e =
      let same : Done (Partial (Nodes k.sought) k.units) ≡ state = cc in
      subst (IsStateOver o) same tt

  list_none : (f : System) (nodes : Table) (k : Listing) (l : ℕ) (text : List ℕ) (state : ReachState) → list_line f nodes k l text ≡ Ok state → IsStateOver o state
  list_none f nodes k l text state e = elim (cases_Bool (bytes_eq text (codes "end"))) [
    | inl ends ↦ end_none k l k.kind state (rw ends at e)
    | inr not ↦ text_none f nodes k l text (listed_by k.sought (words_of text)) state (rw not at e)
  ]

  -- ---- lists over groups keep them

  after_same : (k : GroupListing) (p : Progress) → o ≡ Some k.over.groups → IsStateOver o (after_group_step k p)
  after_same k going is = is
  after_same k Refuted is = is

  step_same : (k : GroupListing) (l : ℕ) (step : ProofStep) (state : ReachState) → o ≡ Some k.over.groups → group_step k l step ≡ Ok state → IsStateOver o state
  step_same k l step state is e =
      let t = taken_so l (is_old_group_step k step) (step_fault_by k.checker.rule k.checker.vars k.checker.database step) (after_group_step (with_group_step k step) (progress_of step)) state e in
      subst (IsStateOver o) t.2 (after_same (with_group_step k step) (progress_of step) is)

  set_same : (f : System) (nodes : Table) (k : GroupListing) (l : ℕ) (which : Listed) (n : Numbered) (state : ReachState) → o ≡ Some k.over.groups → group_set_line f nodes k l which n ≡ Ok state → IsStateOver o state
  set_same f nodes k l which n state is e =
      let g = under_id l k.checker.database.last n.id (list_group_set k l which n.id) (listed_set f nodes k.over l which n.names) state e in
      let h = passed (NotNew l) (not (is_old_group_set k which n.id g.0)) (Ok (Going (AtGroups (with_group_set k which n.id g.0)))) state g.3 in
      let there : Going (AtGroups (with_group_set k which n.id g.0)) ≡ state = (let q = h.1 in cc) in
      subst (IsStateOver o) there is

  text_same : (f : System) (nodes : Table) (k : GroupListing) (l : ℕ) (text : List ℕ) (which : Option Listed) (state : ReachState) → o ≡ Some k.over.groups → group_text f nodes k l text which ≡ Ok state → IsStateOver o state
  text_same f nodes k l text (Some which) state is e =
      let g = got (ok_or (numbered_in (words_of text)) (BadLine l)) (group_set_line f nodes k l which) state e in
      set_same f nodes k l which g.0 state is g.2
  text_same f nodes k l text None state is e =
      let g = got (and_then (literal_in k.kind l) (or_bad_line l (step_in text))) (group_step k l) state e in
      step_same k l g.0 state is g.2

  end_same : (k : GroupListing) (l : ℕ) (kind : ListKind) (state : ReachState) → group_end kind k l ≡ Ok state → IsStateOver o state
  end_same k l Whole state e = absurd cc
  end_same k l Part state e = let same : Done (Partial Groups k.units) ≡ state = cc in subst (IsStateOver o) same tt

  group_same : (f : System) (nodes : Table) (k : GroupListing) (l : ℕ) (text : List ℕ) (state : ReachState) → o ≡ Some k.over.groups → group_line f nodes k l text ≡ Ok state → IsStateOver o state
  group_same f nodes k l text state is e = elim (cases_Bool (bytes_eq text (codes "end"))) [
    | inl ends ↦ end_same k l k.kind state (rw ends at e)
    | inr not ↦ text_same f nodes k l text (listed_by listed.Blocking (words_of text)) state is (rw not at e)
  ]

  -- ---- a line at its place

  pub same_groups : (f : System) (nodes : Table) (p : ReachPlace) (l : ℕ) (text : List ℕ) (state : ReachState) → IsPlaceOver o p → reach_line f nodes p l text ≡ Ok state → IsStateOver o state
  same_groups f nodes (AtCounter kind p) l text state is e = counter_none kind p l text state e
  same_groups f nodes (AtList k) l text state is e = list_none f nodes k l text state e
  same_groups f nodes (AtGroups k) l text state is e = group_same f nodes k l text state is e
  same_groups f nodes (AtEnd r) l text state is e =
      let p = passed (BadLine l) (bytes_eq text (codes "end")) (Ok (Done r)) state e in
      let there : Done r ≡ state = (let q = p.1 in cc) in
      subst (IsStateOver o) there is
