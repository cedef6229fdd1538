-- What is known of a list over groups from line to line.
use Rattle.std.proofs.Common.{◌≡◌, ℕ, ◌<◌, List, [], ◌∷◌, ◌++◌, length, Bool, true, false, not, Option, Some, None, ok_or, Result, Ok, refl, sym, ap, ◌∙◌, subst, inl, inr, codes}
use Rattle.std.specs.Prelude.{All}
use Rattle.std.specs.Str.{bytes_eq}
use Rattle.std.proofs.lemmas.Bool.{cases_Bool, not-true}
use Rattle.std.proofs.lemmas.List.{append-nil, length-map}
use Rattle.std.proofs.lemmas.List.Elements.{All-nil, All-map}
use Rattle.fbas_model.specs.Nodes.{Table, members, ◌⊆◌, size}
use Rattle.fbas_model.specs.Counting.{is_quorum}
use Rattle.fbas_model.specs.Names.{Name, marks}
use Rattle.fbas_model.specs.Systems.{System}
use Rattle.fbas_model.specs.Restriction.{kept}
use Rattle.fbas_model.proofs.Marks.{length-marks}
use Rattle.witness_pair.proofs.PairLaws.{none_of_both}
use Rattle.node_json.specs.Groups.{Group, tables_of, texts_of}
use Rattle.lrat_model.specs.Steps.{ProofStep, Database, step_fault, after_step, progress_of}
use Rattle.lrat_model.specs.Rules.{step_fault_by}
use Rattle.lrat_model.specs.declared.step.Progress.{Progress}
use Rattle.lrat_model.specs.declared.step.Progress.TheVariants.{Going as going, Refuted}
use Rattle.lrat_text.specs.Lines.{step_in}
use Rattle.enumeration_journal.specs.Kinds.{is_sought}
use Rattle.enumeration_journal.specs.Journals.{JournalLine, SetLine, StepLine, Rules, JournalRun, line_progress, nothing_held, put_if, sets_in}
use Rattle.enumeration_journal.specs.declared.kinds.ListKind.{ListKind}
use Rattle.enumeration_journal.specs.declared.kinds.ListKind.TheVariants.{Whole, Partial as Part}
use Rattle.enumeration_journal.specs.declared.kinds.Listed.{Listed}
use Rattle.enumeration_journal.specs.declared.kinds.Listed.TheVariants as listed
use Rattle.enumeration_journal.proofs.Ids.{AreBelow, below_run}
use Rattle.enumeration_journal.proofs.Runs.{run_append, sets_append}
use Rattle.enumeration_journal.proofs.TestLaws.{is_kind_to}
use Rattle.group_journal.specs.Groups.{GroupsBlockMinimally}
use Rattle.group_journal.specs.Tests.{is_group_block, is_least_block}
use Rattle.group_journal.proofs.Touched.{length-touching}
use Rattle.group_journal.proofs.Decided.{group_block_to, least_to}
use Rattle.cert_lines.specs.Limits.{unless}
use Rattle.cert_lines.specs.Words.{words_of}
use Rattle.cert_lines.specs.Saying.{or_bad_line}
use Rattle.cert_lines.specs.declared.faults.CertError.{CertError}
use Rattle.cert_lines.specs.declared.faults.CertError.TheVariants.{BadLine, UnknownNode, NotQuorum, NotBlocking, NotMinimal, NotNew}
use Rattle.reach_kinds.specs.Bodies.{and_then, all_among, nodes_of, others, within, listed_by, Numbered, numbered_in, put_last, with_sought, literal_in}
use Rattle.reach_kinds.specs.GroupBodies.{rules_over, no_group_listing, quorum_in, block_in, groups_by_text, listed_set, is_old_group_set, with_group_set, list_group_set, group_set_line, is_old_group_step, with_group_step, after_group_step, group_step, group_end, group_text, group_line}
use Rattle.reach_kinds.specs.Known.{IsPartNodes, IsGroupedPart, IsListOver, IsReachState}
use Rattle.reach_kinds.specs.declared.kinds.ReachKind.TheVariants.{Groups}
use Rattle.reach_kinds.specs.declared.places.Reached.TheVariants.{Partial}
use Rattle.reach_kinds.specs.declared.places.ListPart.{ListPart}
use Rattle.reach_kinds.specs.declared.places.GroupPart.{GroupPart}
use Rattle.reach_kinds.specs.declared.places.GroupListing.{GroupListing}
use Rattle.reach_kinds.specs.declared.places.ReachPlace.TheVariants.{AtGroups}
use Rattle.reach_kinds.specs.declared.places.ReachState.{ReachState}
use Rattle.reach_kinds.specs.declared.places.ReachState.TheVariants.{Going, Done}
use Rattle.reach_kinds.proofs.ListShown.{part_faulty_size, cut_size}
use Rattle.reach_kinds.proofs.ListKnown.{new_clause, new_step, open_more, sets_more, part_set, taken_by_rup}
use Rattle.reach_kinds.proofs.GroupShown.{groups_shown}
use Rattle.reach_kinds.proofs.Inside.{inside}
use Rattle.reach_kinds.proofs.Refused.{taken_so}
use Rattle.reach_kinds.proofs.Results.{got, passed, under_id, within_part}

-- before the first line
pub over_starts : (f : System) (nodes gone : Table) (kind : ListKind) (p : GroupPart) → IsPartNodes f nodes gone → IsGroupedPart f nodes gone p → IsListOver f nodes gone (no_group_listing kind p)
over_starts f nodes gone kind p is over = record {
  subject = is;
  over = over;
  rule = refl;
  vars = ap size over.touched;
  sets = All-nil (λ s. length s ≡ length p.groups);
  journal = [];
  opens = All-nil (λ line. line_progress line ≡ going);
  run = refl;
  listed = refl;
}

-- ---- the part

-- the groups that texts name have a variable
pub texts_inside : (p : GroupPart) (l : ℕ) (texts : List Name) (s : Table) → length p.touched ≡ length p.groups → groups_by_text p l texts ≡ Ok s → (length s ≡ length p.groups) × (members s ⊆ members p.touched)
texts_inside p l texts s same_n e =
    let w = within_part p.touched l (nodes_of (texts_of p.groups) l texts) s e in
    let named = passed (UnknownNode l) (all_among texts (texts_of p.groups)) (Ok (marks (texts_of p.groups) texts)) s w.0 in
    let same : marks (texts_of p.groups) texts ≡ s = (let q = named.1 in cc) in
    let places : length s ≡ length p.groups = ap length (sym same) ∙ length-marks (texts_of p.groups) texts ∙ length-map p.groups (λ (group : Group). group.text) in
    (places, inside s p.touched (places ∙ sym same_n) (none_of_both s (others p.touched) w.1))

module _ (f : System) (nodes gone : Table) (p : GroupPart) (is : IsPartNodes f nodes gone) (over : IsGroupedPart f nodes gone p) where
  pub over_faulty : length p.part.faulty ≡ length p.part.system.sets
  over_faulty = subst (λ (q : ListPart). length q.faulty ≡ length q.system.sets) (sym over.part) (part_faulty_size f nodes gone is)

  pub over_cut : (u : Table) → length u ≡ length f.sets → length (kept nodes u) ≡ length p.part.system.sets
  over_cut u e = subst (λ (q : ListPart). length (kept nodes u) ≡ length q.system.sets) (sym over.part) (cut_size f nodes gone is u e)

  pub over_tables : length (tables_of p.groups) ≡ length p.groups
  over_tables = length-map p.groups (λ (group : Group). group.members)

  pub over_places : length p.touched ≡ length p.groups
  over_places = ap length over.touched ∙ length-touching (tables_of p.groups) p.part.greatest ∙ over_tables

  over_sized : All (λ (t : Table). length t ≡ length p.part.system.sets) (tables_of p.groups)
  over_sized = All-map (λ (t : Table). length t ≡ length p.part.system.sets) (λ (group : Group). group.members) p.groups over.sized

  -- what passes the tests may be listed
  block_right : (l : ℕ) (s t : Table) → length s ≡ length p.groups → members s ⊆ members p.touched → block_in p l s ≡ Ok t → (rules_over p).IsRight listed.Blocking t
  block_right l s t places within e =
      let f' = p.part.system.sets in
      let b = p.part.faulty in
      let gs = tables_of p.groups in
      let least : Result Table CertError = unless (NotMinimal l) (is_least_block f' b gs s) (Ok s) in
      let one = passed (NotBlocking l) (is_group_block f' b gs s) least t e in
      let two = passed (NotMinimal l) (is_least_block f' b gs s) (Ok s) t one.1 in
      let same : s ≡ t = (let q = two.1 in cc) in
      subst (λ (x : Table). GroupsBlockMinimally f' (members b) p.part.greatest gs x) same (record {
        places = places ∙ sym over_tables;
        useful = subst (λ (x : Table). members s ⊆ members x) over.touched within;
        minimal = record { blocks = group_block_to f' b gs over_faulty over_sized s one.0; least = least_to f' b gs over_faulty over_sized s two.0 };
      })

  pub right_over : (l : ℕ) (which : Listed) (names : List Name) (s : Table) → listed_set f nodes p l which names ≡ Ok s → (rules_over p).IsRight which s
  right_over l listed.Quorum names s e =
      let g = got (and_then (within nodes l) (nodes_of f.names l names)) (λ u. quorum_in p l (kept nodes u)) s e in
      let part = part_set f nodes gone l names g.0 is g.1 in
      let q = passed (NotQuorum l) (is_quorum p.part.system.sets p.part.faulty (kept nodes g.0)) (Ok (kept nodes g.0)) s g.2 in
      let same : kept nodes g.0 ≡ s = (let r = q.1 in cc) in
      let size_is = over_cut g.0 part.places in
      subst (λ (t : Table). (rules_over p).IsRight listed.Quorum t) same (size_is, is_kind_to listed.Quorum p.part.system.sets p.part.faulty (kept nodes g.0) over_faulty size_is q.0)
  right_over l listed.Blocking texts s e =
      let g = got (groups_by_text p l texts) (block_in p l) s e in
      let named = texts_inside p l texts g.0 over_places g.1 in
      block_right l g.0 s named.0 named.1 g.2
  right_over l listed.Smaller names s e = absurd cc

-- ---- a line more

put_over : (b : Bool) (sets : List Table) (s : Table) → (sets ++ put_if b s []) ≡ put_last b sets s
put_over true sets s = refl
put_over false sets s = append-nil sets

listed_over : (journal : List JournalLine) (sets : List Table) (which : Listed) (id : ℕ) (s : Table) → sets_in listed.Blocking journal ≡ sets → sets_in listed.Blocking (journal ++ SetLine which id s ∷ []) ≡ with_sought listed.Blocking sets which s
listed_over journal sets which id s those =
    let b : Bool = is_sought listed.Blocking which in
    sets_append listed.Blocking journal (SetLine which id s ∷ []) ∙ ap (λ (xs : List Table). xs ++ put_if b s []) those ∙ put_over b sets s

sets_over : (p : GroupPart) (which : Listed) (sets : List Table) (s : Table) → All (λ t. length t ≡ length p.groups) sets → (rules_over p).IsRight which s → All (λ t. length t ≡ length p.groups) (with_sought listed.Blocking sets which s)
sets_over p listed.Quorum sets s all right = all
sets_over p listed.Blocking sets s all right = sets_more (λ t. length t ≡ length p.groups) true sets s all (right.places ∙ length-map p.groups (λ (group : Group). group.members))
sets_over p listed.Smaller sets s all right = absurd right

held_below : (f : System) (nodes gone : Table) (k : GroupListing) → IsListOver f nodes gone k → AreBelow k.checker.database
held_below f nodes gone k is = below_run (rules_over k.over) k.kind nothing_held is.journal k.checker.database is.run (λ id h. refl)

-- a set that is listed
set_known : (f : System) (nodes gone : Table) (k : GroupListing) (l : ℕ) (which : Listed) (id : ℕ) (s : Table) (state : ReachState) → IsListOver f nodes gone k → k.checker.database.last < id → (rules_over k.over).IsRight which s → list_group_set k l which id s ≡ Ok state → IsReachState f nodes gone state
set_known f nodes gone k l which id s state is above right e =
    let d : Database = k.checker.database in
    let r : Rules = rules_over k.over in
    let next : GroupListing = with_group_set k which id s in
    let line : JournalLine = SetLine which id s in
    let fresh = passed (NotNew l) (not (is_old_group_set k which id s)) (Ok (Going (AtGroups next))) state e in
    let there : Going (AtGroups next) ≡ state = (let q = fresh.1 in cc) in
    let off : is_old_group_set k which id s ≡ false = not-true (is_old_group_set k which id s) fresh.0 in
    let known : IsListOver f nodes gone next = record {
      subject = is.subject;
      over = is.over;
      rule = is.rule;
      vars = is.vars;
      sets = sets_over k.over which k.sets s is.sets right;
      journal = is.journal ++ line ∷ [];
      opens = open_more is.journal line is.opens refl;
      run = run_append r k.kind nothing_held is.journal (line ∷ []) d next.checker.database is.run
          ((above, right), new_clause (r.asks k.kind which) d id (r.clause which s) (held_below f nodes gone k is) above off, refl);
      listed = listed_over is.journal k.sets which id s is.listed;
    } in
    subst (IsReachState f nodes gone) there known

numbered_over : (f : System) (nodes gone : Table) (k : GroupListing) (l : ℕ) (which : Listed) (n : Numbered) (state : ReachState) → IsListOver f nodes gone k → group_set_line f nodes k l which n ≡ Ok state → IsReachState f nodes gone state
numbered_over f nodes gone k l which n state is e =
    let g = under_id l k.checker.database.last n.id (list_group_set k l which n.id) (listed_set f nodes k.over l which n.names) state e in
    set_known f nodes gone k l which n.id g.0 state is g.1 (right_over f nodes gone k.over is.subject is.over l which n.names g.0 g.2) g.3

-- ---- a step more

step_goes : (f : System) (nodes gone : Table) (k : GroupListing) (step : ProofStep) (p : Progress) → IsListOver f nodes gone k → step_fault_by k.checker.rule k.checker.vars k.checker.database step ≡ None → is_old_group_step k step ≡ false → progress_of step ≡ p → IsReachState f nodes gone (after_group_step (with_group_step k step) p)
step_goes f nodes gone k step p is none off progress = by_progress p progress
  where
    r : Rules
    r = rules_over k.over

    taken : step_fault r.vars k.checker.database step ≡ None
    taken = taken_by_rup k.checker r.vars step is.rule is.vars none

    run : JournalRun r k.kind nothing_held (is.journal ++ StepLine step ∷ []) (after_step k.checker.database step)
    run = run_append r k.kind nothing_held is.journal (StepLine step ∷ []) k.checker.database (after_step k.checker.database step) is.run
        (taken, new_step r k.kind k.checker.database step (held_below f nodes gone k is) taken off, refl)

    by_progress : (q : Progress) → progress_of step ≡ q → IsReachState f nodes gone (after_group_step (with_group_step k step) q)
    by_progress going is_going = record {
      subject = is.subject;
      over = is.over;
      rule = is.rule;
      vars = is.vars;
      sets = is.sets;
      journal = is.journal ++ StepLine step ∷ [];
      opens = open_more is.journal (StepLine step) is.opens is_going;
      run = run;
      listed = sets_append listed.Blocking is.journal (StepLine step ∷ []) ∙ append-nil (sets_in listed.Blocking is.journal) ∙ is.listed;
    }
    by_progress Refuted is_refuted =
        groups_shown f nodes gone k.over.groups k.kind is.journal step (after_step k.checker.database step) k.sets is.subject is.opens is_refuted
        (subst (λ (p : ListPart). JournalRun (rules_over (record { part = p; groups = k.over.groups; touched = k.over.touched })) k.kind nothing_held (is.journal ++ StepLine step ∷ []) (after_step k.checker.database step)) is.over.part run)
        is.listed is.sets

step_over : (f : System) (nodes gone : Table) (k : GroupListing) (l : ℕ) (step : ProofStep) (state : ReachState) → IsListOver f nodes gone k → group_step k l step ≡ Ok state → IsReachState f nodes gone state
step_over f nodes gone k l step state is e =
    let t = taken_so l (is_old_group_step k step) (step_fault_by k.checker.rule k.checker.vars k.checker.database step) (after_group_step (with_group_step k step) (progress_of step)) state e in
    subst (IsReachState f nodes gone) t.2 (step_goes f nodes gone k step (progress_of step) is t.0 t.1 refl)

-- ---- lines

end_over : (f : System) (nodes gone : Table) (k : GroupListing) (l : ℕ) (kind : ListKind) (state : ReachState) → group_end kind k l ≡ Ok state → IsReachState f nodes gone state
end_over f nodes gone k l Whole state e = absurd cc
end_over f nodes gone k l Part state e =
    let same : Done (Partial Groups k.units) ≡ state = cc in
    subst (IsReachState f nodes gone) same (tt, tt)

text_over : (f : System) (nodes gone : Table) (k : GroupListing) (l : ℕ) (text : List ℕ) (o : Option Listed) (state : ReachState) → IsListOver f nodes gone k → group_text f nodes k l text o ≡ Ok state → IsReachState f nodes gone state
text_over f nodes gone k l text (Some which) state is e =
    let g = got (ok_or (numbered_in (words_of text)) (BadLine l)) (group_set_line f nodes k l which) state e in
    numbered_over f nodes gone k l which g.0 state is g.2
text_over f nodes gone k l text None state is e =
    let g = got (and_then (literal_in k.kind l) (or_bad_line l (step_in text))) (group_step k l) state e in
    step_over f nodes gone k l g.0 state is g.2

pub known_over : (f : System) (nodes gone : Table) (k : GroupListing) (l : ℕ) (text : List ℕ) → IsListOver f nodes gone k → (state : ReachState) → group_line f nodes k l text ≡ Ok state → IsReachState f nodes gone state
known_over f nodes gone k l text is state e = elim (cases_Bool (bytes_eq text (codes "end"))) [
  | inl ends ↦ end_over f nodes gone k l k.kind state (rw ends at e)
  | inr not ↦ text_over f nodes gone k l text (listed_by listed.Blocking (words_of text)) state is (rw not at e)
]
