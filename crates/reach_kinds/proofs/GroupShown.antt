-- What a list over groups shows that came to the empty lemma.
use Rattle.std.proofs.Common.{◌≡◌, List, [], ◌∷◌, ◌++◌, length, refl, ◌∙◌, subst}
use Rattle.std.specs.Prelude.{All}
use Rattle.std.proofs.lemmas.List.{append-nil}
use Rattle.std.proofs.lemmas.List.Elements.{All-contains}
use Rattle.fbas_model.specs.Nodes.{Table, members}
use Rattle.fbas_model.specs.Systems.{System}
use Rattle.node_json.specs.Groups.{Group, tables_of}
use Rattle.lrat_model.specs.Steps.{ProofStep, Database, progress_of}
use Rattle.lrat_model.specs.declared.step.Progress.TheVariants.{Refuted}
use Rattle.enumeration_journal.specs.Journals.{JournalLine, StepLine, Rules, JournalRun, IsOpen, IsWholeJournal, nothing_held, sets_in}
use Rattle.enumeration_journal.specs.Order.{ordered}
use Rattle.enumeration_journal.specs.declared.kinds.ListKind.{ListKind}
use Rattle.enumeration_journal.specs.declared.kinds.Listed.TheVariants as listed
use Rattle.enumeration_journal.proofs.OrderLaws.{HavePlaces, ordered_rising, ordered_has}
use Rattle.enumeration_journal.proofs.Runs.{sets_append}
use Rattle.group_journal.specs.Groups.{AreMinimalGroupBlocks}
use Rattle.group_journal.specs.Rules.{group_list_of}
use Rattle.group_journal.proofs.Whole.{whole_has_groups}
use Rattle.reach_kinds.specs.Bodies.{list_part}
use Rattle.reach_kinds.specs.Shown.{IsGroupListOfPart, IsReached}
use Rattle.reach_kinds.specs.Known.{IsPartNodes}
use Rattle.reach_kinds.specs.declared.places.ListPart.{ListPart}
use Rattle.reach_kinds.specs.declared.places.Reached.TheVariants.{OrgBlocking}
use Rattle.reach_kinds.proofs.ListShown.{part_greatest, all_ordered, as_whole}

-- the rules of a list over groups of a part
abbrev part_rules : ListPart → List Group → Rules
part_rules p groups = group_list_of p.system.sets (members p.faulty) p.greatest (tables_of groups)

-- a journal that the empty lemma ends has each minimal blocking set of groups of the part
groups_hold : (f : System) (nodes gone : Table) (groups : List Group) (kind : ListKind) (journal : List JournalLine) (step : ProofStep) (after : Database) (sets : List Table) → IsPartNodes f nodes gone → IsOpen journal → progress_of step ≡ Refuted
    → JournalRun (part_rules (list_part f nodes gone) groups) kind nothing_held (journal ++ StepLine step ∷ []) after → sets_in listed.Blocking journal ≡ sets → All (λ s. length s ≡ length groups) sets → IsGroupListOfPart f nodes gone groups (ordered sets)
groups_hold f nodes gone groups kind journal step after sets is opens refuted run those places =
    let p : ListPart = list_part f nodes gone in
    let r : Rules = part_rules p groups in
    let whole : IsWholeJournal r (journal ++ StepLine step ∷ []) = record {
      ends = record { before = journal; last = StepLine step; is = refl; ends = refuted; only = opens };
      after = after;
      run = as_whole r kind nothing_held (journal ++ StepLine step ∷ []) after (λ which asked. refl) run;
    } in
    let same : sets_in listed.Blocking (journal ++ StepLine step ∷ []) ≡ sets = sets_append listed.Blocking journal (StepLine step ∷ []) ∙ append-nil (sets_in listed.Blocking journal) ∙ those in
    let each : AreMinimalGroupBlocks p.system.sets (members p.faulty) p.greatest (tables_of groups) sets =
    subst (λ (xs : List Table). AreMinimalGroupBlocks p.system.sets (members p.faulty) p.greatest (tables_of groups) xs) same
    (whole_has_groups p.system.sets (members p.faulty) p.greatest (tables_of groups) (part_greatest f nodes gone is) (journal ++ StepLine step ∷ []) whole) in
    let sizes : HavePlaces (length groups) sets = λ u there. All-contains (λ s. length s ≡ length groups) sets u places there in record {
      rising = ordered_rising sets;
      exact = λ s. let order = ordered_has (length groups) sets sizes s in (λ there. (each s).0 (order.0 there), λ minimal. order.1 ((each s).1 minimal));
    }

-- and so what is shown is so
pub groups_shown : (f : System) (nodes gone : Table) (groups : List Group) (kind : ListKind) (journal : List JournalLine) (step : ProofStep) (after : Database) (sets : List Table) → IsPartNodes f nodes gone → IsOpen journal → progress_of step ≡ Refuted
    → JournalRun (group_list_of (list_part f nodes gone).system.sets (members (list_part f nodes gone).faulty) (list_part f nodes gone).greatest (tables_of groups)) kind nothing_held (journal ++ StepLine step ∷ []) after → sets_in listed.Blocking journal ≡ sets → All (λ s. length s ≡ length groups) sets
    → IsReached f nodes gone (OrgBlocking groups (ordered sets))
groups_shown f nodes gone groups kind journal step after sets is opens refuted run those places =
    (all_ordered (λ s. length s ≡ length groups) sets places, groups_hold f nodes gone groups kind journal step after sets is opens refuted run those places)
