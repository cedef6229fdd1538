use Rattle.std.proofs.Common.{◌≡◌, ℕ, ◌<◌, List, Bool, inl, inr, ◌∙◌, ap, arith}
use Rattle.std.proofs.lemmas.Bool.{lt-ltb}
use Rattle.std.proofs.lemmas.Result.{IfOk-weaker, IfErr-weaker}
use Rattle.fbas_model.specs.Nodes.{Table}
use Rattle.fbas_model.specs.Names.{Name}
use Rattle.fbas_model.specs.Systems.{System}
use Rattle.lrat_model.specs.declared.step.StepFault.TheVariants.{IdOrder}
use Rattle.enumeration_journal.specs.declared.kinds.Listed.{Listed}
use Rattle.enumeration_journal.specs.declared.kinds.Listed.TheVariants as listed
use Rattle.cert_lines.specs.Limits.{unless}
use Rattle.cert_lines.specs.declared.faults.CertError.TheVariants.{Step}
use Rattle.reach_kinds.specs.Bodies.{and_then}
use Rattle.reach_kinds.specs.GroupBodies.{listed_set, list_group_set, group_set_line}
use Rattle.reach_kinds.specs.declared.places.GroupListing.{GroupListing}
use Rattle.reach_kinds.proofs.group_lines.group_set_line.Goals as goal

-- the line is that of its set, where its id is above the last one
line_of_set : (f : System) (nodes : Table) (k : GroupListing) (l : ℕ) (which : Listed) (id : ℕ) (names : List Name) → k.checker.database.last < id
    → group_set_line f nodes k l which (record { id = id; names = names }) ≡ and_then (list_group_set k l which id) (listed_set f nodes k.over l which names)
line_of_set f nodes k l which id names above =
    let last : ℕ = k.checker.database.last in
    ap (λ (b : Bool). unless (Step l (IdOrder last id)) b (and_then (list_group_set k l which id) (listed_set f nodes k.over l which names))) (lt-ltb last id above)

pub returns-in-Quorum : goal.returns-in-Quorum
returns-in-Quorum c =
    let same = line_of_set c.args.scope.now.system.now c.args.scope.now.nodes.now c.args.listing.now c.args.line listed.Quorum c.args.id c.args.names.now (omega (arith, c.last-last.ensures.value, c.if-id-last.false)) in record {
      ok = rw c.in-Quorum.is (IfOk-weaker c.list_quorum.result _ _ (λ _ e. same ∙ e) c.list_quorum.ensures.ok);
      err = rw c.in-Quorum.is (IfErr-weaker c.list_quorum.result _ _ (λ _ came. elim came [ inl memory ↦ inl memory | inr e ↦ inr (same ∙ e) ]) c.list_quorum.ensures.err);
    }

pub returns-in-Blocking : goal.returns-in-Blocking
returns-in-Blocking c =
    let same = line_of_set c.args.scope.now.system.now c.args.scope.now.nodes.now c.args.listing.now c.args.line listed.Blocking c.args.id c.args.names.now (omega (arith, c.last-last.ensures.value, c.if-id-last.false)) in record {
      ok = rw c.in-Blocking.is (IfOk-weaker c.list_block.result _ _ (λ _ e. same ∙ e) c.list_block.ensures.ok);
      err = rw c.in-Blocking.is (IfErr-weaker c.list_block.result _ _ (λ _ came. elim came [ inl memory ↦ inl memory | inr e ↦ inr (same ∙ e) ]) c.list_block.ensures.err);
    }
