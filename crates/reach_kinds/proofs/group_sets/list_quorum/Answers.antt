use Rattle.std.proofs.Common.{◌≡◌, ℕ, length, Result, Ok, Err, inl, inr, sym, ap, ◌∙◌, subst}
use Rattle.std.specs.Prelude.{All, OnOk}
use Rattle.std.proofs.lemmas.Result.{IfErr-weaker}
use Rattle.fbas_model.specs.Nodes.{Table}
use Rattle.node_json.specs.Groups.{Group}
use Rattle.enumeration_journal.specs.declared.kinds.Listed.TheVariants as listed
use Rattle.cert_lines.specs.declared.faults.CertError.{CertError}
use Rattle.reach_kinds.specs.Bodies.{and_then}
use Rattle.reach_kinds.specs.GroupBodies.{list_group_set}
use Rattle.reach_kinds.proofs.GroupKnown.{right_over}
use Rattle.reach_kinds.proofs.GroupTaken.{quorum_touches, listed_new, listed_old}
use Rattle.reach_kinds.proofs.group_sets.list_quorum.Goals as goal

pub quorum_clause-requires-clause-sized : goal.quorum_clause-requires-clause-sized
quorum_clause-requires-clause-sized c =
    let k = c.args.listing.now in
    let right = right_over c.args.scope.now.system.now c.args.scope.now.nodes.now c.args.scope.now.faulty.now k.over c.requires.known.subject c.requires.known.over c.args.line listed.Quorum c.args.names.now c.in_ok-quorum.quorum (sym c.in_ok-quorum.ensures.value) in
    subst (λ (n : ℕ). All (λ (group : Group). length group.members ≡ n) k.over.groups) (sym right.0) c.requires.known.over.sized

pub quorum_clause-requires-clause-within : goal.quorum_clause-requires-clause-within
quorum_clause-requires-clause-within c =
    let k = c.args.listing.now in
    let right = right_over c.args.scope.now.system.now c.args.scope.now.nodes.now c.args.scope.now.faulty.now k.over c.requires.known.subject c.requires.known.over c.args.line listed.Quorum c.args.names.now c.in_ok-quorum.quorum (sym c.in_ok-quorum.ensures.value) in
    quorum_touches c.args.scope.now.system.now c.args.scope.now.nodes.now c.args.scope.now.faulty.now k c.requires.known c.in_ok-quorum.quorum right

-- what is so once each of two things is
on_both : {T E A B C : Type 0} (r : Result T E) → OnOk r A → OnOk r B → (A → B → C) → OnOk r C
on_both (Ok x) a b then = then a b
on_both (Err e) a b then = tt

pub returns : goal.returns
returns c =
    let k = c.args.listing.now in
    let clause_is = c.deref.ensures.value ∙ c.in_ok-clause.ensures.clause in
    let named = ap (λ (r : Result Table CertError). and_then (list_group_set k c.args.line listed.Quorum c.args.id) r) (sym c.in_ok-quorum.ensures.value) in record {
      ok = on_both c.add_clause.result c.add_clause.ensures.new c.add_clause.ensures.listing (λ off new_is.
          named ∙ listed_new c.args.scope.now.system.now c.args.scope.now.nodes.now c.args.scope.now.faulty.now k c.requires.known c.args.line listed.Quorum c.args.id c.in_ok-quorum.quorum c.deref.result.now clause_is c.add_clause.new.listing off new_is);
      err = IfErr-weaker c.add_clause.result _ _ (λ e came. elim came [
        | inl memory ↦ inl memory
        | inr old ↦ inr (
            named
            ∙ (listed_old c.args.scope.now.system.now c.args.scope.now.nodes.now c.args.scope.now.faulty.now k c.requires.known c.args.line listed.Quorum c.args.id c.in_ok-quorum.quorum c.deref.result.now clause_is old.1 ∙ ap (λ (x : CertError). Err x) (sym old.0)))
      ]) c.add_clause.ensures.err;
    }
