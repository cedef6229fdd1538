use Rattle.std.proofs.Common.{rules, ◌≡◌, List, [], ◌∷◌, ◌++◌, Result, Err, inl, inr, sym, ap, ◌∙◌}
use Rattle.fbas_model.specs.Nodes.{Table}
use Rattle.enumeration_journal.specs.declared.kinds.Listed.TheVariants as listed
use Rattle.cert_lines.specs.declared.faults.CertError.{CertError}
use Rattle.reach_kinds.specs.Bodies.{and_then}
use Rattle.reach_kinds.specs.GroupBodies.{group_listing_on, list_group_set}
use Rattle.reach_kinds.specs.declared.places.GroupListing.{GroupListing}
use Rattle.reach_kinds.proofs.GroupKnown.{over_faulty}
use Rattle.reach_kinds.proofs.GroupTaken.{listed_new, listed_old}
use Rattle.reach_kinds.proofs.group_sets.list_block.Goals as goal

pub named_block-requires-clause-same_faulty : goal.named_block-requires-clause-same_faulty
named_block-requires-clause-same_faulty c = over_faulty c.args.scope.now.system.now c.args.scope.now.nodes.now c.args.scope.now.faulty.now c.args.listing.now.over c.requires.known.subject c.requires.known.over

pub returns-in_err-add_clause-clause-err : goal.returns-in_err-add_clause-clause-err
returns-in_err-add_clause-clause-err c =
    let k = c.args.listing.now in
    let clause_is = c.deref.ensures.value ∙ c.in_ok-clause.ensures.clause in
    let e = c.in_err-add_clause.field-0.0 in
    let r : c.from_residual-in_err-add_clause.result ≡ Err e = search rules in
    rw r (elim c.in_err-add_clause.ensures.err [
      | inl memory ↦ inl memory
      | inr old ↦ inr (
          ap (λ (x : Result Table CertError). and_then (list_group_set k c.args.line listed.Blocking c.args.id) x) c.in_ok-set.ensures.ok
          ∙ (listed_old c.args.scope.now.system.now c.args.scope.now.nodes.now c.args.scope.now.faulty.now k c.requires.known c.args.line listed.Blocking c.args.id c.in_ok-set.set c.deref.result.now clause_is old.1 ∙ ap (λ (x : CertError). Err x) (sym old.0)))
    ])

pub returns-clause-ok : goal.returns-clause-ok
returns-clause-ok c =
    let k = c.args.listing.now in
    let s = c.in_ok-set.set in
    let n : GroupListing = c.add_clause.new.listing in
    let clause_is = c.deref.ensures.value ∙ c.in_ok-clause.ensures.clause in
    let listing_is = c.in_ok-add_clause.ensures.listing in
    let pushed : c.push.new.self ≡ k.sets ++ s ∷ [] = c.in_ok-push.ensures.pushed ∙ ap (λ (m : GroupListing). m.sets ++ s ∷ []) listing_is in
    let new_is =
    ap (λ (xs : List Table). group_listing_on n.kind n.over n.checker xs n.units) pushed
    ∙ ap (λ (m : GroupListing). group_listing_on m.kind m.over m.checker (k.sets ++ s ∷ []) m.units) listing_is in
    ap (λ (x : Result Table CertError). and_then (list_group_set k c.args.line listed.Blocking c.args.id) x) c.in_ok-set.ensures.ok
    ∙ listed_new c.args.scope.now.system.now c.args.scope.now.nodes.now c.args.scope.now.faulty.now k c.requires.known c.args.line listed.Blocking c.args.id s c.deref.result.now clause_is _ c.in_ok-add_clause.ensures.new new_is
