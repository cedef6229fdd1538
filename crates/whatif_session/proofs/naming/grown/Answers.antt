use Rattle.std.proofs.Common.{◌≤◌, ◌+◌, ℕ, length, arith, inr, ap, ◌∙◌}
use Rattle.fbas_model.specs.declared.TheConstants.{MOST_NODES}
use Rattle.whatif_session.proofs.NewNames.{node_many, node_new, is_with_name, lists_with, with_name-IsSystem}
use Rattle.whatif_session.proofs.naming.grown.Goals as goal

pub returns-then-n-gt-MOST_NODES-clause-err : goal.returns-then-n-gt-MOST_NODES-clause-err
returns-then-n-gt-MOST_NODES-clause-err c =
    let counted = ap (λ (n : ℕ). n + 1) c.len.ensures.names in
    inr (node_many c.args.system.now c.args.name.now _ c.requires.missing counted c.if-n-gt-MOST_NODES.true)

pub of-requires : goal.of-requires
of-requires c =
    let s = c.args.system.now in
    let name = c.args.name.now in
    let few : length s.names + 1 ≤ MOST_NODES = omega (arith, c.if-n-gt-MOST_NODES.false, c.len.ensures.names) in
    let lists = lists_with s name c.names-names.result.now c.in_ok-more.more c.place_for-place.result c.in_ok-sets.sets.items c.names-names.ensures.names c.in_ok-more.ensures c.place_for-place.ensures c.in_ok-sets.ensures in
    rw (lists.0, lists.1) (with_name-IsSystem s name c.len.ensures.system c.requires.key few)

pub returns-clause-ok : goal.returns-clause-ok
returns-clause-ok c =
    let s = c.args.system.now in
    let few : length s.names + 1 ≤ MOST_NODES = omega (arith, c.if-n-gt-MOST_NODES.false, c.len.ensures.names) in
    let lists = lists_with s c.args.name.now c.names-names.result.now c.in_ok-more.more c.place_for-place.result c.in_ok-sets.sets.items c.names-names.ensures.names c.in_ok-more.ensures c.place_for-place.ensures c.in_ok-sets.ensures in
    node_new s _ c.args.name.now c.requires.missing few (c.in_ok-of.ensures.names ∙ lists.0) (c.in_ok-of.ensures.sets ∙ lists.1)

pub returns-clause-named : goal.returns-clause-named
returns-clause-named c =
    let s = c.args.system.now in
    let lists = lists_with s c.args.name.now c.names-names.result.now c.in_ok-more.more c.place_for-place.result c.in_ok-sets.sets.items c.names-names.ensures.names c.in_ok-more.ensures c.place_for-place.ensures c.in_ok-sets.ensures in
    is_with_name s c.in_ok-of.field-0 c.args.name.now (c.in_ok-of.ensures.names ∙ lists.0) (c.in_ok-of.ensures.sets ∙ lists.1)

pub returns-clause-few : goal.returns-clause-few
returns-clause-few c = omega (arith, c.if-n-gt-MOST_NODES.false, c.len.ensures.sets)
