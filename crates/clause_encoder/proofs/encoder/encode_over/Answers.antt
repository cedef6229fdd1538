use Rattle.std.proofs.Common.{ℕ, ◌+◌, ◌≡◌, ◌<◌, ap, subst, sym, ◌∙◌, arith}
use Rattle.std.specs.Prelude.{All}
use Rattle.clause_encoder.specs.Variables.{Variables}
use Rattle.clause_encoder.proofs.EncodeLaws.{few_nodes, nodes_low, members_fit}
use Rattle.clause_encoder.proofs.encoder.encode_over.Goals as goal

pub count_vars-requires-clause-few : goal.count_vars-requires-clause-few
count_vars-requires-clause-few c = few_nodes c.args.greatest.now c.args.nodes.now c.requires.nodes (omega (arith, c.requires.n, c.requires.few))

pub count_vars-requires-clause-nodes : goal.count_vars-requires-clause-nodes
count_vars-requires-clause-nodes c = subst (λ (m : ℕ). All (λ v. v < m) c.args.nodes.now) (sym (c.requires.same_n ∙ c.requires.n)) (nodes_low c.args.greatest.now c.args.nodes.now c.requires.nodes)

pub returns-then-vars-gt-MOST_VARS-clause-too_large : goal.returns-then-vars-gt-MOST_VARS-clause-too_large
returns-then-vars-gt-MOST_VARS-clause-too_large c vars is =
    let same : vars ≡ c.in_ok-vars.vars = cc in
    (ap (λ (m : ℕ). m + 1) same ∙ c.in_ok-vars.ensures.vars, omega (arith, same))

pub encode_within-requires-clause-small : goal.encode_within-requires-clause-small
encode_within-requires-clause-small c = omega arith

pub of-map-requires : goal.of-map-requires
of-map-requires c = members_fit c.args.greatest.now c.args.nodes.now c.in_ok-vars.vars c.requires.nodes c.in_ok-vars.ensures.members

pub returns-clause-variables : goal.returns-clause-variables
returns-clause-variables c = (ap (λ (m : Variables). m.greatest) c.of-map.ensures, ap (λ (m : Variables). m.count + 1) c.of-map.ensures ∙ c.in_ok-vars.ensures.vars)

pub returns-clause-small : goal.returns-clause-small
returns-clause-small c = omega (arith, ap (λ (m : Variables). m.count) c.of-map.ensures)
