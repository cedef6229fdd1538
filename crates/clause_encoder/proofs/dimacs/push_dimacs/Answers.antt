use Rattle.std.proofs.Common.{length, codes, rules, ap}
use Rattle.fbas_model.specs.Nodes.{listed_from}
use Rattle.lrat_model.specs.Steps.{Database}
use Rattle.clause_encoder.specs.Formula.{side_a, side_b}
use Rattle.clause_encoder.specs.Dimacs.{side_lines, clause_lines, header}
use Rattle.clause_encoder.proofs.DimacsLaws.{four_pieces}
use Rattle.clause_encoder.proofs.dimacs.push_dimacs.Goals as goal

pub returns : goal.returns
returns c clauses is =
    let names = c.args.system.now.names in
    let map = c.args.map.now in
    let last = ap (λ (d : Database). d.last) is in
    four_pieces c.args.text.now.items c.push_side_lines.new.text.items c.push_side_lines-2.new.text.items c.push_header.new.text.items c.push_clause_lines.new.text.items
    (side_lines (side_a map.greatest) (codes " a ") names (listed_from 0 map.greatest)) (side_lines (side_b map.greatest) (codes " b ") names (listed_from 0 map.greatest)) (header map.count (length clauses)) (clause_lines clauses)
    (search rules) (search rules) (search (rules, last)) (c.in_ok-push_clause_lines.ensures clauses is)
