use Rattle.std.proofs.Common.{◌≡◌, ◌+◌, ◌++◌, ◌∷◌, [], length, take, arith, ap, sym, ◌∙◌}
use Rattle.node_json.specs.View.{names_view}
use Rattle.fbas_model.specs.Names.{marks}
use Rattle.fbas_model.proofs.Marks.{marks-none, marks-found, marks-missing}
use Rattle.node_json.proofs.OrgMarks.{names-more}
use Rattle.node_json.proofs.organisations.marked.Goals as goal
use Rattle.node_json.proofs.organisations.marked.Goals.{in-Some, in_default}

pub loop-name-init : goal.loop-name-init
loop-name-init c =
    let size : length c.new-nodes.result ≡ length c.args.names.now = c.new-nodes.ensures.size ∙ c.len.ensures in
    (size, marks-none c.args.names.now c.new-nodes.result size c.new-nodes.ensures.empty)

pub loop-name-preserved : goal.loop-name-preserved
loop-name-preserved c =
    let names = c.args.names.now in
    let list = c.args.list.now in
    let i = c.loop-name.name-index in
    let item = c.as_bytes.result.now in
    let grown : names_view (take (i + 1) list) ≡ names_view (take i list) ++ item ∷ [] = names-more list i _ item (omega arith) c.as_bytes.ensures.value in
    elim c.match-find.branch [
      | in-Some w ↦ rw w.nodes-is (w.put.ensures.size ∙ c.loop-name.invariant.0, marks-found names c.loop-name.nodes w.put.new.self (names_view (take i list)) item w.in-Some.at w.in-Some.ensures.found w.in-Some.ensures.only (w.put.ensures.size ∙ c.loop-name.invariant.0) w.put.ensures.added c.loop-name.invariant.1 ∙ ap (marks names) (sym grown))
      | in_default w ↦ rw w.nodes-is (c.loop-name.invariant.0, marks-missing names c.loop-name.nodes (names_view (take i list)) item w.in_default.ensures.found c.loop-name.invariant.0 c.loop-name.invariant.1 ∙ ap (marks names) (sym grown))
    ]
