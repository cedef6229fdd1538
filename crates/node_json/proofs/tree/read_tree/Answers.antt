use Rattle.std.proofs.Common.{inr, refl}
use Rattle.node_json.proofs.NodeReading.{tree_of-text, tree_of-no_text}
use Rattle.node_json.proofs.tree.read_tree.Goals as goal

pub returns-in_default-clause-err : goal.returns-in_default-clause-err
returns-in_default-clause-err c = inr (refl, tree_of-no_text _ c.in_default.ensures.cases.0)

pub returns-clause-ok : goal.returns-clause-ok
returns-clause-ok c = rw (tree_of-text _ c.in-Ok.ensures.cases.1, ← c.in-Ok.ensures.cases.0) c.read_text.ensures.ok

pub returns-clause-err : goal.returns-clause-err
returns-clause-err c = rw (tree_of-text _ c.in-Ok.ensures.cases.1, ← c.in-Ok.ensures.cases.0) c.read_text.ensures.err
