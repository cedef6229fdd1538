use Rattle.std.proofs.Common.{◌≡◌, ◌≤◌, false, Some, ◌∙◌, ap, string_bytes, String, Global, arith}
use Rattle.std.proofs.lemmas.Result.{IfOk-weaker}
use Rattle.std.proofs.lemmas.Str.{is_utf8-from_IsUtf8, IsUtf8-string_bytes}
use Rattle.serde_json.specs.Data.{depth}
use Rattle.serde_json.specs.Read.{max_depth, read}
use Rattle.serde_json.specs.View.{view}
use Rattle.serde_json.specs.Written.{has_float, compact_text}
use Rattle.node_json.specs.Reading.{tree_of}
use Rattle.config_text.specs.Written.{config_data, config_text, nodes_named}
use Rattle.config_text.proofs.Placed.{reads_back}
use Rattle.config_text.proofs.Trees.{config_whole, config_shallow}
use Rattle.config_text.proofs.write_config.Goals as goal

pub returns-clause-text : goal.returns-clause-text
unfolding config_text
returns-clause-text c =
    let is = c.in_ok-config_tree.ensures.tree in
    let whole : has_float (view c.in_ok-config_tree.field-0) ≡ false = ap has_float is ∙ config_whole (nodes_named c.args.system.now) in
    IfOk-weaker c.to_string.result _ _ (λ s h. h whole ∙ ap compact_text is) c.to_string.ensures.text

pub returns-clause-tree : goal.returns-clause-tree
unfolding tree_of
returns-clause-tree c =
    let is = c.in_ok-config_tree.ensures.tree in
    let shallow : depth (view c.in_ok-config_tree.field-0) ≤ max_depth = rw is (let low = config_shallow c.args.system.now c.in_ok-config_tree.ensures.limits in omega (arith, low)) in
    let d = view c.in_ok-config_tree.field-0 in
    IfOk-weaker c.to_string.result (λ (s : String Global). depth d ≤ max_depth → read (string_bytes s) ≡ Some d) _
    (λ s h. rw (is_utf8-from_IsUtf8 (string_bytes s) (IsUtf8-string_bytes s)) (h shallow ∙ ap Some is)) c.to_string.ensures.reads_back

pub returns-clause-reads_back : goal.returns-clause-reads_back
returns-clause-reads_back c =
    IfOk-weaker c.to_string.result (λ (s : String Global). tree_of (string_bytes s) ≡ Some (config_data (nodes_named c.args.system.now))) _
    (λ s h. reads_back c.args.system.now (string_bytes s) c.in_ok-config_tree.ensures.limits c.in_ok-config_tree.ensures.sorted c.in_ok-config_tree.ensures.listed h) (returns-clause-tree c)
