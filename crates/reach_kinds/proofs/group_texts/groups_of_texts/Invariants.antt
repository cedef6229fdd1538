use Rattle.std.proofs.Common.{◌≡◌, ◌++◌, List, length}
use Rattle.fbas_model.specs.Names.{Name, marks}
use Rattle.node_json.specs.Groups.{texts_of}
use Rattle.reach_kinds.specs.Bodies.{all_among}
use Rattle.reach_kinds.proofs.group_texts.groups_of_texts.Given as goal

abbrev pub invariant-loop-text : goal.invariant-loop-text
invariant-loop-text l = record {
  size : length l.set ≡ length l.groups;
  known : all_among l.initial.texts (texts_of l.groups) ≡ all_among l.texts (texts_of l.groups);
  marked : (done : List Name) × (l.initial.texts ≡ done ++ l.texts) × (l.set ≡ marks (texts_of l.groups) done);
}
