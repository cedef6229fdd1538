use Rattle.std.proofs.Common.{Some, ◌∙◌, ap, sym, subst}
use Rattle.fbas_model.specs.Nodes.{∅}
use Rattle.fbas_model.specs.Fbas.{Intersects}
use Rattle.fbas_model.specs.Systems.{System}
use Rattle.node_json.specs.Configuration.{system_of}
use Rattle.node_json.specs.Reading.{tree_of}
use Rattle.config_text.specs.Written.{config_data, config_text, nodes_named}
use Rattle.trial_network.proofs.Meeting.{trial_intersects}
use Rattle.trial_network.proofs.Trees.{tree_is, text_is}
use Rattle.trial_network.proofs.configuration.Trial.of.Goals as goal

pub returns-clause-text : goal.returns-clause-text
returns-clause-text c = c.in_ok-text.ensures.text ∙ ap config_text c.in_ok-system.ensures ∙ text_is c.args.organisations

pub returns-clause-tree : goal.returns-clause-tree
returns-clause-tree c =
    ap tree_of (sym (returns-clause-text c)) ∙ c.in_ok-text.ensures.tree ∙ ap (λ (s : System). Some (config_data (nodes_named s))) c.in_ok-system.ensures ∙ ap Some (tree_is c.args.organisations)

pub returns-clause-read : goal.returns-clause-read
returns-clause-read c = ap system_of (sym (returns-clause-text c)) ∙ c.in_ok-text.ensures.reads_back

pub returns-clause-intersects : goal.returns-clause-intersects
returns-clause-intersects c = subst (λ (s : System). Intersects s.sets ∅) (sym c.in_ok-system.ensures) (trial_intersects c.args.organisations c.requires.some)
