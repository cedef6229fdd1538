use Rattle.std.proofs.Common.{◌≡◌, [], subst, true}
use Rattle.std.proofs.lemmas.Option.{get_or_from_slice_get}
use Rattle.fbas_model.specs.Names.{Name, is_key}
use Rattle.config_text.specs.Written.{name_of}
use Rattle.config_text.proofs.Trees.{key_is_text}
use Rattle.config_text.proofs.tree.name_text.Goals as goal

pub unreachable-requires : goal.unreachable-requires
unreachable-requires c =
    let here : name_of c.args.names.now c.args.v ≡ c.name.result.now = get_or_from_slice_get c.args.names.now c.args.v c.name.result.now [] c.name.ensures in
    c.in_default.ensures.cases.0 (key_is_text c.name.result.now (subst (λ (name : Name). is_key name ≡ true) here (c.requires.keys c.args.v [] c.requires.node)))
