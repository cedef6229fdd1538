use Rattle.std.proofs.Common.{◌≡◌, ◌++◌, ◌∷◌, [], List, map, rules, sym, ap, ap₂, ◌∙◌}
use Rattle.std.proofs.lemmas.List.{map-append}
use Rattle.fbas_model.specs.Names.{Name}
use Rattle.node_json.proofs.names.owned_names.Goals as goal

pub loop-name-preserved : goal.loop-name-preserved
loop-name-preserved c =
    let owned : c.in_ok-to_vec.field-0.items ≡ c.in-Some.name.now = search rules in
    ap (map (λ name. name.items)) c.in_ok-push.ensures.items ∙ map-append (λ name. name.items) c.loop-name.list.items (c.in_ok-to_vec.field-0 ∷ [])
    ∙ ap₂ (λ (names : List Name) (name : Name). names ++ name ∷ []) c.loop-name.invariant owned ∙ sym (map-append (λ name. name.now) c.loop-name.yielded (c.in-Some.name ∷ []))
