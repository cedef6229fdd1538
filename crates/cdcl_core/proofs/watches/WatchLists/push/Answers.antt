use Rattle.std.proofs.Common.{List, [], ◌∷◌, ◌++◌, ap, ◌∙◌, sym, map, set, get_or, ◌≡◌, arith, length}
use Rattle.std.specs.Global.{Vec}
use Rattle.std.proofs.lemmas.List.{map-set, get_or-map, length-map}
use Rattle.cdcl_core.specs.Watches.{index_of, list_at}
use Rattle.cdcl_core.specs.declared.watches.Watch.{Watch}
use Rattle.cdcl_core.proofs.watches.WatchLists.push.Goals as goal

pub returns : goal.returns
returns c =
    let shown = λ (v : Vec Watch). v.items in
    let lists = c.self.inside.lists.items in
    let i = c.place_of.result in
    let here : c.index_mut.result.now.items ≡ get_or (map shown lists) i [] = ap (λ (v : Vec Watch). v.items) c.index_mut.ensures.value ∙ sym (get_or-map shown lists i c.index_mut.result.now [] (omega (arith, c.requires, ap (λ (xs : List (List Watch)). length xs) c.self.view_is, length-map lists shown, c.place_of.ensures))) in
    map-set shown lists i c.push.new.self
    ∙ ap (λ (ws : List Watch). set (map shown lists) i ws) (c.in_ok-push.ensures.items ∙ ap (λ (ws : List Watch). ws ++ c.args.watch ∷ []) here)
    ∙ ap (λ k. set (map shown lists) k (get_or (map shown lists) k [] ++ c.args.watch ∷ [])) c.place_of.ensures
    ∙ ap (λ (xs : List (List Watch)). set xs (index_of c.args.l) (list_at xs c.args.l ++ c.args.watch ∷ [])) c.self.view_is
