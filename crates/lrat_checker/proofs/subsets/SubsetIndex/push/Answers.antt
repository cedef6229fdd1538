use Rattle.std.proofs.Common.{List, [], ◌∷◌, ◌++◌, ap, ◌∙◌, sym, map, set, get_or, ◌≡◌, ◌<◌, arith, length}
use Rattle.std.specs.Global.{Vec}
use Rattle.std.proofs.lemmas.List.{map-set, get_or-map, length-map}
use Rattle.lrat_checker.specs.Keys.{slot_of}
use Rattle.lrat_checker.specs.Subsets.{list_at}
use Rattle.lrat_checker.specs.declared.subsets.Watch.{Watch}
use Rattle.lrat_checker.proofs.subsets.SubsetIndex.push.Goals as goal

pub returns-clause-pushed : goal.returns-clause-pushed
returns-clause-pushed c =
    let shown = λ (v : Vec Watch). v.items in
    let lists = c.self.inside.lists.items in
    let i = c.slot_of-slot.result in
    let key = c.args.code in
    let many : c.len.result ≡ length lists = c.len.ensures ∙ c.self.inside.lists.ok.0 in
    let within : i < length lists = omega (arith, c.slot_of-slot.ensures.within, many) in
    let at : i ≡ slot_of (length (map shown lists)) key = c.slot_of-slot.ensures.value ∙ ap (λ n. slot_of n key) (many ∙ sym (length-map lists shown)) in
    let here : c.index_mut.result.now.items ≡ get_or (map shown lists) i [] = ap (λ (v : Vec Watch). v.items) c.index_mut.ensures.value ∙ sym (get_or-map shown lists i c.index_mut.result.now [] within) in
    map-set shown lists i c.push.new.self
    ∙ ap (λ (ws : List Watch). set (map shown lists) i ws) (c.in_ok-push.ensures.items ∙ ap (λ (ws : List Watch). ws ++ c.args.watch ∷ []) here)
    ∙ ap (λ k. set (map shown lists) k (get_or (map shown lists) k [] ++ c.args.watch ∷ [])) at
    ∙ ap (λ (xs : List (List Watch)). set xs (slot_of (length xs) key) (list_at xs key ++ c.args.watch ∷ [])) c.self.view_is

pub returns-clause-within : goal.returns-clause-within
returns-clause-within c =
    let shown = λ (v : Vec Watch). v.items in
    let lists = c.self.inside.lists.items in
    let key = c.args.code in
    let many : c.len.result ≡ length lists = c.len.ensures ∙ c.self.inside.lists.ok.0 in
    let long : length lists ≡ length c.args.self.now = sym (length-map lists shown) ∙ ap (λ (ls : List (List Watch)). length ls) c.self.view_is in
    let at : c.slot_of-slot.result ≡ slot_of (length c.args.self.now) key = c.slot_of-slot.ensures.value ∙ ap (λ n. slot_of n key) (many ∙ long) in
    omega (arith, at, c.slot_of-slot.ensures.within, many, long)
