use Rattle.std.proofs.Common.{List, [], ap, ◌∙◌, map, set}
use Rattle.std.specs.Global.{Vec}
use Rattle.std.proofs.lemmas.List.{map-set}
use Rattle.cdcl_core.specs.Watches.{index_of}
use Rattle.cdcl_core.specs.declared.watches.Watch.{Watch}
use Rattle.cdcl_core.proofs.watches.WatchLists.take.Goals as goal

pub returns-clause-rest : goal.returns-clause-rest
returns-clause-rest c =
    let shown = λ (v : Vec Watch). v.items in
    map-set shown c.self.inside.lists.items c.place_of.result c.replace.new.dest
    ∙ ap (λ (v : Vec Watch). set (map shown c.self.inside.lists.items) c.place_of.result v.items) c.replace.ensures.after
    ∙ ap (λ (ws : List Watch). set (map shown c.self.inside.lists.items) c.place_of.result ws) c.new.ensures.items
    ∙ ap (λ k. set (map shown c.self.inside.lists.items) k []) c.place_of.ensures
    ∙ ap (λ (xs : List (List Watch)). set xs (index_of c.args.l) []) c.self.view_is
