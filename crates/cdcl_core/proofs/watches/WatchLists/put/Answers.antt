use Rattle.std.proofs.Common.{List, ap, ◌∙◌, map, set}
use Rattle.std.specs.Global.{Vec}
use Rattle.std.proofs.lemmas.List.{map-set}
use Rattle.cdcl_core.specs.Watches.{index_of}
use Rattle.cdcl_core.specs.declared.watches.Watch.{Watch}
use Rattle.cdcl_core.proofs.watches.WatchLists.put.Goals as goal

pub returns : goal.returns
returns c =
    let shown = λ (v : Vec Watch). v.items in
    map-set shown c.self.inside.lists.items c.place_of.result c.args.list
    ∙ ap (λ k. set (map shown c.self.inside.lists.items) k c.args.list.items) c.place_of.ensures
    ∙ ap (λ (xs : List (List Watch)). set xs (index_of c.args.l) c.args.list.items) c.self.view_is
