use Rattle.std.proofs.Common.{◌∙◌}
use Rattle.name_set.proofs.SetOrder.{by_both, by_one, by_other, by_none}
use Rattle.name_set.proofs.words.cmp_from.Goals as goal

pub returns-in-Some-Some : goal.returns-in-Some-Some
returns-in-Some-Some g c = c.cmp.ensures ∙ by_both c.args.a.now c.args.b.now c.args.at c.requires c.in-Some-Some.one c.in-Some-Some.other c.in-Some-Some.ensures c.in-Some-Some.ensures'

pub returns-in-Some-None : goal.returns-in-Some-None
returns-in-Some-None g c = by_one c.args.a.now c.args.b.now c.args.at c.requires c.in-Some-None.field-0-0 c.in-Some-None.ensures c.in-Some-None.ensures'

pub returns-in-None-Some : goal.returns-in-None-Some
returns-in-None-Some g c = by_other c.args.a.now c.args.b.now c.args.at c.requires c.in-None-Some.field-0-1 (rw c.in-None-Some.is-0 at c.least_from.ensures) c.in-None-Some.ensures

pub returns-in-None-None : goal.returns-in-None-None
returns-in-None-None g c = by_none c.args.a.now c.args.b.now c.args.at c.requires (rw c.in-None-None.is-0 at c.least_from.ensures) c.in-None-None.ensures
