use Rattle.std.proofs.Common.{◌≡◌, ◌<◌, rules, ap, length}
use Rattle.whatif_session.specs.Sessions.{Session}
use Rattle.whatif_session.proofs.EditLaws.{within_bare, few_bare}
use Rattle.whatif_session.proofs.session.Session.give_bare_set.Goals as goal

pub exchange-requires-clause-within : goal.exchange-requires-clause-within
exchange-requires-clause-within c = rw c.bare_set.ensures (within_bare (length c.args.self.now.system.names))

pub exchange-requires-clause-few : goal.exchange-requires-clause-few
exchange-requires-clause-few c =
    let s_is : c.self.inside.system ≡ c.args.self.now.system = ap (λ (x : Session). x.system) c.self.view_is in
    let low : c.in_ok-v.v < length c.self.inside.system.sets = search rules in
    rw (c.bare_set.ensures, ← s_is) (few_bare c.self.inside.system c.in_ok-v.v c.find.ensures.system low)
