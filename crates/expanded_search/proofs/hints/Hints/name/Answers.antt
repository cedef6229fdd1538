use Rattle.std.proofs.Common.{ℕ, List, sym, subst, arith}
use Rattle.expanded_search.specs.Named.{AreNamed}
use Rattle.expanded_search.proofs.NamedLaws.{named_push}
use Rattle.expanded_search.proofs.hints.Hints.name.Goals as goal

pub returns : goal.returns
returns c =
    let held = c.args.checker.now.database.held in
    let ids = c.args.self.now.ids.items in
    subst (λ (is : List ℕ). AreNamed held is) (sym c.in_ok-push.ensures.items)
    (named_push held ids c.args.id c.requires (c.in-Some._clause.now, sym c.in-Some.ensures) (omega (arith, c.if-id-eq0.false), omega (arith, c.if-id-ge-END_OF_IDS.false)))
