use Rattle.std.proofs.Common.{◌≡◌, ℕ, Option, Ok, ap, subst}
use Rattle.std.specs.Prelude.{IfSome}
use Rattle.lrat_model.specs.Steps.{Database}
use Rattle.expanded_search.specs.Found.{IsRefuting}
use Rattle.expanded_search.specs.declared.carrier.Carrier.{Carrier}
use Rattle.expanded_search.proofs.searching.carry_over.Goals as goal

pub returns-in-Refuted : goal.returns-in-Refuted
returns-in-Refuted c =
    let from = c.in-Some.carrier in
    let log = c.carry.new.carrier.log in
    let vars : from.vars ≡ c.args.vars = subst (λ (o : Option Carrier). IfSome o (λ (x : Carrier). x.vars ≡ c.args.vars)) c.in-Some.is c.in_ok-carrier.ensures.vars in
    let database : from.checker.database ≡ c.args.formula.now = subst (λ (o : Option Carrier). IfSome o (λ (x : Carrier). x.checker.database ≡ c.args.formula.now)) c.in-Some.is c.in_ok-carrier.ensures.database in
    let there : IsRefuting from.vars from.checker.database c.args.budget log = c.in_ok-carry.ensures.refuted (ap Ok c.in-Refuted.is) in
    let among : IsRefuting c.args.vars from.checker.database c.args.budget log = subst (λ (n : ℕ). IsRefuting n from.checker.database c.args.budget log) vars there in
    subst (λ (d : Database). IsRefuting c.args.vars d c.args.budget log) database among
