use Rattle.std.proofs.Common.{◌≡◌, rules, refl, sym, ap, subst, ◌∙◌, inr, length, Some, Ok, Err}
use Rattle.fbas_model.specs.Trees.{QuorumSet}
use Rattle.fbas_model.specs.Systems.{System}
use Rattle.fbas_core.specs.Replacing.{with_set}
use Rattle.whatif_session.specs.Sessions.{Session}
use Rattle.whatif_session.specs.Edited.{IsOwnSet}
use Rattle.whatif_session.specs.declared.change.Change.TheVariants as change
use Rattle.whatif_session.proofs.EditLaws.{drop_no, drop_none, drop_missing, drop_yes, few_changed}
use Rattle.whatif_session.proofs.Limits.{within_changed}
use Rattle.whatif_session.proofs.session.Session.drop_validator.Goals as goal

pub returns-in_err-v-clause-err : goal.returns-in_err-v-clause-err
returns-in_err-v-clause-err c =
    let r : c.from_residual.result ≡ Err c.in_err-v.field-0.0 = search rules in
    let s_is : c.self.inside.system ≡ c.args.self.now.system = ap (λ (x : Session). x.system) c.self.view_is in
    rw r (inr (drop_no c.args.self.now.system c.args.node.now c.args.path.now c.args.name.now c.in_err-v.field-0.0 (rw (← s_is) c.in_err-v.ensures.err)))

pub exchange-requires-clause-within : goal.exchange-requires-clause-within
exchange-requires-clause-within c =
    let s_is : c.self.inside.system ≡ c.args.self.now.system = ap (λ (x : Session). x.system) c.self.view_is in
    let is : IsOwnSet c.args.self.now.system c.args.node.now c.in_ok-v.v c.in_ok-v.own.now = subst (λ (s : System). IsOwnSet s c.args.node.now c.in_ok-v.v c.in_ok-v.own.now) s_is c.in_ok-v.ensures.ok in
    rw c.in_ok-changed.ensures (within_changed (length c.args.self.now.system.names) c.args.path.now (change.Drop c.in_ok-gone.gone) c.in_ok-v.own.now tt is.within)

pub exchange-requires-clause-few : goal.exchange-requires-clause-few
exchange-requires-clause-few c =
    let s_is : c.self.inside.system ≡ c.args.self.now.system = ap (λ (x : Session). x.system) c.self.view_is in
    let is : IsOwnSet c.args.self.now.system c.args.node.now c.in_ok-v.v c.in_ok-v.own.now = subst (λ (s : System). IsOwnSet s c.args.node.now c.in_ok-v.v c.in_ok-v.own.now) s_is c.in_ok-v.ensures.ok in
    rw c.in_ok-changed.ensures (few_changed c.args.self.now.system c.args.node.now c.in_ok-v.v c.in_ok-v.own.now c.args.path.now (change.Drop c.in_ok-gone.gone) is.limits is refl)

pub returns-in_default-clause-err : goal.returns-in_default-clause-err
returns-in_default-clause-err c =
    let s_is : c.self.inside.system ≡ c.args.self.now.system = ap (λ (x : Session). x.system) c.self.view_is in
    let is : IsOwnSet c.args.self.now.system c.args.node.now c.in_ok-v.v c.in_ok-v.own.now = subst (λ (s : System). IsOwnSet s c.args.node.now c.in_ok-v.v c.in_ok-v.own.now) s_is c.in_ok-v.ensures.ok in
    inr (drop_none c.args.self.now.system c.args.node.now c.args.path.now c.args.name.now c.in_ok-v.v c.in_ok-v.own.now is (sym c.in_default.ensures))

pub returns-in_err-gone-clause-err : goal.returns-in_err-gone-clause-err
returns-in_err-gone-clause-err c =
    let r : c.from_residual-in_err-gone.result ≡ Err c.in_err-gone.field-0.0 = search rules in
    let s_is : c.self.inside.system ≡ c.args.self.now.system = ap (λ (x : Session). x.system) c.self.view_is in
    let is : IsOwnSet c.args.self.now.system c.args.node.now c.in_ok-v.v c.in_ok-v.own.now = subst (λ (s : System). IsOwnSet s c.args.node.now c.in_ok-v.v c.in_ok-v.own.now) s_is c.in_ok-v.ensures.ok in
    rw r (inr (drop_missing c.args.self.now.system c.args.node.now c.args.path.now c.args.name.now c.in_ok-v.v c.in_ok-v.own.now c.in-Some.set.now c.in_err-gone.field-0.0 is (sym c.in-Some.ensures) (rw (← s_is) c.in_err-gone.ensures.err)))

pub returns-clause-ok : goal.returns-clause-ok
returns-clause-ok c =
    let s_is : c.self.inside.system ≡ c.args.self.now.system = ap (λ (x : Session). x.system) c.self.view_is in
    let is : IsOwnSet c.args.self.now.system c.args.node.now c.in_ok-v.v c.in_ok-v.own.now = subst (λ (s : System). IsOwnSet s c.args.node.now c.in_ok-v.v c.in_ok-v.own.now) s_is c.in_ok-v.ensures.ok in
    let s = c.args.self.now.system in
    drop_yes s c.args.node.now c.args.path.now c.args.name.now c.in_ok-v.v c.in_ok-gone.gone c.in_ok-v.own.now c.in-Some.set.now is (sym c.in-Some.ensures) (rw (← s_is) c.in_ok-gone.ensures.ok)
    ∙ ap (λ (d : QuorumSet). Ok (with_set s c.in_ok-v.v (Some d))) (sym c.in_ok-changed.ensures)
    ∙ ap (λ (x : Session). Ok x.system) (sym c.in_ok-exchange.ensures.exchanged)
