use Rattle.std.proofs.Common.{◌≡◌, rules, sym, ap, subst, ◌∙◌, inr, Ok, Err}
use Rattle.fbas_model.specs.Systems.{System}
use Rattle.whatif_session.specs.Sessions.{Session}
use Rattle.whatif_session.specs.Edited.{IsOwnSet}
use Rattle.whatif_session.proofs.EditLaws.{retire_no, retire_yes, few_without}
use Rattle.whatif_session.proofs.session.Session.retire.Goals as goal

pub returns-in_err-v-clause-err : goal.returns-in_err-v-clause-err
returns-in_err-v-clause-err c =
    let r : c.from_residual.result ≡ Err c.in_err-v.field-0.0 = search rules in
    let s_is : c.self.inside.system ≡ c.args.self.now.system = ap (λ (x : Session). x.system) c.self.view_is in
    rw r (inr (retire_no c.args.self.now.system c.args.node.now c.in_err-v.field-0.0 (rw (← s_is) c.in_err-v.ensures.err)))

pub exchange-requires-clause-few : goal.exchange-requires-clause-few
exchange-requires-clause-few c =
    let s_is : c.self.inside.system ≡ c.args.self.now.system = ap (λ (x : Session). x.system) c.self.view_is in
    let is : IsOwnSet c.args.self.now.system c.args.node.now c.in_ok-v.v c.in_ok-v.field-0-1.now = subst (λ (s : System). IsOwnSet s c.args.node.now c.in_ok-v.v c.in_ok-v.field-0-1.now) s_is c.in_ok-v.ensures.ok in
    few_without c.args.self.now.system c.args.node.now c.in_ok-v.v c.in_ok-v.field-0-1.now is.limits is

pub returns-clause-ok : goal.returns-clause-ok
returns-clause-ok c =
    let s_is : c.self.inside.system ≡ c.args.self.now.system = ap (λ (x : Session). x.system) c.self.view_is in
    let is : IsOwnSet c.args.self.now.system c.args.node.now c.in_ok-v.v c.in_ok-v.field-0-1.now = subst (λ (s : System). IsOwnSet s c.args.node.now c.in_ok-v.v c.in_ok-v.field-0-1.now) s_is c.in_ok-v.ensures.ok in
    retire_yes c.args.self.now.system c.args.node.now c.in_ok-v.v c.in_ok-v.field-0-1.now is ∙ ap (λ (x : Session). Ok x.system) (sym c.in_ok-exchange.ensures.exchanged)
