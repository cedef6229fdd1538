use Rattle.std.proofs.Common.{◌≡◌, ◌⊎◌, rules, sym, ap, subst, ◌∙◌, Ok, Err}
use Rattle.fbas_model.specs.Systems.{System}
use Rattle.whatif_session.specs.Sessions.{Session}
use Rattle.whatif_session.specs.Edited.{IsAppended, appended}
use Rattle.whatif_session.specs.declared.faults.EditFault.TheVariants.{Memory}
use Rattle.whatif_session.proofs.session.Session.append.Goals as goal

pub returns-in_err-v-clause-err : goal.returns-in_err-v-clause-err
returns-in_err-v-clause-err c =
    let e = c.in_err-v.field-0.0 in
    let r : c.from_residual.result ≡ Err e = search rules in
    let s_is : c.self.inside.system ≡ c.args.self.now.system = ap (λ (x : Session). x.system) c.self.view_is in
    rw r (subst (λ (s : System). (e ≡ Memory) ⊎ (appended s c.args.node.now c.args.path.now c.args.name.now ≡ Err e)) s_is c.in_err-v.ensures.err)

pub exchange-requires-clause-node : goal.exchange-requires-clause-node
exchange-requires-clause-node c =
    let s_is : c.self.inside.system ≡ c.args.self.now.system = ap (λ (x : Session). x.system) c.self.view_is in
    let is : IsAppended c.args.self.now.system c.args.node.now c.args.path.now c.args.name.now c.in_ok-v.v c.in_ok-v.set = subst (λ (s : System). IsAppended s c.args.node.now c.args.path.now c.args.name.now c.in_ok-v.v c.in_ok-v.set) s_is c.in_ok-v.ensures.ok in
    is.low

pub exchange-requires-clause-within : goal.exchange-requires-clause-within
exchange-requires-clause-within c =
    let s_is : c.self.inside.system ≡ c.args.self.now.system = ap (λ (x : Session). x.system) c.self.view_is in
    let is : IsAppended c.args.self.now.system c.args.node.now c.args.path.now c.args.name.now c.in_ok-v.v c.in_ok-v.set = subst (λ (s : System). IsAppended s c.args.node.now c.args.path.now c.args.name.now c.in_ok-v.v c.in_ok-v.set) s_is c.in_ok-v.ensures.ok in
    is.within

pub exchange-requires-clause-few : goal.exchange-requires-clause-few
exchange-requires-clause-few c =
    let s_is : c.self.inside.system ≡ c.args.self.now.system = ap (λ (x : Session). x.system) c.self.view_is in
    let is : IsAppended c.args.self.now.system c.args.node.now c.args.path.now c.args.name.now c.in_ok-v.v c.in_ok-v.set = subst (λ (s : System). IsAppended s c.args.node.now c.args.path.now c.args.name.now c.in_ok-v.v c.in_ok-v.set) s_is c.in_ok-v.ensures.ok in
    is.few

pub returns-clause-ok : goal.returns-clause-ok
returns-clause-ok c =
    let s_is : c.self.inside.system ≡ c.args.self.now.system = ap (λ (x : Session). x.system) c.self.view_is in
    let is : IsAppended c.args.self.now.system c.args.node.now c.args.path.now c.args.name.now c.in_ok-v.v c.in_ok-v.set = subst (λ (s : System). IsAppended s c.args.node.now c.args.path.now c.args.name.now c.in_ok-v.v c.in_ok-v.set) s_is c.in_ok-v.ensures.ok in
    is.is ∙ ap (λ (x : Session). Ok x.system) (sym c.in_ok-exchange.ensures.exchanged)
