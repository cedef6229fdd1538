use Rattle.std.proofs.Common.{◌≡◌, ◌⊎◌, rules, sym, ap, subst, ◌∙◌, inr, Ok, Err}
use Rattle.fbas_model.specs.Systems.{System}
use Rattle.whatif_session.specs.declared.faults.EditFault.TheVariants.{Memory}
use Rattle.whatif_session.specs.Sessions.{Session}
use Rattle.whatif_session.specs.Names.{with_node}
use Rattle.whatif_session.specs.Edited.{edited, appended}
use Rattle.whatif_session.specs.Edits.{Add}
use Rattle.whatif_session.proofs.EditLaws.{add_no, add_none, add_fault, add_then, known_node, on_then, err_then, fault_by}
use Rattle.whatif_session.proofs.session.Session.add_validator.Goals as goal

pub returns-in_err-own-clause-err : goal.returns-in_err-own-clause-err
returns-in_err-own-clause-err c =
    let r : c.from_residual.result ≡ Err c.in_err-own.field-0.0 = search rules in
    let same : c.self.inside.system ≡ c.args.self.now.system = ap (λ (x : Session). x.system) c.self.view_is in
    rw (r, ← same) (inr (add_no c.self.inside.system c.args.node.now c.args.path.now c.args.name.now c.in_err-own.field-0.0 c.in_err-own.ensures.err))

pub returns-in_default-clause-err : goal.returns-in_default-clause-err
returns-in_default-clause-err c =
    let same : c.self.inside.system ≡ c.args.self.now.system = ap (λ (x : Session). x.system) c.self.view_is in
    rw (← same) (inr (add_none c.self.inside.system c.args.node.now c.args.path.now c.args.name.now c.in_ok-own.field-0-0 c.in_ok-own.own.now c.in_ok-own.ensures.ok (sym c.in_default.ensures)))

pub returns-in_err-session-clause-err : goal.returns-in_err-session-clause-err
returns-in_err-session-clause-err c =
    let e = c.in_err-session.field-0.0 in
    let r : c.from_residual-in_err-session.result ≡ Err e = search rules in
    let same : c.self.inside.system ≡ c.args.self.now.system = ap (λ (x : Session). x.system) c.self.view_is in
    rw (r, ← same) (fault_by e (with_node c.self.inside.system c.args.name.now) _ (add_fault c.self.inside.system c.args.node.now c.args.path.now c.args.name.now c.in_ok-own.field-0-0 c.in_ok-own.own.now _ e c.in_ok-own.ensures.ok (sym c.in-Some.ensures)) (subst (λ (s : System). (e ≡ Memory) ⊎ (with_node s c.args.name.now ≡ Err e)) (sym same) c.in_err-session.ensures.err))

pub returns-in_err-append-clause-err : goal.returns-in_err-append-clause-err
returns-in_err-append-clause-err c =
    let e = c.in_err-append.field-0.0 in
    let r : c.from_residual-in_err-append.result ≡ Err e = search rules in
    let same : c.self.inside.system ≡ c.args.self.now.system = ap (λ (x : Session). x.system) c.self.view_is in
    let then = add_then c.self.inside.system c.in_ok-session.session.system c.args.node.now c.args.path.now c.args.name.now c.in_ok-own.field-0-0 c.in_ok-own.own.now _ c.in_ok-own.ensures.ok (sym c.in-Some.ensures) (subst (λ (s : System). with_node s c.args.name.now ≡ Ok c.in_ok-session.session.system) (sym same) c.in_ok-session.ensures.ok) in
    rw (r, ← same) (fault_by e (appended c.in_ok-session.session.system c.args.node.now c.args.path.now c.args.name.now) _ (λ fault. then ∙ fault) c.in_err-append.ensures.err)

pub returns-in_default-find-clause-ok : goal.returns-in_default-find-clause-ok
returns-in_default-find-clause-ok c =
    let same : c.self.inside.system ≡ c.args.self.now.system = ap (λ (x : Session). x.system) c.self.view_is in
    let then = add_then c.self.inside.system c.in_ok-session.session.system c.args.node.now c.args.path.now c.args.name.now c.in_ok-own.field-0-0 c.in_ok-own.own.now _ c.in_ok-own.ensures.ok (sym c.in-Some.ensures) (subst (λ (s : System). with_node s c.args.name.now ≡ Ok c.in_ok-session.session.system) (sym same) c.in_ok-session.ensures.ok) in
    rw (← same) (then ∙ c.in_ok-append.ensures.ok ∙ ap (λ (x : Session). Ok x.system) (sym c.session.view_is))

pub returns-clause-ok : goal.returns-clause-ok
returns-clause-ok c =
    let same : c.self.inside.system ≡ c.args.self.now.system = ap (λ (x : Session). x.system) c.self.view_is in
    let then = subst (λ (t : System). edited t (Add c.args.node.now c.args.path.now c.args.name.now) ≡ appended t c.args.node.now c.args.path.now c.args.name.now) same (add_then c.self.inside.system c.self.inside.system c.args.node.now c.args.path.now c.args.name.now c.in_ok-own.field-0-0 c.in_ok-own.own.now _ c.in_ok-own.ensures.ok (sym c.in-Some.ensures) (known_node c.self.inside.system c.args.name.now c.in-Some-find.field-0 (sym c.find.ensures.place ∙ c.in-Some-find.is))) in
    on_then c.append-2.result _ _ (Ok c.append-2.new.self.system) then c.append-2.ensures.ok

pub returns-clause-err : goal.returns-clause-err
returns-clause-err c =
    let same : c.self.inside.system ≡ c.args.self.now.system = ap (λ (x : Session). x.system) c.self.view_is in
    let then = subst (λ (t : System). edited t (Add c.args.node.now c.args.path.now c.args.name.now) ≡ appended t c.args.node.now c.args.path.now c.args.name.now) same (add_then c.self.inside.system c.self.inside.system c.args.node.now c.args.path.now c.args.name.now c.in_ok-own.field-0-0 c.in_ok-own.own.now _ c.in_ok-own.ensures.ok (sym c.in-Some.ensures) (known_node c.self.inside.system c.args.name.now c.in-Some-find.field-0 (sym c.find.ensures.place ∙ c.in-Some-find.is))) in
    err_then c.append-2.result _ _ then c.append-2.ensures.err
