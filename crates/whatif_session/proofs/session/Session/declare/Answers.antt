use Rattle.std.proofs.Common.{◌≡◌, ◌⊎◌, rules, sym, ap, subst, ◌∙◌, inr, Ok, Err}
use Rattle.fbas_model.specs.Systems.{System}
use Rattle.whatif_session.specs.declared.faults.EditFault.TheVariants.{Memory}
use Rattle.whatif_session.specs.Sessions.{Session}
use Rattle.whatif_session.specs.Names.{with_node}
use Rattle.whatif_session.specs.Edited.{edited, declared}
use Rattle.whatif_session.specs.Edits.{Declare}
use Rattle.whatif_session.proofs.EditLaws.{declare_already, declare_fault, declare_open, missing_open, there_open, known_node, set_there, set_missing, on_then, fault_by}
use Rattle.whatif_session.proofs.session.Session.declare.Goals as goal

pub returns-in_err-session-clause-err : goal.returns-in_err-session-clause-err
returns-in_err-session-clause-err c =
    let e = c.in_err-session.field-0.0 in
    let r : c.from_residual.result ≡ Err e = search rules in
    let same : c.self.inside.system ≡ c.args.self.now.system = ap (λ (x : Session). x.system) c.self.view_is in
    rw (r, ← same) (fault_by e (with_node c.self.inside.system c.args.node.now) _ (declare_fault c.self.inside.system c.args.node.now e (missing_open c.self.inside.system c.args.node.now (sym c.find.ensures.place ∙ c.in_default.is))) (subst (λ (s : System). (e ≡ Memory) ⊎ (with_node s c.args.node.now ≡ Err e)) (sym same) c.in_err-session.ensures.err))

pub returns-in_err-give_bare_set-clause-err : goal.returns-in_err-give_bare_set-clause-err
returns-in_err-give_bare_set-clause-err c =
    let e = c.in_err-give_bare_set.field-0.0 in
    let r : c.from_residual-in_err-give_bare_set.result ≡ Err e = search rules in
    let same : c.self.inside.system ≡ c.args.self.now.system = ap (λ (x : Session). x.system) c.self.view_is in
    let then = declare_open c.self.inside.system c.in_ok-session.session.system c.args.node.now (missing_open c.self.inside.system c.args.node.now (sym c.find.ensures.place ∙ c.in_default.is)) (subst (λ (s : System). with_node s c.args.node.now ≡ Ok c.in_ok-session.session.system) (sym same) c.in_ok-session.ensures.ok) in
    rw (r, ← same) (fault_by e (declared c.in_ok-session.session.system c.args.node.now) _ (λ fault. then ∙ fault) c.in_err-give_bare_set.ensures.err)

pub returns-in_default-clause-ok : goal.returns-in_default-clause-ok
returns-in_default-clause-ok c =
    let same : c.self.inside.system ≡ c.args.self.now.system = ap (λ (x : Session). x.system) c.self.view_is in
    let then = declare_open c.self.inside.system c.in_ok-session.session.system c.args.node.now (missing_open c.self.inside.system c.args.node.now (sym c.find.ensures.place ∙ c.in_default.is)) (subst (λ (s : System). with_node s c.args.node.now ≡ Ok c.in_ok-session.session.system) (sym same) c.in_ok-session.ensures.ok) in
    rw (← same) (then ∙ c.in_ok-give_bare_set.ensures.ok ∙ ap (λ (x : Session). Ok x.system) (sym c.session.view_is))

pub returns-then-is_some-clause-err : goal.returns-then-is_some-clause-err
returns-then-is_some-clause-err c =
    let same : c.self.inside.system ≡ c.args.self.now.system = ap (λ (x : Session). x.system) c.self.view_is in
    let there = set_there c.self.inside.system c.in-Some.v c.quorum_set.result c.quorum_set.ensures.set (sym c.is_some.ensures ∙ c.if-is_some.true) in
    rw (← same) (inr (declare_already c.self.inside.system c.args.node.now c.in-Some.v there.0 (sym c.find.ensures.place ∙ c.in-Some.is) there.1))

pub returns-clause-ok : goal.returns-clause-ok
returns-clause-ok c =
    let same : c.self.inside.system ≡ c.args.self.now.system = ap (λ (x : Session). x.system) c.self.view_is in
    let lacks = set_missing c.self.inside.system c.in-Some.v c.quorum_set.result c.quorum_set.ensures.set (sym c.is_some.ensures ∙ c.if-is_some.false) in
    let then = subst (λ (t : System). edited t (Declare c.args.node.now) ≡ declared t c.args.node.now) same (declare_open c.self.inside.system c.self.inside.system c.args.node.now (there_open c.self.inside.system c.args.node.now c.in-Some.v (sym c.find.ensures.place ∙ c.in-Some.is) lacks) (known_node c.self.inside.system c.args.node.now c.in-Some.v (sym c.find.ensures.place ∙ c.in-Some.is))) in
    on_then c.give_bare_set-2.result _ _ (Ok c.give_bare_set-2.new.self.system) then c.give_bare_set-2.ensures.ok
