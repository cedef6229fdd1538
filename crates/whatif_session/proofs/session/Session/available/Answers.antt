use Rattle.std.proofs.Common.{◌≡◌, ◌↔◌, Bool, IsTrue, length, sym, ap, ◌∙◌, subst, arith}
use Rattle.fbas_model.specs.Nodes.{Table, members}
use Rattle.fbas_model.specs.Fbas.{Available, AreUnmet}
use Rattle.fbas_model.specs.Systems.{System}
use Rattle.greatest_quorum.specs.Unmet.{unmet_of, is_available}
use Rattle.greatest_quorum.proofs.UnmetLaws.{length-unmet_of, unmet_is, available_counted}
use Rattle.whatif_session.specs.Sessions.{Session}
use Rattle.whatif_session.proofs.KnownUnmet.{answer_is}
use Rattle.whatif_session.proofs.session.Session.available.Goals as goal

pub copy_from-requires : goal.copy_from-requires
copy_from-requires c =
    let s = c.self.inside.system in
    (omega arith, c.self.invariant.1 ∙ sym (ap (λ (t : Table). length t) c.ask.ensures.known ∙ length-unmet_of s.sets c.args.set.now))

pub invariant_of-self : goal.invariant_of-self
invariant_of-self c =
    let s = c.self.inside.system in
    let s_is : s ≡ c.args.self.now.system = ap (λ (x : Session). x.system) c.self.view_is in (
      c.self.invariant.0,
      ap (λ (t : Table). length t) (c.copy_from.ensures ∙ c.ask.ensures.known) ∙ length-unmet_of s.sets c.args.set.now,
      c.self.invariant.2,
      ap (λ (t : Table). length t) c.ask.ensures.asked ∙ c.requires.same_n ∙ ap (λ (x : System). length x.sets) (sym s_is),
      c.ask.ensures.known ∙ ap (unmet_of s.sets) (sym c.ask.ensures.asked),
    )

pub returns-clause-answer : goal.returns-clause-answer
returns-clause-answer c =
    let s = c.self.inside.system in
    let s_is : s ≡ c.args.self.now.system = ap (λ (x : Session). x.system) c.self.view_is in
    subst (λ (x : System). c.is_empty.result ≡ is_available x.sets c.args.set.now) s_is (answer_is s.sets c.args.set.now c.copy_from.new.self c.is_empty.result (c.copy_from.ensures ∙ c.ask.ensures.known) c.is_empty.ensures)

pub returns-clause-available : goal.returns-clause-available
returns-clause-available c =
    let f = c.args.self.now.system.sets in
    subst (λ (x : Bool). IsTrue x ↔ Available f (members c.args.set.now)) (sym (returns-clause-answer c)) (available_counted f c.args.set.now)

pub returns-clause-unmet : goal.returns-clause-unmet
returns-clause-unmet c =
    let f = c.args.self.now.system.sets in
    let s_is : c.self.inside.system ≡ c.args.self.now.system = ap (λ (x : Session). x.system) c.self.view_is in
    let told : c.copy_from.new.self ≡ unmet_of f c.args.set.now = c.copy_from.ensures ∙ c.ask.ensures.known ∙ ap (λ (x : System). unmet_of x.sets c.args.set.now) s_is in
    subst (λ (t : Table). AreUnmet f (members c.args.set.now) (members t)) (sym told) (unmet_is f c.args.set.now)
