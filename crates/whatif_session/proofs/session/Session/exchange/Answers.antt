use Rattle.std.proofs.Common.{◌≡◌, ap, sym, ◌∙◌, subst, length}
use Rattle.std.specs.Prelude.{set}
use Rattle.std.proofs.lemmas.List.{length-set}
use Rattle.fbas_model.specs.Nodes.{Table}
use Rattle.fbas_model.specs.Fbas.{Fbas}
use Rattle.fbas_model.specs.Systems.{System, entries_in}
use Rattle.fbas_core.specs.Replacing.{with_set}
use Rattle.greatest_quorum.specs.Changes.{IsChangedAt}
use Rattle.greatest_quorum.proofs.GreatestLaws.{length-greatest_of}
use Rattle.greatest_quorum.proofs.UnmetLaws.{length-unmet_of}
use Rattle.whatif_session.specs.Sessions.{Session, nobody, started}
use Rattle.whatif_session.proofs.Following.{none_is, followed, changed_by}
use Rattle.whatif_session.proofs.session.Session.exchange.Goals as goal

pub follow-requires-clause-same_n : goal.follow-requires-clause-same_n
follow-requires-clause-same_n c =
    let s = c.self.inside.system in
    let t = c.replace.new.self in
    let sizes : length t.sets ≡ length s.sets = ap (λ (x : System). length x.sets) c.in_ok-replace.ensures.replaced ∙ length-set s.sets c.args.v c.args.set in
    ap (λ (u : Table). length u) c.self.invariant.0 ∙ length-greatest_of s.sets (nobody s) ∙ sym sizes

pub follow_unmet-requires-clause-same_known : goal.follow_unmet-requires-clause-same_known
follow_unmet-requires-clause-same_known c =
    let s = c.self.inside.system in
    let t = c.replace.new.self in
    let sizes : length t.sets ≡ length s.sets = ap (λ (x : System). length x.sets) c.in_ok-replace.ensures.replaced ∙ length-set s.sets c.args.v c.args.set in
    ap (λ (u : Table). length u) c.self.invariant.4 ∙ length-unmet_of s.sets c.self.inside.asked ∙ sym sizes

pub invariant_of-self-2 : goal.invariant_of-self-2
invariant_of-self-2 c =
    let s = c.self.inside.system in
    let t = c.replace.new.self in
    let none : c.new-none.result ≡ nobody t = none_is t c.new-none.result (c.new-none.ensures.size ∙ c.len.ensures.sets) c.new-none.ensures.empty in
    let sets_are : t.sets ≡ set s.sets c.args.v c.args.set = ap (λ (x : System). x.sets) c.in_ok-replace.ensures.replaced in
    let sizes : length t.sets ≡ length s.sets = ap (λ (f : Fbas). length f) sets_are ∙ length-set s.sets c.args.v c.args.set in
    let changed : IsChangedAt s.sets t.sets c.args.v = subst (λ (f : Fbas). IsChangedAt s.sets f c.args.v) (sym sets_are) (changed_by s.sets c.args.v c.args.set) in (
      followed s t c.args.v c.args.set c.new-none.result c.self.inside.greatest c.follow.new.greatest c.in_ok-replace.ensures.replaced c.self.invariant.0 none c.follow.ensures.same_n c.follow.ensures.follows,
      c.new-none.ensures.size ∙ c.len.ensures.sets,
      c.entries_after-entries.ensures ∙ ap entries_in (sym sets_are),
      c.self.invariant.3 ∙ sym sizes,
      c.follow_unmet.ensures.follows s.sets changed c.self.invariant.4,
    )

pub returns-clause-exchanged : goal.returns-clause-exchanged
returns-clause-exchanged c =
    let t = c.replace.new.self in
    let none : c.new-none.result ≡ nobody t = none_is t c.new-none.result (c.new-none.ensures.size ∙ c.len.ensures.sets) c.new-none.ensures.empty in
    let one : record { system = t; unmet = c.new-none.result } ≡ started t = ap (λ (u : Table). record { system = t; unmet = u }) none in
    one ∙ ap started (c.in_ok-replace.ensures.replaced ∙ ap (λ (x : Session). with_set x.system c.args.v c.args.set) c.self.view_is)
