use Rattle.std.proofs.Common.{◌≡◌, ℕ, ap, ◌∙◌}
use Rattle.std.specs.Prelude.{nat_lt}
use Rattle.fbas_model.specs.Nodes.{Nodes, Table}
use Rattle.greatest_quorum.specs.Greatest.{greatest_of}
use Rattle.whatif_session.specs.Sessions.{nobody}
use Rattle.whatif_session.proofs.Following.{none_is}
use Rattle.whatif_session.proofs.KnownUnmet.{none_unmet}
use Rattle.whatif_session.proofs.session.Session.start.Goals as goal

pub invariant_of-result : goal.invariant_of-result
invariant_of-result c =
    let s = c.args.system in
    let none : c.new-none.result ≡ nobody s = none_is s c.new-none.result (c.new-none.ensures.size ∙ c.len.ensures.sets) c.new-none.ensures.empty in
    let size = c.new-all.ensures.size ∙ c.len-2.ensures.sets in
    let full = c.fill.ensures.all ∙ ap {B = Nodes} (λ (n : ℕ) v. nat_lt v n) size in (
      c.greatest-greatest.ensures.counted ∙ ap (greatest_of s.sets) none,
      c.new-none.ensures.size ∙ c.len.ensures.sets,
      c.entries-entries.ensures,
      c.fill.ensures.size ∙ size,
      c.copy.ensures ∙ none_unmet s.sets c.new-none.result c.fill.new.self (c.new-none.ensures.size ∙ c.len.ensures.sets) c.new-none.ensures.empty full,
    )

pub returns : goal.returns
returns c =
    let s = c.args.system in
    let none : c.new-none.result ≡ nobody s = none_is s c.new-none.result (c.new-none.ensures.size ∙ c.len.ensures.sets) c.new-none.ensures.empty in
    ap (λ (t : Table). record { system = s; unmet = t }) none
