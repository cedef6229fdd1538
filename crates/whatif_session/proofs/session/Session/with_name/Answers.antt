use Rattle.std.proofs.Common.{◌≡◌, ℕ, ◌+◌, ◌≤◌, ◌||◌, ◌==◌, true, false, map, length, ap, ap₂, sym, ◌∙◌, arith}
use Rattle.std.specs.List.{insert}
use Rattle.std.specs.Option.{option_map}
use Rattle.fbas_model.specs.Fbas.{Fbas}
use Rattle.fbas_model.specs.Nodes.{Nodes, Table, members}
use Rattle.fbas_model.specs.Systems.{System, entries_in}
use Rattle.greatest_quorum.specs.Unmet.{unmet_of}
use Rattle.greatest_quorum.proofs.GreatestLaws.{length-greatest_of}
use Rattle.greatest_quorum.proofs.UnmetLaws.{length-unmet_of}
use Rattle.whatif_session.specs.Names.{place_for, moved_up, with_name}
use Rattle.whatif_session.specs.Sessions.{nobody, greatest_in}
use Rattle.whatif_session.proofs.Following.{none_is}
use Rattle.whatif_session.proofs.NamePlaces.{place-le}
use Rattle.whatif_session.proofs.NewNames.{length-insert, entries-insert, entries-moved}
use Rattle.whatif_session.proofs.Brought.{long, greatest_stays, unmet_stay, put_in}
use Rattle.whatif_session.proofs.session.Session.with_name.Goals as goal

pub moved_members-known-requires-clause-size : goal.moved_members-known-requires-clause-size
moved_members-known-requires-clause-size c = ap (λ (u : Table). length u) c.self.invariant.4 ∙ length-unmet_of c.self.inside.system.sets c.self.inside.asked ∙ sym c.len-n.ensures.sets

pub put-requires : goal.put-requires
put-requires c =
    let s = c.self.inside.system in
    let is = c.len-n.ensures.system in
    let place : c.place_for-place.result ≡ place_for c.args.name.now s.names = c.place_for-place.ensures ∙ ap (place_for c.args.name.now) c.names.ensures.names in
    let few : place_for c.args.name.now s.names ≤ length s.names = place-le c.args.name.now s.names in
    let places = is.places in
    let known : length c.self.inside.known ≡ length s.sets = ap (λ (u : Table). length u) c.self.invariant.4 ∙ length-unmet_of s.sets c.self.inside.asked in
    let more : length c.moved_members-known.result ≡ length c.self.inside.known + 1 = ap (λ (u : Table). length u) c.moved_members-known.ensures ∙ length-insert c.place_for-place.result false c.self.inside.known in
    (omega arith, omega (arith, place, few, places, known, more))

pub moved_members-requires-clause-size : goal.moved_members-requires-clause-size
moved_members-requires-clause-size c = ap (λ (u : Table). length u) c.self.invariant.0 ∙ length-greatest_of c.self.inside.system.sets (nobody c.self.inside.system) ∙ sym c.len-n.ensures.sets

pub invariant_of-result : goal.invariant_of-result
invariant_of-result c =
    let s = c.self.inside.system in
    let t = c.in_ok-system.system in
    let name = c.args.name.now in
    let is = c.len-n.ensures.system in
    let t_is : t ≡ with_name s name = c.in_ok-system.ensures.named in
    let place : c.place_for-place.result ≡ place_for name s.names = c.place_for-place.ensures ∙ ap (place_for name) c.names.ensures.names in
    let few : place_for name s.names ≤ length s.names = place-le name s.names in
    let places = is.places in
    let size : length t.sets ≡ length s.names + 1 = ap (λ (x : System). length x.sets) t_is ∙ long s name is in
    let moved : Fbas = map (option_map (moved_up (place_for name s.names))) s.sets in
    let known : length c.self.inside.known ≡ length s.sets = ap (λ (u : Table). length u) c.self.invariant.4 ∙ length-unmet_of s.sets c.self.inside.asked in
    let asked : c.moved_members-2.result ≡ insert c.self.inside.asked (place_for name s.names) false = c.moved_members-2.ensures ∙ ap (λ (p : ℕ). insert c.self.inside.asked p false) place in
    let put : c.put.new.self ≡ insert c.self.inside.known c.place_for-place.result true = put_in c.place_for-place.result c.self.inside.known c.put.new.self (omega (arith, place, few, places, known))
    (c.put.ensures.size ∙ ap (λ (u : Table). length u) c.moved_members-known.ensures)
    (c.put.ensures.added ∙ ap {B = Nodes} (λ (u : Table) x. members u x || (x == c.place_for-place.result)) c.moved_members-known.ensures) in (
      c.moved_members.ensures ∙ ap₂ (λ (g : Table) (p : ℕ). insert g p false) c.self.invariant.0 place ∙ greatest_stays s name is ∙ ap greatest_in (sym t_is),
      c.new.ensures.size ∙ ap (λ (n : ℕ). n + 1) c.len-n.ensures.names ∙ sym size,
      c.self.invariant.2 ∙ sym (ap (λ (x : System). entries_in x.sets) t_is ∙ entries-insert (place_for name s.names) moved ∙ entries-moved (place_for name s.names) s.sets),
      ap (λ (u : Table). length u) asked ∙ length-insert (place_for name s.names) false c.self.inside.asked ∙ ap (λ (n : ℕ). n + 1) (c.self.invariant.3 ∙ is.places) ∙ sym size,
      put
          ∙ ap₂ (λ (u : Table) (p : ℕ). insert u p true) c.self.invariant.4 place
          ∙ unmet_stay s name is c.self.inside.asked c.self.invariant.3
          ∙ ap₂ (λ (x : System) (u : Table). unmet_of x.sets u) (sym t_is) (sym asked),
    )

pub returns-clause-fresh : goal.returns-clause-fresh
returns-clause-fresh c =
    let s = c.self.inside.system in
    let t = c.in_ok-system.system in
    let size : length t.sets ≡ length s.names + 1 = ap (λ (x : System). length x.sets) c.in_ok-system.ensures.named ∙ long s c.args.name.now c.len-n.ensures.system in
    let none : c.new.result ≡ nobody t = none_is t c.new.result (c.new.ensures.size ∙ ap (λ (n : ℕ). n + 1) c.len-n.ensures.names ∙ sym size) c.new.ensures.empty in
    ap (λ (u : Table). record { system = t; unmet = u }) none
