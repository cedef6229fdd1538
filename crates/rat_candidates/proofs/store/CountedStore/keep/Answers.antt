use Rattle.std.proofs.Common.{◌≡◌, List, ℤ, sym, ap, ◌∙◌, subst, refl, w64, to_z, of_z, rules}
use mir.Val.{SFits}
use Rattle.std.proofs.lemmas.Int.{to_z-of_z}
use Rattle.lrat_model.specs.Steps.{Database}
use Rattle.rat_candidates.specs.Rising.{IdsRise}
use Rattle.rat_candidates.specs.Kept.{NamesToo}
use Rattle.rat_candidates.proofs.KeptLaws.{kept_with, kept_names, is_room, room_after}
use Rattle.rat_candidates.proofs.store.CountedStore.keep.Goals as goal

pub keep-requires-clause-room : goal.keep-requires-clause-room
keep-requires-clause-room c =
    let up : IdsRise c.args.self.now.held = subst (λ (d : Database). IdsRise d.held) c.self.view_is c.last.ensures.rising in
    is_room c.args.self.now.held c.args.l c.args.kept.now c.args.id up c.requires.candidate c.requires.room

pub returns-clause-named : goal.returns-clause-named
returns-clause-named c =
    let hints = c.args.kept.now.hints in
    let fits : SFits w64 c.args.hint = search rules in
    let same : to_z w64 (of_z w64 c.args.hint) ≡ c.args.hint = simp to_z-of_z refl in
    let told : c.keep.new.self.hints ≡ kept_with hints c.args.hint c.args.id = c.keep.ensures.kept ∙ ap (λ (z : ℤ). kept_with hints z c.args.id) same in
    subst (λ (hs : List ℤ). NamesToo hints c.args.id hs) (sym told) (kept_names hints c.args.hint c.args.id c.requires.names)

pub returns-clause-room : goal.returns-clause-room
returns-clause-room c =
    let hints = c.args.kept.now.hints in
    let fits : SFits w64 c.args.hint = search rules in
    let same : to_z w64 (of_z w64 c.args.hint) ≡ c.args.hint = simp to_z-of_z refl in
    let told : c.keep.new.self.hints ≡ kept_with hints c.args.hint c.args.id = c.keep.ensures.kept ∙ ap (λ (z : ℤ). kept_with hints z c.args.id) same in
    let up : IdsRise c.args.self.now.held = subst (λ (d : Database). IdsRise d.held) c.self.view_is c.last.ensures.rising in
    room_after c.args.self.now.held c.args.l c.args.kept.now c.args.id up c.requires.candidate c.requires.room c.args.hint c.keep.new.self c.requires.names c.keep.ensures.room told
