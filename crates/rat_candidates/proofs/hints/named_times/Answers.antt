use Rattle.std.proofs.Common.{◌≡◌, ◌+◌, ◌∷◌, [], ◌++◌, take, get_or, pos, sym, ap, ◌∙◌, subst, w64, rules}
use mir.Val.{SFits}
use Rattle.std.proofs.lemmas.Int.{to_z-of_z}
use Rattle.std.proofs.lemmas.List.{take_more}
use Rattle.rat_candidates.specs.Named.{AreNamed}
use Rattle.rat_candidates.specs.Groups.{ids_in}
use Rattle.rat_candidates.proofs.NamedLaws.{ids_in-append}
use Rattle.rat_candidates.proofs.hints.named_times.Goals as goal

pub loop-hint-preserved : goal.loop-hint-preserved
loop-hint-preserved c =
    let held = c.args.store.now.held in
    let hints = c.args.hints.now in
    let i = c.loop-hint.hint-index in
    let fits : SFits w64 (get_or hints i (pos 0)) = search rules in
    let told = c.name_one-named.ensures (ids_in (take i hints)) c.loop-hint.invariant in
    let are : AreNamed held c.args.l (ids_in (take i hints) ++ ids_in (get_or hints i (pos 0) ∷ [])) c.name_one-named.result = simp to_z-of_z at told in
    let longer : ids_in (take i hints) ++ ids_in (get_or hints i (pos 0) ∷ []) ≡ ids_in (take (i + 1) hints) = sym (ap ids_in (take_more hints i (pos 0) c.loop-hint-test.true) ∙ ids_in-append (take i hints) (get_or hints i (pos 0) ∷ [])) in
    subst (λ ids. AreNamed held c.args.l ids c.name_one-named.result) longer are
