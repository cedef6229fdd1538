use Rattle.std.proofs.Common.{◌≡◌, ◌≤◌, ◌<◌, ℕ, length, get_or, sym, ◌∙◌, subst, ap, arith, rules}
use Rattle.std.proofs.lemmas.List.{get_or_default}
use Rattle.lrat_model.specs.Steps.{Database}
use Rattle.rat_candidates.specs.Occurrences.{occurrences}
use Rattle.rat_candidates.specs.Counted.{count_of}
use Rattle.rat_candidates.proofs.store.CountedStore.most_times.Goals as goal

pub returns : goal.returns
returns c =
    let l = c.args.l in
    let items = c.self.inside.counts.items in
    let place = c.place_of-place.result in
    let within : place < length items = search rules in
    let at : count_of items l ≡ c.index-count.result.now =
    sym (c.index-count.ensures ∙ get_or_default items place c.index-count.result.now 4294967295 within ∙ ap (λ (p : ℕ). get_or items p 4294967295) c.place_of-place.ensures) in
    let known : c.index-count.result.now < 4294967295 = search rules in
    let over : occurrences l c.self.inside.store.held ≤ c.index-count.result.now = omega (arith, at, c.self.invariant l (omega (arith, at, known))) in
    subst (λ (d : Database). occurrences l d.held ≤ c.index-count.result.now) c.self.view_is over
