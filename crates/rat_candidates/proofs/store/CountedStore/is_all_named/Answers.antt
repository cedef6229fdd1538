use Rattle.std.proofs.Common.{◌≡◌, ◌≤◌, None, sym, subst, arith}
use Rattle.std.proofs.lemmas.Bool.{leb-true}
use Rattle.lrat_model.specs.Steps.{Database}
use Rattle.lrat_model.specs.Rat.{first_without}
use Rattle.rat_candidates.specs.Groups.{ids_in}
use Rattle.rat_candidates.specs.Occurrences.{occurrences, occurrences_in}
use Rattle.rat_candidates.proofs.OccurrenceLaws.{all_named}
use Rattle.rat_candidates.proofs.store.CountedStore.is_all_named.Goals as goal

pub returns : goal.returns
returns c = λ is.
    let held = c.self.inside.store.held in
    let l = c.args.l in
    let ids = ids_in c.args.hints.now in
    let low : c.from.result ≤ c.named_times.result = leb-true c.from.result c.named_times.result is in
    let over : occurrences l held ≤ c.in-Some.count = subst (λ (d : Database). occurrences l d.held ≤ c.in-Some.count) (sym c.self.view_is) c.in-Some.ensures in
    let full : occurrences l held ≤ occurrences_in l ids held = omega (arith, over, low, c.from.ensures, c.named_times.ensures) in
    subst (λ (d : Database). first_without d.held l ids ≡ None) c.self.view_is (all_named l ids held full)
