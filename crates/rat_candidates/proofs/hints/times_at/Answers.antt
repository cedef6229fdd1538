use Rattle.std.proofs.Common.{◌≡◌, ◌+◌, ◌∷◌, [], ◌++◌, sym, arith}
use Rattle.rat_candidates.specs.Occurrences.{times, occurrences_in}
use Rattle.rat_candidates.proofs.OccurrenceLaws.{in-one_more, in-longer}
use Rattle.rat_candidates.proofs.hints.times_at.Goals as goal

pub returns-in-Some : goal.returns-in-Some
returns-in-Some c = λ ids new.
    let held = c.args.store.now.held in
    let l = c.args.l in
    let id = c.args.id in
    let more : occurrences_in l (ids ++ id ∷ []) held ≡ occurrences_in l ids held + times l c.in-Some.clause.now = in-one_more l ids id c.in-Some.clause.now held c.requires (sym c.in-Some.ensures) new in
    omega (arith, more, c.times.ensures)

pub returns-in-None : goal.returns-in-None
returns-in-None c = λ ids new. omega (arith, in-longer c.args.l ids c.args.id c.args.store.now.held)
