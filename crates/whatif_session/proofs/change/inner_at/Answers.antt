use Rattle.std.proofs.Common.{◌≡◌, ◌<◌, ◌≤◌, length, Some, sym, ap, arith, ◌∙◌}
use Rattle.std.specs.Prelude.{slice_get}
use Rattle.std.proofs.lemmas.Option.{slice_get-get_or, slice_get_past}
use Rattle.whatif_session.proofs.ChangeLists.{at-lists}
use Rattle.whatif_session.proofs.change.inner_at.Goals as goal

pub returns-then-at-len : goal.returns-then-at-len
returns-then-at-len c =
    let q = c.set.inside in
    let qs = q.inner.items in
    let low : c.args.place < length qs = omega (arith, c.if-at-len.true, c.len.ensures, q.inner.ok.0) in
    let read : slice_get qs c.args.place ≡ Some c.index.result.now = slice_get-get_or qs c.args.place c.index.result.now low ∙ ap Some (sym c.index.ensures) in
    rw (← c.set.view_is) (sym read ∙ sym (at-lists c.args.place q.validators.items qs))

pub returns : goal.returns
returns c =
    let q = c.set.inside in
    let qs = q.inner.items in
    let past : length qs ≤ c.args.place = omega (arith, c.if-at-len.false, c.len.ensures, q.inner.ok.0) in
    rw (← c.set.view_is) (sym (at-lists c.args.place q.validators.items qs ∙ slice_get_past qs c.args.place past))
