use Rattle.std.proofs.Common.{◌≡◌, ◌<◌, length, [], sym, ◌∙◌, ap, Some, slice_get}
use Rattle.std.proofs.lemmas.Option.{get_or_from_slice_get, slice_get_within}
use Rattle.std.proofs.lemmas.Slice.Eq.{bytes_eq-Decides}
use Rattle.fbas_model.proofs.SortedNames.{place-found}
use Rattle.name_set.proofs.names.Names.find_from.Goals as goal

pub returns-then-eq : goal.returns-then-eq
returns-then-eq c =
    let names = c.args.self.now in
    let same : c.name.result.now ≡ c.args.name.now = (bytes_eq-Decides c.name.result.now c.args.name.now).0 (sym c.eq.ensures ∙ c.if-eq.true) in
    let there : slice_get names c.args.guess ≡ Some c.args.name.now = c.name.ensures ∙ ap Some same in
    let within : c.args.guess < length names = slice_get_within names c.args.guess c.args.name.now there in
    sym (place-found names c.args.name.now c.args.guess c.rise.ensures within (get_or_from_slice_get names c.args.guess c.args.name.now [] there))
