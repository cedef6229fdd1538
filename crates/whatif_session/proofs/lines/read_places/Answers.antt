use Rattle.std.proofs.Common.{◌<◌, ℕ, List, [], length, sym, ap, ◌∙◌, arith}
use Rattle.std.proofs.lemmas.List.{get_or-map, length-map}
use denote.Ref.{Bor}
use Rattle.whatif_session.specs.EditView.{texts}
use Rattle.whatif_session.specs.Lines.{is_number}
use Rattle.whatif_session.proofs.LineLaws.{places_none}
use Rattle.whatif_session.proofs.lines.read_places.Goals as goal

pub returns-then-not-is_number : goal.returns-then-not-is_number
returns-then-not-is_number c =
    let shown = λ (word : Bor (List ℕ)). word.now in
    let words = c.args.words.now in
    let i = c.loop-word.word-index in
    let low : i < length (texts words) = omega (arith, c.loop-word-test.true, length-map words shown) in
    sym (places_none (texts words) i low (ap is_number (get_or-map shown words i _ [] c.loop-word-test.true) ∙ sym c.is_number.ensures ∙ c.if-not-is_number.true))
