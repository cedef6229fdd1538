use Rattle.std.proofs.Common.{◌≡◌, true, map, take}
use Rattle.std.specs.List.{list_all}
use Rattle.whatif_session.specs.EditView.{texts}
use Rattle.whatif_session.specs.Lines.{is_number, place_in}
use Rattle.whatif_session.proofs.lines.read_places.Given as goal

abbrev pub invariant-loop-word : goal.invariant-loop-word
invariant-loop-word l = (l.places.items ≡ map place_in (texts (take l.word-index l.words))) × (list_all is_number (texts (take l.word-index l.words)) ≡ true)
