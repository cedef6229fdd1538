use Rattle.std.proofs.Common.{◌≡◌, ◌∷◌, map}
use Rattle.std.specs.Prelude.{All}
use Rattle.std.specs.Str.{IsUtf8}
use Rattle.quorum_answers.specs.Answering.{program}
use Rattle.request_reading.specs.Answers.{words_of}
use Rattle.quorum_answers.proofs.reading.words.Given as goal

abbrev pub invariant-loop-word : goal.invariant-loop-word
invariant-loop-word l = record {
  held : words_of l.words.items ≡ program ∷ map (λ y. y.now) l.yielded;
  text : All IsUtf8 (map (λ y. y.now) l.yielded);
}
