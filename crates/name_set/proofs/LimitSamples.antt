-- The limit as a number: another number in the code is another promise, and is refused here.
use Rattle.std.proofs.Common.{◌≡◌, refl}
use Rattle.name_set.specs.declared.words.TheConstants.{MOST_WORDS, NODE_WORDS, GROUP_WORDS}

most_words : MOST_WORDS ≡ 1024
most_words = refl

-- 16,384 nodes, 64 a word, and 4,096 organisations beside them
node_words : NODE_WORDS ≡ 256
node_words = refl

group_words : GROUP_WORDS ≡ 320
group_words = refl
