use Rattle.std.proofs.Common.{◌≡◌, ◌∙◌, ◌+◌, ◌∷◌, true, false, Some, List, ap, drop, get_or, refl, sym}
use Rattle.std.specs.Str.{bytes_eq}
use Rattle.std.proofs.lemmas.List.{at_drop_more}
use Rattle.cert_lines.specs.Words.{Word}
use Rattle.enumeration_journal.specs.declared.kinds.ListKind.TheVariants.{Whole}
use Rattle.reach_kinds.specs.Kinds.{kind_word, title, titled_among}
use Rattle.enumeration_journal.specs.declared.kinds.Listed.TheVariants as listed
use Rattle.reach_kinds.specs.declared.kinds.ReachKind.TheVariants.{Nodes}
use Rattle.reach_kinds.specs.declared.kinds.ReachTitle.{ReachTitle}
use Rattle.reach_kinds.proofs.kinds.title_in.Goals as goal

here : (t : ReachTitle) (more : List ReachTitle) (word : Word) → bytes_eq word (kind_word t.shows t.kind) ≡ true → titled_among (t ∷ more) word ≡ Some t
here t more word is = rw is refl

further : (t : ReachTitle) (more : List ReachTitle) (word : Word) → bytes_eq word (kind_word t.shows t.kind) ≡ false → titled_among (t ∷ more) word ≡ titled_among more word
further t more word other = rw other refl

pub loop-title-preserved : goal.loop-title-preserved
loop-title-preserved c =
    let all = c.all_titles-titles.result.now in
    let i = c.loop-title.title-index in
    let word = c.args.word.now in
    sym (at_drop_more (λ (left : List ReachTitle). titled_among left word) all i (title (Nodes listed.Quorum) Whole) c.loop-title-test.true
    ∙ further (get_or all i (title (Nodes listed.Quorum) Whole)) (drop (i + 1) all) word (sym c.is_word_of.ensures ∙ c.if-is_word_of.false))
    ∙ c.loop-title.invariant

pub returns-then-is_word_of : goal.returns-then-is_word_of
returns-then-is_word_of c =
    let all = c.all_titles-titles.result.now in
    let i = c.loop-title.title-index in
    let word = c.args.word.now in
    sym (sym c.loop-title.invariant
    ∙ (at_drop_more (λ (left : List ReachTitle). titled_among left word) all i (title (Nodes listed.Quorum) Whole) c.loop-title-test.true
    ∙ here (get_or all i (title (Nodes listed.Quorum) Whole)) (drop (i + 1) all) word (sym c.is_word_of.ensures ∙ c.if-is_word_of.true)))
    ∙ ap (λ (listed : List ReachTitle). titled_among listed word) c.all_titles-titles.ensures
