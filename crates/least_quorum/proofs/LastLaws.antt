-- The quorum that is listed last, line by line.
use Rattle.std.proofs.Common.{◌≡◌, ℕ, ◌+◌, ◌<◌, List, [], ◌∷◌, ◌++◌, Option, Some, length, take, get_or, refl, ap, ◌∙◌}
use Rattle.std.proofs.lemmas.List.{append-nil}
use Rattle.fbas_model.specs.Nodes.{Table}
use Rattle.enumeration_journal.specs.Kinds.{is_sought}
use Rattle.enumeration_journal.specs.Journals.{put_if}
use Rattle.enumeration_journal.specs.declared.kinds.Listed.{Listed}
use Rattle.enumeration_journal.specs.declared.kinds.Listed.TheVariants.{Quorum, Blocking, Smaller}
use Rattle.blocking_lists.specs.Lines.{ListLine, listed_in}
use Rattle.blocking_lists.proofs.Merged.{listed_more}
use Rattle.least_journal.specs.Least.{last_of}

last_push : (o : Option Table) (xs : List Table) (u : Table) → last_of o (xs ++ u ∷ []) ≡ Some u
last_push o [] u = refl
last_push o (x ∷ xs) u = last_push (Some x) xs u

put_other : (which : Listed) (set : Table) → (which ≡ Smaller → ⊥) → put_if (is_sought Smaller which) set [] ≡ []
put_other Quorum set other = refl
put_other Blocking set other = refl
put_other Smaller set other = absurd (other refl)

-- one smaller quorum more
pub last_more : (o : Option Table) (lines : List ListLine) (i : ℕ) (l : ListLine) → i < length lines → l ≡ get_or lines i l → l.which ≡ Smaller → last_of o (listed_in Smaller (take (i + 1) lines)) ≡ Some l.set
last_more o lines i l low at is =
    ap (last_of o) (listed_more Smaller lines i l low at ∙ ap (λ (w : Listed). listed_in Smaller (take i lines) ++ put_if (is_sought Smaller w) l.set []) is)
    ∙ last_push o (listed_in Smaller (take i lines)) l.set

-- or another line
pub last_same : (o : Option Table) (lines : List ListLine) (i : ℕ) (l : ListLine) → i < length lines → l ≡ get_or lines i l → (l.which ≡ Smaller → ⊥) → last_of o (listed_in Smaller (take (i + 1) lines)) ≡ last_of o (listed_in Smaller (take i lines))
last_same o lines i l low at other =
    ap (last_of o) (listed_more Smaller lines i l low at ∙ ap (λ (ss : List Table). listed_in Smaller (take i lines) ++ ss) (put_other l.which l.set other) ∙ append-nil (listed_in Smaller (take i lines)))
