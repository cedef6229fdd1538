use Rattle.std.proofs.Common.{◌≡◌, ℕ, subst}
use Rattle.name_set.specs.Words.{table_of, AreWordsOf}
use Rattle.name_set.proofs.WordLaws.{same_n}
use Rattle.name_set.proofs.words.NodeWords.copy_from.Goals as goal

pub invariant_of-self : goal.invariant_of-self
invariant_of-self g c =
    let same_n = same_n g.row.W c.self.inside.n c.other.inside.n c.self.inside.words c.other.inside.words c.args.self.now c.args.other.now c.self.invariant c.other.invariant c.self.view_is c.other.view_is c.requires in
    subst (λ (n : ℕ). AreWordsOf g.row.W n c.other.inside.words) same_n c.other.invariant

pub returns : goal.returns
returns g c =
    let same_n = same_n g.row.W c.self.inside.n c.other.inside.n c.self.inside.words c.other.inside.words c.args.self.now c.args.other.now c.self.invariant c.other.invariant c.self.view_is c.other.view_is c.requires in
    subst (λ (n : ℕ). table_of n c.other.inside.words ≡ c.args.other.now) same_n c.other.view_is
