use Rattle.std.proofs.Common.{◌≡◌, ℕ, not, ◌&&◌, ◌∙◌, sym, subst, arith}
use Rattle.fbas_model.specs.Nodes.{members}
use Rattle.name_set.specs.Words.{table_of, AreWordsOf}
use Rattle.name_set.proofs.WordLaws.{same-length, same_n, length-table_of}
use Rattle.name_set.proofs.WordMixes.{mixes-without, without, mixed_words, members-mixed}
use Rattle.name_set.proofs.words.NodeWords.minus.Goals as goal

pub invariant_of-self : goal.invariant_of-self
invariant_of-self g c =
    let same_n = same_n g.row.W c.self.inside.n c.other.inside.n c.self.inside.words c.other.inside.words c.args.self.now c.args.other.now c.self.invariant c.other.invariant c.self.view_is c.other.view_is c.requires in
    subst (λ (n : ℕ). AreWordsOf g.row.W n c.loop-i.self-inside.words) (sym c.loop-i.invariant.same_n) (mixed_words without (λ a b. a && not b) mixes-without g.row.W c.self.inside.n c.other.inside.n c.self.inside.words c.other.inside.words c.loop-i.self-inside.words c.loop-i.i c.self.invariant c.other.invariant same_n (omega arith) c.loop-i.invariant.mixed)

pub returns-clause-size : goal.returns-clause-size
returns-clause-size g c = length-table_of c.loop-i.self-inside.n c.loop-i.self-inside.words ∙ c.loop-i.invariant.same_n ∙ sym (same-length g.row.W c.self.inside.n c.self.inside.words c.args.self.now c.self.invariant c.self.view_is)

pub returns-clause-left : goal.returns-clause-left
returns-clause-left g c =
    let same_n = same_n g.row.W c.self.inside.n c.other.inside.n c.self.inside.words c.other.inside.words c.args.self.now c.args.other.now c.self.invariant c.other.invariant c.self.view_is c.other.view_is c.requires in
    subst (λ (n : ℕ). members (table_of n c.loop-i.self-inside.words) ≡ (λ v. members c.args.self.now v && not (members c.args.other.now v))) (sym c.loop-i.invariant.same_n) (members-mixed without (λ a b. a && not b) mixes-without g.row.W c.self.inside.n c.other.inside.n c.self.inside.words c.other.inside.words c.loop-i.self-inside.words c.loop-i.i c.self.invariant c.other.invariant same_n (omega arith) c.loop-i.invariant.mixed c.args.self.now c.args.other.now c.self.view_is c.other.view_is)
