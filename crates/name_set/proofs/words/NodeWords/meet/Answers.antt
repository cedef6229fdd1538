use Rattle.std.proofs.Common.{◌≡◌, ℕ, ◌&&◌, ◌∙◌, sym, subst, arith, bit_and}
use Rattle.fbas_model.specs.Nodes.{members}
use Rattle.name_set.specs.Words.{table_of, AreWordsOf}
use Rattle.name_set.proofs.WordLaws.{same-length, same_n, length-table_of}
use Rattle.name_set.proofs.WordMixes.{mixes-and, mixed_words, members-mixed}
use Rattle.name_set.proofs.words.NodeWords.meet.Goals as goal

pub invariant_of-self : goal.invariant_of-self
invariant_of-self g c =
    let same_n = same_n g.row.W c.self.inside.n c.other.inside.n c.self.inside.words c.other.inside.words c.args.self.now c.args.other.now c.self.invariant c.other.invariant c.self.view_is c.other.view_is c.requires in
    subst (λ (n : ℕ). AreWordsOf g.row.W n c.loop-i.self-inside.words) (sym c.loop-i.invariant.same_n) (mixed_words bit_and (λ a b. a && b) mixes-and g.row.W c.self.inside.n c.other.inside.n c.self.inside.words c.other.inside.words c.loop-i.self-inside.words c.loop-i.i c.self.invariant c.other.invariant same_n (omega arith) c.loop-i.invariant.mixed)

pub returns-clause-size : goal.returns-clause-size
returns-clause-size g c = length-table_of c.loop-i.self-inside.n c.loop-i.self-inside.words ∙ c.loop-i.invariant.same_n ∙ sym (same-length g.row.W c.self.inside.n c.self.inside.words c.args.self.now c.self.invariant c.self.view_is)

pub returns-clause-shared : goal.returns-clause-shared
returns-clause-shared g c =
    let same_n = same_n g.row.W c.self.inside.n c.other.inside.n c.self.inside.words c.other.inside.words c.args.self.now c.args.other.now c.self.invariant c.other.invariant c.self.view_is c.other.view_is c.requires in
    subst (λ (n : ℕ). members (table_of n c.loop-i.self-inside.words) ≡ (λ v. members c.args.self.now v && members c.args.other.now v)) (sym c.loop-i.invariant.same_n) (members-mixed bit_and (λ a b. a && b) mixes-and g.row.W c.self.inside.n c.other.inside.n c.self.inside.words c.other.inside.words c.loop-i.self-inside.words c.loop-i.i c.self.invariant c.other.invariant same_n (omega arith) c.loop-i.invariant.mixed c.args.self.now c.args.other.now c.self.view_is c.other.view_is)
