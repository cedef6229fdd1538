use Rattle.std.proofs.Common.{◌≡◌, ℕ, ◌/◌, ◌<◌, ◌∙◌, ltb, length, sym, subst, arith}
use Rattle.fbas_model.specs.Nodes.{Nodes, members}
use Rattle.name_set.specs.Words.{table_of, AreWordsOf}
use Rattle.name_set.proofs.WordLaws.{length-table_of, same-length}
use Rattle.name_set.proofs.WordFill.{Filled, words_ended, whole_words, ended_words, members-whole, members-ended}
use Rattle.name_set.proofs.words.NodeWords.fill.Goals as goal

-- the numbers below n, where a set has n of them in all
below_all : (n size : ℕ) (s : Nodes) → n ≡ size → s ≡ (λ v. ltb v n) → s ≡ (λ v. ltb v size)
below_all n size s e h = subst (λ (m : ℕ). s ≡ (λ v. ltb v m)) e h

pub invariant_of-self : goal.invariant_of-self
invariant_of-self g c =
    let end : c.loop-i.i ≡ c.self.inside.n / 64 = omega arith in
    let filled = subst (λ (i : ℕ). Filled c.self.inside.words c.loop-i.self-inside.words i) end c.loop-i.invariant.filled in
    let within : c.self.inside.n / 64 < length c.loop-i.self-inside.words = omega (arith, c.self.invariant.fits) in
    subst (λ (n : ℕ). AreWordsOf g.row.W n (words_ended c.loop-i.self-inside.words c.self.inside.n)) (sym c.loop-i.invariant.same_n) (ended_words g.row.W c.self.inside.n c.self.inside.words c.loop-i.self-inside.words c.self.invariant filled within)

pub invariant_of-self-else-n-ne0 : goal.invariant_of-self-else-n-ne0
invariant_of-self-else-n-ne0 g c =
    let end : c.loop-i.i ≡ c.self.inside.n / 64 = omega arith in
    let filled = subst (λ (i : ℕ). Filled c.self.inside.words c.loop-i.self-inside.words i) end c.loop-i.invariant.filled in
    subst (λ (n : ℕ). AreWordsOf g.row.W n c.loop-i.self-inside.words) (sym c.loop-i.invariant.same_n) (whole_words g.row.W c.self.inside.n c.self.inside.words c.loop-i.self-inside.words c.self.invariant filled (omega arith))

pub returns-then-n-ne0-clause-size : goal.returns-then-n-ne0-clause-size
returns-then-n-ne0-clause-size g c = length-table_of c.loop-i.self-inside.n _ ∙ c.loop-i.invariant.same_n ∙ sym (same-length g.row.W c.self.inside.n c.self.inside.words c.args.self.now c.self.invariant c.self.view_is)

pub returns-else-n-ne0-clause-size : goal.returns-else-n-ne0-clause-size
returns-else-n-ne0-clause-size g c = length-table_of c.loop-i.self-inside.n _ ∙ c.loop-i.invariant.same_n ∙ sym (same-length g.row.W c.self.inside.n c.self.inside.words c.args.self.now c.self.invariant c.self.view_is)

pub returns-then-n-ne0-clause-all : goal.returns-then-n-ne0-clause-all
returns-then-n-ne0-clause-all g c =
    let end : c.loop-i.i ≡ c.self.inside.n / 64 = omega arith in
    let filled = subst (λ (i : ℕ). Filled c.self.inside.words c.loop-i.self-inside.words i) end c.loop-i.invariant.filled in
    let within : c.self.inside.n / 64 < length c.loop-i.self-inside.words = omega (arith, c.self.invariant.fits) in
    let words = words_ended c.loop-i.self-inside.words c.self.inside.n in
    below_all c.self.inside.n (length c.args.self.now) _ (sym (same-length g.row.W c.self.inside.n c.self.inside.words c.args.self.now c.self.invariant c.self.view_is))
    (subst (λ (n : ℕ). members (table_of n words) ≡ (λ v. ltb v c.self.inside.n)) (sym c.loop-i.invariant.same_n) (members-ended g.row.W c.self.inside.n c.self.inside.words c.loop-i.self-inside.words c.self.invariant filled within))

pub returns-else-n-ne0-clause-all : goal.returns-else-n-ne0-clause-all
returns-else-n-ne0-clause-all g c =
    let end : c.loop-i.i ≡ c.self.inside.n / 64 = omega arith in
    let filled = subst (λ (i : ℕ). Filled c.self.inside.words c.loop-i.self-inside.words i) end c.loop-i.invariant.filled in
    below_all c.self.inside.n (length c.args.self.now) _ (sym (same-length g.row.W c.self.inside.n c.self.inside.words c.args.self.now c.self.invariant c.self.view_is))
    (subst (λ (n : ℕ). members (table_of n c.loop-i.self-inside.words) ≡ (λ v. ltb v c.self.inside.n)) (sym c.loop-i.invariant.same_n) (members-whole g.row.W c.self.inside.n c.self.inside.words c.loop-i.self-inside.words c.self.invariant filled (omega arith)))
