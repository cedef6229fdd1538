use Rattle.std.proofs.Common.{ℕ, ◌∙◌, sym, replicate}
use Rattle.fbas_model.specs.Nodes.{∅}
use Rattle.name_set.proofs.WordLaws.{none_words, set_of-none, members-known, length-table_of, same-length}
use Rattle.name_set.proofs.words.NodeWords.clear.Goals as goal

pub invariant_of-self : goal.invariant_of-self
invariant_of-self g c = none_words g.row.W c.self.inside.n c.self.invariant.fits c.self.invariant.few

pub returns-clause-size : goal.returns-clause-size
returns-clause-size g c = length-table_of c.self.inside.n (replicate {A = ℕ} g.row.W 0) ∙ sym (same-length g.row.W c.self.inside.n c.self.inside.words c.args.self.now c.self.invariant c.self.view_is)

pub returns-clause-empty : goal.returns-clause-empty
returns-clause-empty g c = members-known g.row.W c.self.inside.n (replicate {A = ℕ} g.row.W 0) ∅ (none_words g.row.W c.self.inside.n c.self.invariant.fits c.self.invariant.few) (set_of-none g.row.W)
