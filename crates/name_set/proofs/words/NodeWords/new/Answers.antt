use Rattle.std.proofs.Common.{replicate}
use Rattle.name_set.proofs.WordLaws.{none_words, set_of-none, members-known, length-table_of}
use Rattle.fbas_model.specs.Nodes.{∅}
use Rattle.name_set.proofs.words.NodeWords.new.Goals as goal

pub invariant_of-result : goal.invariant_of-result
invariant_of-result g c = none_words g.row.W c.args.n c.requires.fits c.requires.few

pub returns-clause-size : goal.returns-clause-size
returns-clause-size g c = length-table_of c.args.n (replicate g.row.W 0)

pub returns-clause-empty : goal.returns-clause-empty
returns-clause-empty g c = members-known g.row.W c.args.n (replicate g.row.W 0) ∅ (none_words g.row.W c.args.n c.requires.fits c.requires.few) (set_of-none g.row.W)
