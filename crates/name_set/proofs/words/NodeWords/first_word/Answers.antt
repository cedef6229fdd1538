use Rattle.name_set.proofs.WordRests.{no_rest, whole_rest}
use Rattle.name_set.proofs.words.NodeWords.first_word.Goals as goal

pub returns-then-self-eq0 : goal.returns-then-self-eq0
returns-then-self-eq0 g c = no_rest g.row.W c.self.inside.n c.self.inside.words c.args.self.now c.self.invariant c.self.view_is c.if-self-eq0.true

pub returns : goal.returns
returns g c = whole_rest g.row.W c.self.inside.n c.self.inside.words c.args.self.now c.self.invariant c.self.view_is 0
