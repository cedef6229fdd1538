use Rattle.std.proofs.Common.{◌<◌, ◌/◌, length, ◌∙◌, sym, ap, arith}
use Rattle.fbas_model.specs.Nodes.{Nodes, only, ◌∪◌}
use Rattle.name_set.proofs.WordLaws.{same-length, same-members, length-table_of, members-known, words_put, set_of-put, put_words}
use Rattle.name_set.proofs.words.NodeWords.put.Goals as goal

pub bounds-self-inside-i : goal.bounds-self-inside-i
bounds-self-inside-i g c = omega (arith, same-length g.row.W c.self.inside.n c.self.inside.words c.args.self.now c.self.invariant c.self.view_is, c.self.invariant.fits)

pub bounds-self-inside-i-2 : goal.bounds-self-inside-i-2
bounds-self-inside-i-2 g c = omega (arith, same-length g.row.W c.self.inside.n c.self.inside.words c.args.self.now c.self.invariant c.self.view_is, c.self.invariant.fits)

pub invariant_of-self : goal.invariant_of-self
invariant_of-self g c =
    let size = same-length g.row.W c.self.inside.n c.self.inside.words c.args.self.now c.self.invariant c.self.view_is in
    let within : c.args.at / 64 < length c.self.inside.words = omega (arith, size, c.self.invariant.fits, c.self.told) in
    put_words g.row.W c.self.inside.n c.self.inside.words c.args.at within c.self.invariant (omega arith)

pub returns-clause-size : goal.returns-clause-size
returns-clause-size g c = length-table_of c.self.inside.n _ ∙ sym (same-length g.row.W c.self.inside.n c.self.inside.words c.args.self.now c.self.invariant c.self.view_is)

pub returns-clause-added : goal.returns-clause-added
returns-clause-added g c =
    let size = same-length g.row.W c.self.inside.n c.self.inside.words c.args.self.now c.self.invariant c.self.view_is in
    let within : c.args.at / 64 < length c.self.inside.words = omega (arith, size, c.self.invariant.fits, c.self.told) in
    members-known g.row.W c.self.inside.n (words_put c.self.inside.words c.args.at) _ (put_words g.row.W c.self.inside.n c.self.inside.words c.args.at within c.self.invariant (omega arith)) (set_of-put c.self.inside.words c.args.at within)
    ∙ ap (λ (s : Nodes). s ∪ only c.args.at) (sym (same-members g.row.W c.self.inside.n c.self.inside.words c.args.self.now c.self.invariant c.self.view_is))
