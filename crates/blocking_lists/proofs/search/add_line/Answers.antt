use Rattle.std.proofs.Common.{◌∙◌, sym, ap, length, arith}
use Rattle.fbas_model.specs.Nodes.{Table}
use Rattle.greatest_quorum.proofs.GreatestLaws.{length-greatest_of}
use Rattle.blocking_lists.proofs.search.add_line.Goals as goal

pub clause_of-requires : goal.clause_of-requires
clause_of-requires c =
    let s = c.args.searched.now in
    let places = ap (λ (t : Table). length t) c.requires.ready.greatest ∙ length-greatest_of s.system.now.sets s.faulty.now ∙ sym c.len-n.ensures.sets in
    (omega arith, (omega arith, (places, (c.requires.same_n ∙ sym c.len-n.ensures.sets, (omega (arith, c.len-n.ensures.few), c.requires.within)))))
