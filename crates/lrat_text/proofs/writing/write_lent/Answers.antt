use Rattle.std.proofs.Common.{sym, ◌∷◌, ◌++◌, map, codes}
use Rattle.std.specs.Fmt.{decimal}
use Rattle.std.proofs.lemmas.List.Elements.{recursion_from_All}
use Rattle.lrat_text.specs.Texts.{literal_text, IsLiteral}
use Rattle.lrat_text.specs.Lent.{lent_hints, lent_step}
use Rattle.lrat_text.specs.Left.{hints_left, ids_left}
use Rattle.lrat_text.proofs.BackLaws.{joined, step_back}
use Rattle.lrat_text.proofs.writing.write_lent.Goals as goal

pub returns-in-Add-clause-line : goal.returns-in-Add-clause-line
returns-in-Add-clause-line c = rw (c.in-Add.is, c.natural.ensures.digits) (sym (joined (decimal c.in-Add.id) (map literal_text c.in-Add.lits.now ++ codes "0" ∷ hints_left (lent_hints c.in-Add.hints))))

pub returns-in-Add-clause-read_back : goal.returns-in-Add-clause-read_back
returns-in-Add-clause-read_back c =
    rw (returns-in-Add-clause-line c) (step_back (lent_step c.args.step) c.requires (rw c.in-Add.is (recursion_from_All IsLiteral c.in-Add.lits.now c.look_at.ensures)))

pub returns-in-Delete-clause-line : goal.returns-in-Delete-clause-line
returns-in-Delete-clause-line c = rw (c.in-Delete.is, c.natural-in-Delete.ensures.digits) (sym (joined (decimal c.in-Delete.id) (codes "d" ∷ ids_left c.in-Delete.ids.now)))

pub returns-in-Delete-clause-read_back : goal.returns-in-Delete-clause-read_back
returns-in-Delete-clause-read_back c = rw (returns-in-Delete-clause-line c) (step_back (lent_step c.args.step) c.requires (rw c.in-Delete.is tt))
