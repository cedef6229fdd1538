use Rattle.std.specs.List.{AllWithin}
use Rattle.lrat_text.specs.Texts.{IsLiteral}
use Rattle.lrat_text.proofs.writing.look_at.Given as goal

abbrev pub invariant-loop-l : goal.invariant-loop-l
invariant-loop-l l = AllWithin IsLiteral l.lits 0 l.l-index
