use Rattle.std.proofs.Common.{ℕ, ◌<◌, get_or}
use Rattle.lrat_model.specs.Literal.{Literal}
use Rattle.lrat_checker.specs.Keys.{code_of}
use Rattle.lrat_checker.specs.Subsets.{NoneIn}
use Rattle.lrat_checker.proofs.subsets.SubsetIndex.covers.Given as goal

abbrev pub invariant-loop-l : goal.invariant-loop-l
invariant-loop-l s = (i : ℕ) (m : Literal) → i < s.l-index → NoneIn s.self s.store.held s.id s.lits (code_of (get_or s.lits i m))
