-- What answers a question.
use Rattle.std.specs.Prelude.{◌≡◌, ◌⊎◌, ℕ, length, codes, nat_le, if◌then◌else◌}
use Rattle.fbas_model.specs.Nodes.{Table, members}
use Rattle.fbas_model.specs.Systems.{System}
use Rattle.fbas_model.specs.Fbas.{all_nodes, IsClosure, IsGreatestQuorum, Available, AreUnmet, MeetsQuorums, BlocksNode}
use Rattle.fbas_model.specs.Nodes.{◌∖◌}
use Rattle.greatest_quorum.specs.Greatest.{greatest_of}
use Rattle.clause_encoder.specs.Formula.{formula_vars, formula_clauses}
use Rattle.request_reading.specs.Formulas.{version_of}
use Rattle.clause_encoder.specs.declared.limits.TheConstants.{MOST_VARS}
use Rattle.clause_encoder.specs.Dimacs.{dimacs}
use Rattle.printed_lines.specs.Lines.{Text, closure as printed_closure, exported, too_large, greatest, unavailable, not_blocking, shown}
use Rattle.request_reading.specs.declared.status.Status.TheVariants.{Yes, No, TooLarge}
use Rattle.request_reading.specs.declared.reply.Reply.{Reply as Answer}
use Rattle.request_reading.specs.declared.question.Question.{Question}
use Rattle.request_reading.specs.declared.question.Question.TheVariants.{Show, Closure, Greatest, Available as AvailableWithout, Blocks, Export, Vblocks}
use Rattle.request_reading.specs.declared.question.Origin.{Origin}

abbrev pub says : Text → Answer → Type 0
says text a = a ≡ record { status = Yes; text = text }

abbrev pub denies : Text → Answer → Type 0
denies text a = a ≡ record { status = No; text = text }

-- the least closed set with the node in it is printed
pub record AnswersClosure (f : System) (v : ℕ) (a : Answer) : Type 0 where
  pub closure : Table
  pub places : length closure ≡ length f.sets
  pub is : IsClosure f.sets v (members closure)
  pub said : says (printed_closure f.names closure) a

-- the greatest quorum is printed, once b is deleted
pub record AnswersGreatest (f : System) (b : Table) (a : Answer) : Type 0 where
  pub quorum : Table
  pub places : length quorum ≡ length f.sets
  pub is : IsGreatestQuorum f.sets (members b) (all_nodes f.sets) (members quorum)
  pub said : says (greatest f.names quorum) a

-- yes, and the nodes without s are available
pub record SaysAvailable (f : System) (s : Table) (a : Answer) : Type 0 where
  pub is : Available f.sets (members s)
  pub said : says (codes "available yes\n") a

-- no, and the nodes without s that have no slice there are printed
pub record SaysUnavailable (f : System) (s : Table) (a : Answer) : Type 0 where
  pub not : Available f.sets (members s) → ⊥
  pub unmet : Table
  pub places : length unmet ≡ length f.sets
  pub are : AreUnmet f.sets (members s) (members unmet)
  pub said : denies (unavailable f.names unmet) a

-- yes, and s meets every quorum once b is deleted
pub record SaysBlocks (f : System) (s b : Table) (a : Answer) : Type 0 where
  pub is : MeetsQuorums f.sets (members b) (members s)
  pub said : says (codes "blocks yes\n") a

-- no, and the greatest quorum that s does not meet is printed
pub record SaysNotBlocks (f : System) (s b : Table) (a : Answer) : Type 0 where
  pub not : MeetsQuorums f.sets (members b) (members s) → ⊥
  pub quorum : Table
  pub places : length quorum ≡ length f.sets
  pub is : IsGreatestQuorum f.sets (members b) (all_nodes f.sets ∖ members s) (members quorum)
  pub said : denies (not_blocking f.names quorum) a

-- yes where s meets every slice of v, and else no
abbrev pub AnswersVblocks : System → ℕ → Table → Answer → Type 0
AnswersVblocks f v s a = (BlocksNode f.sets v (members s) × says (codes "vblocks yes\n") a) ⊎ ((BlocksNode f.sets v (members s) → ⊥) × denies (codes "vblocks no\n") a)

-- the formula of the version that is asked for, which says whether quorums intersect, or that it has too many variables
abbrev pub export_answer : System → Origin → Table → Table → Answer
export_answer f origin b greatest =
    if nat_le (formula_vars (version_of origin.formula) f.sets b greatest) MOST_VARS then record {
      status = Yes;
      text = exported origin.formula origin.digest origin.from f.names b (dimacs f.names (record { greatest = greatest; count = formula_vars (version_of origin.formula) f.sets b greatest }) (formula_clauses (version_of origin.formula) f.sets b greatest));
    } else record { status = TooLarge; text = too_large (formula_vars (version_of origin.formula) f.sets b greatest) }

-- the intersection formula over the greatest quorum is printed, once b is deleted
pub record AnswersExport (f : System) (origin : Origin) (b : Table) (a : Answer) : Type 0 where
  pub greatest : Table
  pub places : length greatest ≡ length f.sets
  pub is : IsGreatestQuorum f.sets (members b) (all_nodes f.sets) (members greatest)
  pub counted : greatest ≡ greatest_of f.sets b
  pub said : a ≡ export_answer f origin b greatest

-- the answer to a question about a system
abbrev pub Answers : System → Question → Answer → Type 0
Answers f Show a = says (shown f) a
Answers f (Closure v) a = AnswersClosure f v a
Answers f (Greatest b) a = AnswersGreatest f b a
Answers f (AvailableWithout s) a = SaysAvailable f s a ⊎ SaysUnavailable f s a
Answers f (Blocks s b) a = SaysBlocks f s b a ⊎ SaysNotBlocks f s b a
Answers f (Export origin b) a = AnswersExport f origin b a
Answers f (Vblocks v s) a = AnswersVblocks f v s a
