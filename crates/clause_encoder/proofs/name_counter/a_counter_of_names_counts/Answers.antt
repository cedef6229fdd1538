use Rattle.std.proofs.Common.{◌∙◌, arith, nat_le}
use Rattle.std.proofs.lemmas.Bool.{leb-true, false_from_ne_true}
use Rattle.clause_encoder.specs.NameCounter.{true_count}
use Rattle.clause_encoder.proofs.NameCounts.{reached, few, square, variables}
use Rattle.clause_encoder.proofs.NameExtending.{extended_name, extended_cell, counter_holds}
use Rattle.clause_encoder.proofs.name_counter.a_counter_of_names_counts.Goals as goal

pub returns : goal.returns
returns c = record {
  reached = λ v g i j solves low some many. reached v g solves i j low some many;
  few = λ v g m solves some off. few v g solves m some off;
  extends = λ v g m low fewer. (
    counter_holds v g,
    extended_cell v g g m (omega arith) (omega arith) low ∙ false_from_ne_true (nat_le m (true_count v g)) (λ h. let l = leb-true m (true_count v g) h in absurd (omega arith)),
  );
  names = λ v g x low. extended_name v g x low;
  clauses = λ g. square g g;
  vars = λ g. variables g;
}
