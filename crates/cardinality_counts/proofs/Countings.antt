-- What is counted along a trail stays so where the trail goes on.
use Rattle.std.proofs.Common.{◌≡◌, ◌≤◌, ◌+◌, List, ◌++◌, sym, ap, ◌∙◌, arith, length, length-append, take}
use Rattle.std.proofs.lemmas.List.{take-append-le}
use Rattle.lrat_model.specs.Literal.{Literal}
use Rattle.cardinality_counts.specs.Counts.{IsCounting, tally}
use Rattle.cardinality_counts.specs.declared.gates.Gates.{Gates}

pub counting_more : (gates : Gates) (trail more : List Literal) → IsCounting gates trail → IsCounting gates (trail ++ more)
counting_more gates trail more c = record {
  small = c.small;
  sound = c.sound;
  listed = c.listed;
  long = c.long;
  within = omega (arith, c.within, length-append trail more);
  tallied = λ g less. c.tallied g less ∙ ap (λ ls. tally gates.starts.items gates.entries.items ls g) (sym (take-append-le gates.counted trail more c.within));
}
