use Rattle.std.proofs.Common.{◌≡◌, ◌+◌, ◌++◌, length, arith, rules, sym, subst}
use Rattle.std.specs.Prelude.{ℕ, map}
use Rattle.lrat_model.specs.Literal.{Literal, Plus}
use Rattle.lrat_model.specs.Ranges.{IsInRange}
use Rattle.counter_expansion.specs.Counters.{number_at}
use Rattle.counter_expansion.specs.Finding.{IsNeedless}
use Rattle.counter_expansion.proofs.Choosing.{chosen_either, with_next, next_in_range, on_both, too_few_left, input_within, popped}
use Rattle.counter_expansion.proofs.choices.+choose.Goals as goal

pub returns-then-inputs-from-clause-choices : goal.returns-then-inputs-from-clause-choices
returns-then-inputs-from-clause-choices t c = λ ps rises len. absurd (too_few_left c.args.from (length c.args.inputs.now) c.args.left ps (omega arith) rises len)

pub returns-clause-choices : goal.returns-clause-choices
returns-clause-choices t c =
    let inputs = c.args.inputs.now in
    let chosen = c.args.chosen.now.items in
    let x : ℕ → Literal = λ i. Plus (number_at inputs i) in
    let more = with_next inputs c.args.from chosen c.push.new.self.items c.positive.result c.in_ok-push.ensures.items c.positive.ensures in
    let again : c.pop.new.self.items ≡ chosen = popped chosen c.push.new.self.items c.choose.new.chosen.items c.pop.new.self.items (Plus (number_at inputs (c.args.from + 1))) c.choose.new.chosen.len more c.in_ok-choose.ensures.chosen (search rules) c.pop.ensures.rest in
    on_both c.choose-2.result _ _ _ c.choose-2.ensures.choices c.choose-2.ensures.kept (λ without_it kept.
    chosen_either x c.choose.new.written.held c.choose-2.new.written.held chosen c.push.new.self.items c.args.from (length inputs) c.args.left more
    c.in_ok-choose.ensures.choices kept (λ ps rises len. subst (λ ls. IsNeedless c.choose-2.new.written.held (ls ++ map x ps)) again (without_it ps rises len)) (omega arith))

pub returns-clause-range : goal.returns-clause-range
returns-clause-range t c = λ vars before chosen_in inputs_in.
    let inputs = c.args.inputs.now in
    let chosen = c.args.chosen.now.items in
    let more = with_next inputs c.args.from chosen c.push.new.self.items c.positive.result c.in_ok-push.ensures.items c.positive.ensures in
    let again : c.pop.new.self.items ≡ chosen = popped chosen c.push.new.self.items c.choose.new.chosen.items c.pop.new.self.items (Plus (number_at inputs (c.args.from + 1))) c.choose.new.chosen.len more c.in_ok-choose.ensures.chosen (search rules) c.pop.ensures.rest in
    let more_in = next_in_range vars chosen c.push.new.self.items (number_at inputs (c.args.from + 1)) more chosen_in (input_within vars inputs c.args.from inputs_in (omega arith)) in
    c.choose-2.ensures.range vars (c.in_ok-choose.ensures.range vars before more_in inputs_in) (subst (λ ls. IsInRange vars ls) (sym again) chosen_in) inputs_in
