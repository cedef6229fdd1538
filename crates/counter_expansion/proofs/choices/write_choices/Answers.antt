use Rattle.std.proofs.Common.{◌≡◌, ◌+◌, suc, length, arith, rules, ◌∷◌, []}
use Rattle.lrat_model.specs.Literal.{Minus}
use Rattle.counter_expansion.proofs.Choosing.{on_one, choices_are}
use Rattle.counter_expansion.proofs.choices.write_choices.Goals as goal

pub returns-clause-choices : goal.returns-clause-choices
returns-clause-choices c =
    let start : c.push.new.self.items ≡ Minus c.args.head ∷ [] = search rules in
    let count : c.in-Some.size + c.args.wanted ≡ suc (length c.args.counter.now.inputs.items) = omega (arith, c.args.counter.now.inputs.ok.0) in
    on_one c.choose.result _ _ c.choose.ensures.choices
    (choices_are c.args.counter.now c.choose.new.written.held c.deref.result.now c.push.new.self.items c.args.head c.args.wanted c.in-Some.size c.deref.ensures.value start count)
