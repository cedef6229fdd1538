use Rattle.std.proofs.Common.{◌≡◌, ◌∷◌, true, false, rules, sym, subst}
use Rattle.lrat_model.specs.Literal.{Plus, Minus, has}
use Rattle.cardinality_counts.specs.Gates.{IsOpen, has_number}
use Rattle.cardinality_counts.proofs.OpenLaws.{open_denied, open_two, open_head, open_valued}
use Rattle.cardinality_counts.proofs.quiet.is_quiet.Goals as goal
use Rattle.cardinality_counts.proofs.quiet.is_quiet.Goals.{then-falses-gate-via-then-falses-gate, then-falses-gate-via-else-falses-gate+then-is_true}

pub returns-then-falses-gate : goal.returns-then-falses-gate
returns-then-falses-gate c = λ _ set long part few.
    elim c.then-falses-gate.branch as (λ _. IsOpen c.args.assignment.now.trues (Minus c.args.gate.now.head ∷ set)) [
      | then-falses-gate-via-then-falses-gate w ↦
          open_two c.args.assignment.now.trues set c.args.gate.now c.args.falses c.requires.range.apart part long few w.if-falses-gate.true
      | then-falses-gate-via-else-falses-gate+then-is_true w ↦
          let is : has c.args.assignment.now.trues (Minus c.args.gate.now.head) ≡ true = search rules in
          open_denied c.args.assignment.now.trues set c.args.gate.now.head is
    ]

pub returns-then-not-is_true : goal.returns-then-not-is_true
returns-then-not-is_true c = λ _ set long part few.
    let free : has c.args.assignment.now.trues (Plus c.args.gate.now.head) ≡ false = search rules in
    open_head c.args.assignment.now.trues set c.args.gate.now c.args.falses c.requires.range.apart part long few c.if-falses-gate-2.false free

pub returns-else-not-is_true : goal.returns-else-not-is_true
returns-else-not-is_true c = λ is set long part few.
    open_valued c.args.assignment.now.trues set c.args.gate.now c.args.falses c.requires.range.apart part long few c.if-falses-gate-2.false
    (λ x there. c.are_valued.ensures is x (subst (λ xs. has_number xs x ≡ true) (sym c.deref.ensures.value) there))
