use Rattle.std.proofs.Common.{◌≡◌, ◌≤◌, ◌+◌, ◌++◌, Some, sym, subst, arith, w64, rules}
use mir.Val.{SFits}
use Rattle.std.proofs.lemmas.Int.{to_z-of_z}
use Rattle.rat_candidates.specs.Named.{AreNamed}
use Rattle.rat_candidates.specs.Groups.{group_id}
use Rattle.rat_candidates.proofs.NamedLaws.{one_id, named_again, named_more}
use Rattle.rat_candidates.proofs.hints.name_one.Goals as goal

pub returns-then-id-named : goal.returns-then-id-named
returns-then-id-named c = λ ids are.
    let held = c.args.store.now.held in
    let fits : SFits w64 c.args.hint = search rules in
    let names : Some c.in-Some.id ≡ group_id c.args.hint = simp to_z-of_z at c.in-Some.ensures in
    subst (λ more. AreNamed held c.args.l (ids ++ more) c.args.named) (sym (one_id c.args.hint c.in-Some.id names)) (named_again held c.args.l ids c.args.named c.in-Some.id c.if-id-named.true are)

pub returns : goal.returns
returns c = λ ids are.
    let held = c.args.store.now.held in
    let fits : SFits w64 c.args.hint = search rules in
    let names : Some c.in-Some.id ≡ group_id c.args.hint = simp to_z-of_z at c.in-Some.ensures in
    let low : c.saturating_add.result ≤ c.args.named.count + c.times_at-count.result = omega (arith, c.saturating_add.ensures) in
    subst (λ more. AreNamed held c.args.l (ids ++ more) (record { highest = c.in-Some.id; count = c.saturating_add.result })) (sym (one_id c.args.hint c.in-Some.id names))
    (named_more held c.args.l ids c.args.named (record { highest = c.in-Some.id; count = c.saturating_add.result }) c.in-Some.id c.times_at-count.result c.if-id-named.false (omega arith) low (c.times_at-count.ensures ids) are)
