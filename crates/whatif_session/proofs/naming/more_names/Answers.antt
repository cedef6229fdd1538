use Rattle.std.proofs.Common.{◌≡◌, ◌<◌, ◌≤◌, length, arith, map, ◌++◌, ◌∷◌, []}
use Rattle.std.proofs.lemmas.Result.{IfOk-weaker}
use Rattle.whatif_session.proofs.NewNames.{items_of_name, names_more, names_and_one, one_name_more, not_among}
use Rattle.whatif_session.proofs.naming.more_names.Goals as goal

pub loop-at-preserved : goal.loop-at-preserved
loop-at-preserved c =
    let names = c.args.names.now in
    let low : c.loop-at.at < length names = omega (arith, c.loop-at-test.true, c.len-at-end.ensures) in
    rw c.in_ok-push.ensures.items (names_more names c.loop-at.list.items c.in_ok-from_slice.field-0 c.loop-at.at c.name.result.now low c.name.ensures c.in_ok-from_slice.ensures.items c.loop-at.invariant)

pub returns : goal.returns
returns c =
    let names = c.args.names.now in
    let past : length names ≤ c.loop-at.at = omega (arith, c.loop-at-test.false, c.len-at-end.ensures) in
    let given : map items_of_name c.push-2.new.self.items ≡ names ++ c.args.name.now ∷ [] = rw c.in_ok-push-2.ensures.items (names_and_one names c.loop-at.list.items c.in_ok-from_slice-2.field-0 c.loop-at.at c.args.name.now past c.in_ok-from_slice-2.ensures.items c.loop-at.invariant) in
    IfOk-weaker c.of.result _ _ (λ more are. one_name_more c.args.name.now names (map items_of_name c.push-2.new.self.items) more c.rise.ensures (not_among c.args.name.now names c.requires.missing) given are) c.of.ensures
