use Rattle.std.proofs.Common.{◌≡◌, arith, rules, sym, Some, None}
use Rattle.node_json.specs.Reading.{key_of}
use Rattle.node_json.specs.Tree.{view}
use Rattle.node_json.proofs.KeyReading.{keys_loop, keys_fault, keys_end}
use Rattle.node_json.proofs.keys.read_keys.Goals as goal

pub loop-item-preserved : goal.loop-item-preserved
loop-item-preserved c =
    let read : key_of (view c.item-item.result) ≡ Some c.in-Some.key.now = search rules in
    keys_loop _ c.loop-item.keys.items c.args.items.now c.loop-item.item-index c.loop-item.invariant c.item-item.result (omega arith) c.item-item.is c.push.new.self.items c.in-Some.key read c.in_ok-push.ensures.items

pub returns-in_default : goal.returns-in_default
returns-in_default c =
    let none : key_of (view c.item-item.result) ≡ None = search rules in
    sym (keys_fault _ c.loop-item.keys.items c.args.items.now c.loop-item.item-index c.loop-item.invariant c.item-item.result (omega arith) c.item-item.is none)

pub returns : goal.returns
returns c = sym (keys_end _ c.loop-item.keys.items c.args.items.now c.loop-item.item-index c.loop-item.invariant (omega arith))
