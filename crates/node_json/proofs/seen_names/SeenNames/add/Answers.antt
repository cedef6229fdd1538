use Rattle.std.proofs.Common.{◌≡◌, ◌<◌, List, length, sym, ◌∙◌, ap, arith}
use Rattle.std.specs.BTreeSet.{insert_key}
use Rattle.fbas_model.specs.Names.{Name, name_cmp}
use Rattle.node_json.specs.View.{names_view}
use Rattle.node_json.proofs.NameSets.{more_names}
use Rattle.node_json.proofs.SeenNames.{seen_here, seen_more}
use Rattle.node_json.proofs.seen_names.SeenNames.add.Goals as goal

pub returns-then-eq : goal.returns-then-eq
returns-then-eq c =
    let slots = c.self.inside.slots in
    let counted : c.len.result ≡ length slots.items = omega (arith, c.len.ensures, slots.ok.0) in
    let within : c.slot_of-slot.result < length slots.items = rw (← counted) (c.slot_of-slot.ensures (rw counted c.self.invariant.some)) in
    rw (← c.self.view_is) (seen_here (names_view c.self.inside.ordered.keys) slots.items c.slot_of-slot.result c.index.result.now c.in-Some.seen c.args.name.now c.self.invariant
    within c.index.ensures c.in-Some.is (sym c.eq.ensures ∙ c.if-eq.true))

pub invariant_of-self-2 : goal.invariant_of-self-2
invariant_of-self-2 c = rw (more_names c.self.inside.ordered.keys c.insert.new.self.keys c.args.name c.in_ok-insert.ensures.keys) (seen_more (names_view c.self.inside.ordered.keys) c.self.inside.slots.items c.slot_of-slot.result c.args.name c.self.invariant)

pub returns : goal.returns
returns c = more_names c.self.inside.ordered.keys c.insert.new.self.keys c.args.name c.in_ok-insert.ensures.keys ∙ ap (λ (ns : List Name). insert_key name_cmp ns c.args.name.now) c.self.view_is
