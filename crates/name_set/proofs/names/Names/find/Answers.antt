use Rattle.std.proofs.Common.{ℕ, Vec, Global, ◌+◌, ◌-◌, ◌/◌, map, sym, []}
use Rattle.name_set.proofs.NameLists.{within_middle, raised_middle, lowered_middle, found_middle, nowhere}
use Rattle.std.proofs.lemmas.Option.{get_or_from_slice_get}
use Rattle.fbas_model.proofs.SortedNames.{place-found, place-missing, place-only}
use Rattle.name_set.proofs.names.Names.find.Goals as goal

pub loop-low-preserved-in-Less : goal.loop-low-preserved-in-Less
loop-low-preserved-in-Less c = raised_middle (λ (v : Vec ℕ Global). v.items) c.self.inside.list.items c.self.invariant.0 c.args.name.now c.loop-low.low c.loop-low.high c.loop-low.invariant c.loop-low-test.true c.index.result.now c.as_slice.result.now c.cmp.result c.index.ensures c.as_slice.ensures.value c.cmp.ensures c.in-Less.is

pub loop-low-preserved : goal.loop-low-preserved
loop-low-preserved c = lowered_middle (λ (v : Vec ℕ Global). v.items) c.self.inside.list.items c.self.invariant.0 c.args.name.now c.loop-low.low c.loop-low.high c.loop-low.invariant c.loop-low-test.true c.index.result.now c.as_slice.result.now c.cmp.result c.index.ensures c.as_slice.ensures.value c.cmp.ensures c.in-Greater.is

pub returns-in-Equal : goal.returns-in-Equal
returns-in-Equal c =
    let names = map (λ (v : Vec ℕ Global). v.items) c.self.inside.list.items in
    let m = c.loop-low.low + (c.loop-low.high - c.loop-low.low) / 2 in
    let within = within_middle (λ (v : Vec ℕ Global). v.items) c.self.inside.list.items c.self.invariant.0 c.args.name.now c.loop-low.low c.loop-low.high c.loop-low.invariant c.loop-low-test.true c.index.result.now c.as_slice.result.now c.cmp.result c.index.ensures c.as_slice.ensures.value c.cmp.ensures in
    let here = found_middle (λ (v : Vec ℕ Global). v.items) c.self.inside.list.items c.self.invariant.0 c.args.name.now c.loop-low.low c.loop-low.high c.loop-low.invariant c.loop-low-test.true c.index.result.now c.as_slice.result.now c.cmp.result c.index.ensures c.as_slice.ensures.value c.cmp.ensures c.in-Equal.is in
    rw (← c.self.view_is) (record {
      found = here;
      place = sym (place-found names c.args.name.now m c.self.invariant.0 within (get_or_from_slice_get names m c.args.name.now [] here));
      below = within;
      only = λ other at. place-only names c.args.name.now m other c.self.invariant.0 here at;
    })

pub returns : goal.returns
returns c =
    let names = map (λ (name : Vec ℕ Global). name.items) c.self.inside.list.items in
    let missing = nowhere names c.args.name.now c.loop-low.low c.loop-low.high c.loop-low.invariant c.loop-low-test.false in
    rw (← c.self.view_is) (record { found = missing; place = sym (place-missing names c.args.name.now missing); below = tt; only = tt })
