use Rattle.std.proofs.Common.{◌≡◌, ◌∙◌, ap, sym, map, rules, arith}
use Rattle.node_json.specs.Configuration.{numbered, number_of}
use Rattle.node_json.specs.Named.{named_set}
use Rattle.node_json.specs.View.{names_view, set_view, sets_view}
use Rattle.node_json.specs.declared.quorum_sets.NamedSet.{the_lemmas}
use Rattle.node_json.specs.declared.quorum_sets.NamedSet.TheViews.{out-NamedSet}
use Rattle.node_json.proofs.Numbering.{mapped_more, numbered_end}
use Rattle.node_json.proofs.system.+numbered_set.Goals as goal

pub loop-one-preserved : goal.loop-one-preserved
loop-one-preserved t c =
    mapped_more (λ s. numbered c.args.names.now (set_view s)) c.deref-one-items.result.now c.loop-one.one-index c.one-item.result c.loop-one.inner.items c.push.new.self.items c.in_ok-numbered_set.field-0 (omega arith) c.one-item.is c.in_ok-numbered_set.ensures c.in_ok-push.ensures.items c.loop-one.invariant

pub returns : goal.returns
returns t c =
    let s = out-NamedSet c.args.set.now in
    let names = c.args.names.now in
    let was : set_view c.args.set.now ≡ named_set s.threshold (names_view s.validators.items) (sets_view s.inner.items) = search (rules, the_lemmas) in
    let whole : c.deref-one-items.result.now ≡ s.inner.items = c.deref-one-items.ensures.value in
    let listed : c.in_ok-validators.validators.items ≡ map (number_of names) (names_view s.validators.items) = c.in_ok-validators.ensures ∙ ap (λ vs. map (number_of names) (names_view vs)) c.deref.ensures.value in
    numbered_end names s.threshold (names_view s.validators.items) c.in_ok-validators.validators.items c.loop-one.inner.items c.deref-one-items.result.now c.loop-one.one-index c.loop-one-test.false listed c.loop-one.invariant
    ∙ ap (λ xs. numbered names (named_set s.threshold (names_view s.validators.items) (sets_view xs))) whole ∙ ap (numbered names) (sym was)
