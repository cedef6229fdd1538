use Rattle.std.proofs.Common.{◌≡◌, ◌+◌, ◌<◌, ◌++◌, ◌∷◌, [], List, ℕ, cond, ◌∙◌, sym, ap, subst, arith, length, get_or, take, length-append}
use Rattle.std.proofs.lemmas.List.{get_or_default}
use Rattle.cdcl_core.specs.declared.memory.TheConstants.{MOST_DELETED}
use Rattle.cdcl_core.proofs.Parts.{IsPart, AreGone, part_next, gone_next}
use Rattle.cdcl_core.proofs.memory.Memory.part.Goals as goal

pub loop-place-preserved : goal.loop-place-preserved
loop-place-preserved c =
    let live = c.args.self.now.ids.items in
    let needed = c.args.needed.now in
    let place = c.loop-place.place in
    let gone = c.loop-place.gone.items in
    let inv = c.loop-place.invariant in
    let goes = c.goes-goes.result in
    let inside : place < length live = omega (arith, c.loop-place-test.true, c.len.ensures, c.args.self.now.ids.ok.0) in
    let count : c.len-in-loop-place.result ≡ length gone = omega (arith, c.len-in-loop-place.ensures, c.loop-place.gone.ok.0) in
    let items : c.put.new.ids.items ≡ gone ++ cond goes (get_or live place 0 ∷ []) [] = c.in_ok-put.ensures ∙ ap (λ k. gone ++ cond goes (k ∷ []) []) (c.index.ensures ∙ get_or_default live place c.index.result.now 0 inside) in
    let long : length c.put.new.ids.items ≡ length gone + length (cond goes (get_or live place 0 ∷ []) []) = ap (λ (ls : List ℕ). length ls) items ∙ length-append gone (cond goes (get_or live place 0 ∷ []) []) in
    record {
      part = subst (λ (ls : List ℕ). IsPart live needed ls (place + 1)) (sym items) (part_next live needed gone place c.requires.rise inv.part inside goes (λ is. let yes = c.goes-goes.ensures.yes is in (omega (arith, yes.0, count), yes.1)));
      all = λ none few.
          let before : length gone < MOST_DELETED = omega (arith, few, long) in
          subst (λ (ls : List ℕ). AreGone (take (place + 1) live) ls needed) (sym items)
          (gone_next live needed gone place inside goes (inv.all none before) (λ no. c.goes-goes.ensures.no no none (omega (arith, before, count))));
    }
