use Rattle.std.proofs.Common.{Result, Bor, [], ◌++◌, Ok, ◌≡◌, ◌∷◌, ◌==◌, ◌∙◌, ℕ, List, Err, sym, ap, subst, rules, tests, length}
use Rattle.std.proofs.lemmas.List.{map-append}
use Rattle.std.proofs.lemmas.List.Elements.{All-get_or, All-push}
use Rattle.std.specs.Prelude.{All, map}
use Rattle.std.proofs.lemmas.Result.{err_from_is_err_and}
use Rattle.std.proofs.lemmas.Iterator.Consumers.{YieldsList-at, YieldsList-turn, YieldsList-end}
use Rattle.std.proofs.lemmas.Iterator.Splits.{YieldsList-from_slice_split}
use Rattle.std.specs.Str.{IsUtf8}
use Rattle.quorum_answers.specs.Answering.{words_in, program}
use Rattle.quorum_answers.specs.declared.reading.Unread.{Unread}
use Rattle.quorum_answers.specs.declared.reading.Unread.TheVariants.{NotText}
use Rattle.quorum_answers.proofs.reading.words.Goals as goal

-- the fault that is handed on is that of the call
abbrev fault_in : {T : Type 0} → Result T Unread → Unread
fault_in (Ok t) = NotText
fault_in (Err e) = e

fault_is : {T : Type 0} (r : Result T Unread) (e : Unread) → (y : Unread) × (r ≡ Err y) × (y ≡ e) → r ≡ Err NotText → e ≡ NotText
fault_is r e p is = sym p.2 ∙ ap fault_in (sym p.1 ∙ is)

pub returns-in_err-push_bytes-clause-refused : goal.returns-in_err-push_bytes-clause-refused
returns-in_err-push_bytes-clause-refused c = λ is all.
    let turn = YieldsList-turn (YieldsList-at c.into_iter-word-iterator.ensures.into_iter_gives (YieldsList-from_slice_split _ (λ b. b == 0) c.args.text.now c.split-word-items.ensures.rest c.split-word-items.ensures.done c.split-word-items.ensures.closure (λ x r q k. search (rules, tests)))) c.loop-word.yielded _ c.loop-word.yielded_by _ _ c.in-Some.word c.in-Some.is c.next.ensures.steps in
    let q = err_from_is_err_and c.from_residual-in_err-push_bytes.result c.from_residual-in_err-push_bytes.ensures.1 in
    let text : IsUtf8 c.in-Some.word.now = subst IsUtf8 (sym turn.1) (All-get_or IsUtf8 (words_in c.args.text.now) (length c.loop-word.yielded) c.in-Some.word.now turn.0 all) in
    let fault : c.in_err-push_bytes.field-0.0 ≡ NotText = fault_is c.from_residual-in_err-push_bytes.result c.in_err-push_bytes.field-0.0 q is in
    c.in_err-push_bytes.ensures.refused (ap Err fault) text

pub loop-word-preserved : goal.loop-word-preserved
loop-word-preserved c =
    let was = map (λ (y : Bor (List ℕ)). y.now) c.loop-word.yielded in
    let more = map-append (λ (y : Bor (List ℕ)). y.now) c.loop-word.yielded (c.in-Some.word ∷ []) in
    record {
      held = c.in_ok-push_bytes.ensures.pushed ∙ ap (λ (ws : List (List ℕ)). ws ++ c.in-Some.word.now ∷ []) c.loop-word.invariant.held ∙ ap (λ (ws : List (List ℕ)). program ∷ ws) (sym more);
      text = subst (All IsUtf8) (sym more) (All-push IsUtf8 was c.in-Some.word.now c.loop-word.invariant.text c.in_ok-push_bytes.ensures.text);
    }

pub returns-clause-ok : goal.returns-clause-ok
returns-clause-ok c =
    let end = YieldsList-end (YieldsList-at c.into_iter-word-iterator.ensures.into_iter_gives (YieldsList-from_slice_split _ (λ b. b == 0) c.args.text.now c.split-word-items.ensures.rest c.split-word-items.ensures.done c.split-word-items.ensures.closure (λ x r q k. search (rules, tests)))) c.loop-word.yielded _ c.loop-word.yielded_by _ _ c.in-None.is c.next.ensures.steps in
    c.loop-word.invariant.held ∙ ap (λ (ws : List (List ℕ)). program ∷ ws) end.0

pub returns-clause-text : goal.returns-clause-text
returns-clause-text c =
    let end = YieldsList-end (YieldsList-at c.into_iter-word-iterator.ensures.into_iter_gives (YieldsList-from_slice_split _ (λ b. b == 0) c.args.text.now c.split-word-items.ensures.rest c.split-word-items.ensures.done c.split-word-items.ensures.closure (λ x r q k. search (rules, tests)))) c.loop-word.yielded _ c.loop-word.yielded_by _ _ c.in-None.is c.next.ensures.steps in
    subst (All IsUtf8) end.0 c.loop-word.invariant.text
