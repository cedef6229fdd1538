-- How many systems a script has.
use Rattle.std.proofs.Common.{◌≡◌, ℕ, ◌+◌, List, [], ◌∷◌, length, Result, Ok, Err, refl, ap, arith}
use Rattle.fbas_model.specs.Systems.{System}
use Rattle.whatif_session.specs.Scripts.{after_line, states_from, states_after, with_state}
use Rattle.whatif_session.specs.declared.faults.ScriptFault.{ScriptFault}
use Rattle.whatif_session.specs.declared.faults.EditFault.{EditFault}

one_more : (s : System) (r : Result (List System) ScriptFault) (n : ℕ) → ((xs : List System) → r ≡ Ok xs → length xs ≡ n + 1) → (states : List System) → with_state s r ≡ Ok states → length states ≡ 1 + n + 1
one_more s (Err fault) n h states is = cc
one_more s (Ok xs) n h states is = let e : (s ∷ xs) ≡ states = cc in let last = h xs refl in let all = ap (λ (ys : List System). length ys) e in omega (arith, all, last)

counted_after : (l : ℕ) (s : System) (r : Result System EditFault) (next : System → Result (List System) ScriptFault) (n : ℕ) → ((t : System) (xs : List System) → next t ≡ Ok xs → length xs ≡ n + 1) → (states : List System) → states_after l s r next ≡ Ok states → length states ≡ 1 + n + 1
counted_after l s (Err fault) next n h states is = cc
counted_after l s (Ok t) next n h states is = one_more s (next t) n (h t) states is

pub counted : (l : ℕ) (s : System) (lines : List (List ℕ)) (states : List System) → states_from l s lines ≡ Ok states → length states ≡ length lines + 1
counted l s [] states h = let e : (s ∷ []) ≡ states = cc in let all = ap (λ (xs : List System). length xs) e in omega (arith, all)
counted l s (line ∷ lines) states h = let more = counted_after l s (after_line s line) (λ t. states_from (l + 1) t lines) (length lines) (λ t xs e. counted (l + 1) t lines xs e) states h in omega (arith, more)
