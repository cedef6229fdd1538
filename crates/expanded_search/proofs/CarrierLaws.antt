-- What a carrier's loops keep true, and its steps.
use Rattle.std.proofs.Common.{◌≡◌, ℕ, ◌<◌, ◌≤◌, ◌+◌, ◌-◌, ◌^◌, List, [], ◌∷◌, ◌++◌, map, take, get_or, length, sym, ap, ◌∙◌, subst, None, arith, pos}
use Rattle.std.specs.Prelude.{All, AllPairs}
use Rattle.std.specs.List.{AllByRecursion}
use Rattle.std.proofs.lemmas.List.{take_more, take_all}
use Rattle.std.proofs.lemmas.List.Elements.{All-map, All-push, All-more, recursion_from_All}
use Rattle.lrat_model.specs.Literal.{Literal, variable_of}
use Rattle.lrat_model.specs.Clauses.{Held, clause_at, with_clause}
use Rattle.lrat_model.specs.Steps.{Database}
use Rattle.lrat_text.specs.Texts.{IsId, IsHint}
use Rattle.clause_store.specs.Nearest.{IsFirstAbove}
use Rattle.cdcl_core.proofs.Stores.{IsAhead, ahead_at_first, ahead_more, all_taken}
use Rattle.counter_expansion.specs.Counters.{cell_at}
use Rattle.counter_expansion.specs.declared.cells.Cell.{Cell}
use Rattle.expanded_search.specs.Carriers.{AreLitsNowhere}
use Rattle.expanded_search.specs.Moved.{IsMoved, AreMoved}

-- literals of no places
pub nowhere_more : (cells : List Cell) (lits : List Literal) (i : ℕ) (l : Literal) → i < length lits → AreLitsNowhere cells (take i lits) → l ≡ get_or lits i l → (cell_at cells (variable_of l)).row ≡ 0 → AreLitsNowhere cells (take (i + 1) lits)
nowhere_more cells lits i l within so_far is one =
    All-more (λ (m : Literal). (cell_at cells (variable_of m)).row ≡ 0) lits i l within so_far (subst (λ (m : Literal). (cell_at cells (variable_of m)).row ≡ 0) is one)

pub nowhere_whole : (cells : List Cell) (lits : List Literal) (i : ℕ) → length lits ≤ i → AreLitsNowhere cells (take i lits) → AreLitsNowhere cells lits
nowhere_whole cells lits i end all = subst (λ (ls : List Literal). AreLitsNowhere cells ls) (take_all i lits end) all

-- ids are hints in range
pub ids_as_hints : (ids : List ℕ) → All IsId ids → AllByRecursion IsHint (map pos ids)
ids_as_hints ids all = recursion_from_All IsHint (map pos ids) (All-map IsHint pos ids all)

-- one id more is moved
pub moved_more : (from to : ℕ) (ids news : List ℕ) (id new : ℕ) → AreMoved from to ids news → IsMoved from to id new → AreMoved from to (ids ++ id ∷ []) (news ++ new ∷ [])
moved_more from to [] [] id new all one = (one, tt)
moved_more from to [] (n ∷ news) id new all one = absurd all
moved_more from to (i ∷ ids) [] id new all one = absurd all
moved_more from to (i ∷ ids) (n ∷ news) id new all one = (all.0, moved_more from to ids news id new all.1 one)

pub moved_step : (from to : ℕ) (ids : List ℕ) (i : ℕ) (news after : List ℕ) (new : ℕ) → i < length ids → AreMoved from to (take i ids) news × All IsId news → IsMoved from to (get_or ids i 0) new → IsId new → after ≡ news ++ new ∷ []
    → AreMoved from to (take (i + 1) ids) after × All IsId after
moved_step from to ids i news after new within both one own is =
    subst (λ (ns : List ℕ). AreMoved from to (take (i + 1) ids) ns × All IsId ns) (sym is) (
      subst (λ (xs : List ℕ). AreMoved from to xs (news ++ new ∷ [])) (sym (take_more ids i 0 within)) (moved_more from to (take i ids) news (get_or ids i 0) new both.0 one),
      All-push IsId news new both.1 own,
    )

pub is_moved : (from to id : ℕ) → from < id → IsMoved from to id (id - from + to)
is_moved from to id less = (id - from, omega (arith, less), omega (arith, less), omega arith)

pub moved_id : (from to id : ℕ) → from < id → id < 2 ^ 62 → to < 2 ^ 62 → IsId (id - from + to)
moved_id from to id less small few = (omega (arith, less), omega (arith, less, small, few))

-- the clauses under the ids up to this one, which is the copy's last
pub record IsPart (held : Held) (copy : Database) (above : ℕ) : Type 0 where
  pub rest : Held
  pub ahead : IsAhead held copy.held above rest
  pub last : copy.last ≡ above

pub part_at_first : (held : Held) (copy : Database) → copy.held ≡ [] → copy.last ≡ 0 → AllPairs (λ e f. e.0 < f.0) held → clause_at held 0 ≡ None → IsPart held copy 0
part_at_first held copy nothing zero_is rise none = record {
  rest = held;
  ahead = subst (λ (h : Held). IsAhead held h 0 held) (sym nothing) (ahead_at_first held rise none);
  last = zero_is;
}

pub part_more : (held : Held) (old new : Database) (above next : ℕ) (clause : List Literal) → IsPart held old above → IsFirstAbove held above next clause → new.held ≡ with_clause old.held next clause → new.last ≡ next → IsPart held new next
part_more held old new above next clause part first is last_is =
    let more = ahead_more held old.held above part.rest part.ahead next clause first in
    record {
      rest = more.0;
      ahead = subst (λ (h : Held). IsAhead held h next more.0) (sym is) more.1;
      last = last_is;
    }

-- where nothing is left above the last id, the copy is the store
pub part_whole : (store copy : Database) (above : ℕ) → IsPart store.held copy above → above ≡ store.last → ((k : ℕ) → store.last < k → clause_at store.held k ≡ None) → copy ≡ store
part_whole store copy above part last_is none =
    same_fields store copy (all_taken store.held copy.held above part.rest part.ahead (λ k more. none k (omega (arith, last_is)))) (part.last ∙ last_is)
  where
    same_fields : (a b : Database) → b.held ≡ a.held → b.last ≡ a.last → b ≡ a
    same_fields a b held last = ap (λ (h : Held). record { held = h; last = b.last }) held ∙ ap (λ (n : ℕ). record { held = a.held; last = n }) last
