-- A list that is taken out and put in again, and the queue's end.
use Rattle.std.proofs.Common.{◌≡◌, ◌≢◌, ℕ, suc, ◌+◌, ◌*◌, ◌<◌, ◌≤◌, true, false, not, cond, List, [], ◌∷◌, ⊎_elim, inl, inr, refl, sym, ap, ◌∙◌, subst, arith, length, get_or, set, get_or-set_same, get_or-set_other, Some}
use Rattle.std.specs.Prelude.{◌⊎◌, ◌==◌, All}
use Rattle.std.specs.List.{list_all}
use Rattle.std.proofs.lemmas.List.{take_all, length-set}
use Rattle.cdcl_core.proofs.Walks.{has-at}
use Rattle.cdcl_core.specs.Search.{IsState}
use Rattle.std.proofs.lemmas.List.Elements.{All-nil}
use Rattle.std.proofs.lemmas.Bool.{true≢false, false≢true, not_from_false}
use Rattle.lrat_model.specs.Literal.{Literal, variable_of, negated, same, has}
use Rattle.lrat_model.specs.Clauses.{Held, clause_at}
use Rattle.lrat_model.specs.Propagation.{not_false, status_of, status}
use Rattle.lrat_model.specs.declared.step.ClauseStatus.TheVariants.{Forces, Unresolved}
use Rattle.lrat_model.proofs.Literals.{has-cons, same-true, same-itself, has-filter_from, list_all-has, negated-negated, variable_of-negated}
use Rattle.cdcl_core.specs.Fixpoint.{IsQuiet, IsFixpoint}
use Rattle.cdcl_core.specs.declared.watches.Watch.{Watch}
use Rattle.cdcl_core.specs.declared.watches.Pair.{Pair}
use Rattle.cdcl_core.specs.Watches.{index_of, list_at, lits_at, pair_at, mentions, IsTrueIn, IsOpenPair, IsCounted, IsKept, AreKept, IsSound, IsListed, IsPropagating, IsWatched, IsQueued, IsVisiting}
use Rattle.cdcl_core.proofs.Visits.{kept_next, index-apart, same_or_not, same_at, index_within}

module _ (held : Held) (pairs : List Pair) (lists : List (List Watch)) (trues : List Literal) (reasons : List ℕ) (head : ℕ) (l : Literal) (inside_l : index_of l < length lists) where
  at_own : (ws : List Watch) → list_at (set lists (index_of l) ws) l ≡ ws
  at_own ws = get_or-set_same lists (index_of l) ws [] inside_l

  at_others : (ws : List Watch) (k : Literal) → k ≢ l → list_at (set lists (index_of l) ws) k ≡ list_at lists k
  at_others ws k e = get_or-set_other lists (index_of l) (index_of k) ws [] (λ i. e (index-apart k l i))

  visiting_none : head < length trues → ((d : Literal) → l ≡ negated (get_or trues head d)) → IsWatched held pairs lists l [] → IsQueued held pairs trues reasons head → IsVisiting held pairs (set lists (index_of l) []) trues reasons head l [] (list_at lists l)
  visiting_none within is w q =
      let at : (p : ℕ) (k : Literal) → IsListed lists l [] p k → mentions (list_at lists k) p ≡ true = λ p k h. ⊎_elim (λ m. m) (λ none. absurd (false≢true none.1)) h in
      let move : (p : ℕ) (k : Literal) → IsListed lists l [] p k → IsListed (set lists (index_of l) []) l (list_at lists l) p k =
      λ p k h. ⊎_elim (λ e. inr (e, subst (λ x. mentions (list_at lists x) p ≡ true) e (at p k h))) (λ e. inl (subst (λ ws. mentions ws p ≡ true) (sym (at_others [] k e)) (at p k h))) (same_or_not l k) in
      record {
        within = within;
        at_head = is;
        watched = record {
          long = w.long;
          inside = w.inside;
          listed = λ p less differ. let both = w.listed p less differ in (move p (pair_at pairs p).first both.0, move p (pair_at pairs p).second both.1);
          sound = λ k. ⊎_elim
              (λ e. subst (λ x. All (IsSound held x) (list_at (set lists (index_of l) []) x)) (sym e) (subst (λ ws. All (IsSound held l) ws) (sym (at_own [])) (All-nil (IsSound held l))))
              (λ e. subst (λ ws. All (IsSound held k) ws) (sym (at_others [] k e)) (w.sound k))
              (same_or_not l k);
          sound_spare = w.sound l;
        };
        taken_out = at_own [];
        queued = q;
        visited = λ p less.
            let pair : Pair = pair_at pairs p in
            ⊎_elim (λ t. inr (inl t))
            (λ rest. ⊎_elim
            (λ o.
            let both = w.listed p less o.differ in
            ⊎_elim (λ e. inl (subst (λ x. mentions (list_at lists x) p ≡ true) e (at p pair.first both.0)))
            (λ first. ⊎_elim (λ e. inl (subst (λ x. mentions (list_at lists x) p ≡ true) e (at p pair.second both.1)))
            (λ second. inr (kept_next trues (lits_at held p) head l l pair within (is l) (λ _. (first, second)) (inr (inl o))))
            (same_or_not l pair.second))
            (same_or_not l pair.first))
            (λ counted. inr (inr (inr counted))) rest)
            (q.kept p less);
      }

  -- the list of the literal that became false, taken out
  pub take_out : (t : Literal) → head < length trues → t ≡ get_or trues head t → l ≡ negated t → IsWatched held pairs lists l [] → IsQueued held pairs trues reasons head → (rest : List (List Watch)) (list : List Watch) → rest ≡ set lists (index_of l) [] → list ≡ list_at lists l → IsVisiting held pairs rest trues reasons head l [] list
  take_out t within is l_is w q rest list rest_is list_is = rw (rest_is, list_is) (visiting_none within (λ d. l_is ∙ ap negated (is ∙ same_at trues head t d within)) w q)

  -- and what is left of it, put in again
  pub put_in : (spare : List Watch) → IsWatched held pairs lists l spare → list_at lists l ≡ [] → (k : Literal) → IsWatched held pairs (set lists (index_of l) spare) k []
  put_in spare w none k =
      let new : List (List Watch) = set lists (index_of l) spare in
      let move : (p : ℕ) (m : Literal) → IsListed lists l spare p m → IsListed new k [] p m =
      λ p m h. ⊎_elim
      (λ at. ⊎_elim (λ e. absurd (false≢true (sym (ap (λ ws. mentions ws p) (ap (λ x. list_at lists x) e ∙ none)) ∙ at))) (λ e. inl (subst (λ ws. mentions ws p ≡ true) (sym (at_others spare m e)) at)) (same_or_not l m))
      (λ own. inl (subst (λ x. mentions (list_at new x) p ≡ true) (sym own.0) (subst (λ ws. mentions ws p ≡ true) (sym (at_own spare)) own.1))) h in
      record {
        long = w.long;
        inside = w.inside;
        listed = λ p less differ. let both = w.listed p less differ in (move p (pair_at pairs p).first both.0, move p (pair_at pairs p).second both.1);
        sound = λ m. ⊎_elim
            (λ e. subst (λ x. All (IsSound held x) (list_at new x)) (sym e) (subst (λ ws. All (IsSound held l) ws) (sym (at_own spare)) w.sound_spare))
            (λ e. subst (λ ws. All (IsSound held m) ws) (sym (at_others spare m e)) (w.sound m))
            (same_or_not l m);
        sound_spare = All-nil (IsSound held k);
      }

-- all watches of the literal at the head are visited
pub queued_next : (held : Held) (pairs : List Pair) (lists : List (List Watch)) (trues : List Literal) (reasons : List ℕ) (head : ℕ) (l : Literal) (done : List Watch) → IsVisiting held pairs lists trues reasons head l done [] → IsQueued held pairs trues reasons (head + 1)
queued_next held pairs lists trues reasons head l done v = record {
  within = omega (arith, v.within);
  kept = λ p less. ⊎_elim (λ none. absurd (false≢true none)) (λ k. k) (v.visited p less);
  at_decisions = v.queued.at_decisions;
}

-- a clause that is true or watches two open literals is quiet
pub kept_quiet : (trues clause : List Literal) (pair : Pair) → ((l : Literal) → has trues l ≡ true → has trues (negated l) ≡ false) → (has clause pair.first ≡ true) × (has clause pair.second ≡ true) → IsTrueIn trues clause ⊎ IsOpenPair trues pair → IsQuiet trues (status trues clause)
kept_quiet trues clause pair consistent inside kept =
    let left : (l : Literal) → has clause l ≡ true → has trues (negated l) ≡ false → has (not_false trues clause) l ≡ true = λ l there free. has-filter_from (λ j. not (has trues (negated j))) clause l there (not_from_false (has trues (negated l)) free) in
    ⊎_elim (λ t. quiet_with (not_false trues clause) t.0 (left t.0 t.1 (consistent t.0 t.2)) t.2)
    (λ o. quiet_two (not_false trues clause) pair.first pair.second (left pair.first inside.0 o.first_free) (left pair.second inside.1 o.second_free) o.differ) kept
  where
    is_first : (x : Literal) (xs : List Literal) → list_all (same x) xs ≡ true → (k : Literal) → has (x ∷ xs) k ≡ true → k ≡ x
    is_first x xs all k h = ⊎_elim (λ is. is) (λ there. sym (same-true x k (list_all-has (same x) xs all k there))) (has-cons x k xs h)

    quiet_with : (ls : List Literal) (b : Literal) → has ls b ≡ true → has trues b ≡ true → IsQuiet trues (status_of ls)
    quiet_with [] b here is = absurd (false≢true here)
    quiet_with (x ∷ xs) b here is = elim (list_all (same x) xs) as (λ t. list_all (same x) xs ≡ t → IsQuiet trues (cond t (Forces x) Unresolved)) [
      | true ↦ λ all. subst (λ k. has trues k ≡ true) (is_first x xs all b here) is
      | false ↦ λ _. tt
    ] refl

    quiet_two : (ls : List Literal) (a b : Literal) → has ls a ≡ true → has ls b ≡ true → same a b ≡ false → IsQuiet trues (status_of ls)
    quiet_two [] a b has_a has_b differ = absurd (false≢true has_a)
    quiet_two (x ∷ xs) a b has_a has_b differ = elim (list_all (same x) xs) as (λ t. list_all (same x) xs ≡ t → IsQuiet trues (cond t (Forces x) Unresolved)) [
      | true ↦ λ all. absurd (true≢false (sym (subst (λ k. same a k ≡ true) (is_first x xs all a has_a ∙ sym (is_first x xs all b has_b)) (same-itself a)) ∙ differ))
      | false ↦ λ _. tt
    ] refl

-- a clause that is found stands at a place
pub place_found : (held : Held) (id : ℕ) (clause : List Literal) → clause_at held id ≡ Some clause → (p : ℕ) × (p < length held) × (lits_at held p ≡ clause)
place_found [] id clause at = cc
place_found (e ∷ held) id clause at =
    elim (e.0 == id) as (λ b. cond b (Some e.1) (clause_at held id) ≡ Some clause → (p : ℕ) × (p < length (e ∷ held)) × (lits_at (e ∷ held) p ≡ clause)) [
      | true ↦ λ is. (0, omega arith, cc)
      | false ↦ λ is. let rest : (p : ℕ) × (p < length held) × (lits_at held p ≡ clause) = place_found held id clause is in (suc rest.0, omega (arith, rest.1), rest.2)
    ] at

-- where all clauses are kept, and those that are counted are quiet, propagation is at a fixpoint
pub kept_fixpoint : (held : Held) (pairs : List Pair) (trues : List Literal) → ((l : Literal) → has trues l ≡ true → has trues (negated l) ≡ false) → ((p : ℕ) → p < length held → (has (lits_at held p) (pair_at pairs p).first ≡ true) × (has (lits_at held p) (pair_at pairs p).second ≡ true)) → AreKept held pairs trues trues → ((p : ℕ) → p < length held → IsCounted (pair_at pairs p) → IsQuiet trues (status trues (lits_at held p))) → IsFixpoint held trues
kept_fixpoint held pairs trues consistent inside kept quiet id clause at =
    let found : (p : ℕ) × (p < length held) × (lits_at held p ≡ clause) = place_found held id clause at in
    let p = found.0 in
    let watched : IsTrueIn trues (lits_at held p) ⊎ IsOpenPair trues (pair_at pairs p) → IsQuiet trues (status trues (lits_at held p)) = kept_quiet trues (lits_at held p) (pair_at pairs p) consistent (inside p found.1) in
    subst (λ c. IsQuiet trues (status trues c)) found.2 (⊎_elim (λ t. watched (inl t)) (λ rest. ⊎_elim (λ o. watched (inr o)) (λ counted. quiet p found.1 counted) rest) (kept p found.1))

pub kept_at_end : (held : Held) (pairs : List Pair) (trues : List Literal) (reasons : List ℕ) (head : ℕ) → IsQueued held pairs trues reasons head → length trues ≤ head → AreKept held pairs trues trues
kept_at_end held pairs trues reasons head q end p less = subst (λ ls. IsKept ls trues (lits_at held p) (pair_at pairs p)) (take_all head trues end) (q.kept p less)

-- the literal whose watches are visited is false
pub visiting_false : (held : Held) (pairs : List Pair) (lists : List (List Watch)) (trues : List Literal) (reasons : List ℕ) (head : ℕ) (l : Literal) (done coming : List Watch) → IsVisiting held pairs lists trues reasons head l done coming → has trues (negated l) ≡ true
visiting_false held pairs lists trues reasons head l done coming v =
    has-at trues head (negated l) v.within (ap negated (v.at_head (negated l)) ∙ negated-negated (get_or trues head (negated l)))

-- the list of the literal that becomes false is there
pub index_of_false : (n : ℕ) (held : Held) (trues : List Literal) (reasons : List ℕ) (room head : ℕ) (t l : Literal) → IsState n held trues reasons → head < length trues → t ≡ get_or trues head t → l ≡ negated t → room ≡ 2 * (n + 1) → index_of l < room
index_of_false n held trues reasons room head t l s within is l_is long =
    index_within l n room (subst (λ k. k ≤ n) (sym (ap variable_of l_is ∙ variable_of-negated t)) (s.range t (has-at trues head t within is)).1) long

-- ---- a turn of propagation, at the head of the queue

-- the literal at the head, whose negation has a list
pub record IsAtHead (trues : List Literal) (lists : List (List Watch)) (head : ℕ) (t l : Literal) : Type 0 where
  pub within : head < length trues
  pub first : t ≡ get_or trues head t
  pub false_now : l ≡ negated t
  pub inside : index_of l < length lists

pub at_head : (n : ℕ) (held : Held) (lists : List (List Watch)) (trues tested read : List Literal) (reasons : List ℕ) (head : ℕ) (t l : Literal) → IsPropagating n held lists trues reasons
    → head < length tested → tested ≡ trues → t ≡ get_or read head t → read ≡ trues → l ≡ negated t → IsAtHead trues lists head t l
at_head n held lists trues tested read reasons head t l p less tested_is first read_is l_is =
    let within : head < length trues = omega (arith, less, ap (λ (ls : List Literal). length ls) tested_is) in
    let first_now : t ≡ get_or trues head t = first ∙ ap (λ (ls : List Literal). get_or ls head t) read_is in
    record {
      within = within;
      first = first_now;
      false_now = l_is;
      inside = index_of_false n held trues reasons (length lists) head t l p.state within first_now l_is p.long;
    }

pub inside_still : (x n m : ℕ) (lists new : List (List Watch)) → x < length lists → length lists ≡ 2 * (n + 1) → m ≡ n → length new ≡ 2 * (m + 1) → x < length new
inside_still x n m lists new inside long same new_long = omega (arith, inside, long, same, new_long)

-- one list is another
pub propagating_set : (n : ℕ) (held : Held) (lists new : List (List Watch)) (trues : List Literal) (reasons : List ℕ) (i : ℕ) (list : List Watch) → new ≡ set lists i list → IsPropagating n held lists trues reasons → IsPropagating n held new trues reasons
propagating_set n held lists new trues reasons i list is p = record {
  range = p.range;
  ids = p.ids;
  state = p.state;
  long = ap (λ (xs : List (List Watch)). length xs) is ∙ length-set lists i list ∙ p.long;
}
