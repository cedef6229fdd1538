-- What unit propagation finds, as derivations.
use Rattle.std.proofs.Common.{◌≡◌, ◌≢◌, ℕ, true, false, not, List, [], ◌∷◌, ◌++◌, ⊎_elim, inl, inr, refl, sym, ap, ◌∙◌, subst, cond, map, Some, None, Option, pos, negsuc, ℤ, ◌+◌}
use Rattle.std.specs.Prelude.{◌⊎◌}
use Rattle.std.specs.List.{list_all}
use Rattle.std.proofs.lemmas.Bool.{cases_Bool, or_cases, false≢true, true≢false, not_from_false}
use Rattle.std.proofs.lemmas.List.Folds.{list_any-append}
use Rattle.lrat_model.specs.Literal.{Literal, Plus, Minus, negated, same, has, IsConsistent}
use Rattle.lrat_model.specs.Clauses.{Held, clause_at}
use Rattle.lrat_model.specs.Propagation.{not_false, status_of, status, Outcome, Conflict, Stops, Leaves, after_status, after_finding, take_hint, and_then, propagate}
use Rattle.lrat_model.specs.Lemmas.{Settles, others}
use Rattle.lrat_model.specs.declared.step.ClauseStatus.{ClauseStatus}
use Rattle.lrat_model.specs.declared.step.ClauseStatus.TheVariants.{Falsified, Forces, Unresolved}
use Rattle.counter_expansion.specs.Finding.{Finds, Given, By, FalseBut, IsHeld, IsRefuted, IsNeedless}
use Rattle.lrat_model.proofs.Literals.{same-true, same-itself, negated-negated, has-cons, has-first, has-rest, has-filter, has-filter_from, list_all-has}
use Rattle.lrat_model.proofs.Statuses.{status_of-forces, take_hint-status}

pub same_or_not : (l m : Literal) → (l ≡ m) ⊎ (l ≢ m)
same_or_not l m =
    elim (same l m) as (λ b. same l m ≡ b → (l ≡ m) ⊎ (l ≢ m)) [
      | true ↦ λ is. inl (same-true l m is)
      | false ↦ λ isnt. inr (λ e. false≢true (sym isnt ∙ subst (λ k. same l k ≡ true) e (same-itself l)))
    ] refl

pub negated-one : (l m : Literal) → negated l ≡ negated m → l ≡ m
negated-one l m e = sym (negated-negated l) ∙ ap negated e ∙ negated-negated m

pub negated-other : (l m : Literal) → l ≡ negated m → negated l ≡ m
negated-other l m e = ap negated e ∙ negated-negated m

pub negated-differs : (l : Literal) → l ≢ negated l
negated-differs (Plus x) e = false≢true (subst (λ k. same k (Plus x) ≡ true) e (same-itself (Plus x)))
negated-differs (Minus x) e = false≢true (subst (λ k. same k (Minus x) ≡ true) e (same-itself (Minus x)))

-- what a list has and what it lacks differ
pub apart : (clause : List Literal) (n m : Literal) → has clause n ≡ false → has clause m ≡ true → n ≢ m
apart clause n m out within e = false≢true (sym out ∙ subst (λ k. has clause k ≡ true) (sym e) within)

pub has-append : (xs ys : List Literal) (m : Literal) → has (xs ++ ys) m ≡ true → (has xs m ≡ true) ⊎ (has ys m ≡ true)
has-append xs ys m h = or_cases (has xs m) (has ys m) (sym (list_any-append (same m) xs ys) ∙ h)

pub has-others : (l : Literal) (clause : List Literal) (m : Literal) → has (others l clause) m ≡ true → (has clause m ≡ true) × (l ≢ m)
has-others l clause m h =
    let parts : (has clause m ≡ true) × (not (same l m) ≡ true) = has-filter (λ k. not (same l k)) clause m h in
    (parts.0, λ e. true≢false (sym parts.1 ∙ ap not (subst (λ k. same l k ≡ true) e (same-itself l))))

has-others_from : (l : Literal) (clause : List Literal) (m : Literal) → has clause m ≡ true → l ≢ m → has (others l clause) m ≡ true
has-others_from l clause m h isnt =
    has-filter_from (λ k. not (same l k)) clause m h (⊎_elim (λ is. absurd (isnt (same-true l m is))) (λ differs. not_from_false (same l m) differs) (cases_Bool (same l m)))

module _ (held : Held) (trues : List Literal) where
  pub refuted_finds : (l : Literal) → IsRefuted held trues → Finds held trues l
  refuted_finds l refuted = By l refuted.0 refuted.1 (λ m h _. refuted.2 m h)

  pub refuted_by : (l : Literal) (clause : List Literal) → IsHeld held clause → FalseBut held trues l clause → Finds held trues (negated l) → IsRefuted held trues
  refuted_by l clause at rest denied = (clause, at, λ m h. ⊎_elim (λ is. subst (λ o. Finds held trues (negated o)) is denied) (λ isnt. rest m h isnt) (same_or_not l m))

  -- where a literal and its negation are found, a clause is false
  pub clash : IsConsistent trues → (m n : Literal) → n ≡ negated m → Finds held trues m → Finds held trues n → IsRefuted held trues
  clash consistent m n e (By _ clause at rest) denied = refuted_by m clause at rest (subst (λ o. Finds held trues o) e denied)
  clash consistent m n e (Given _ h) (By _ clause at rest) = refuted_by n clause at rest (subst (λ o. Finds held trues o) (sym (negated-other n m e)) (Given m h))
  clash consistent m n e (Given _ h) (Given _ denied) = absurd (true≢false (sym (subst (λ o. has trues o ≡ true) e denied) ∙ consistent m h))

  -- where all literals but l of a clause that is not needed are false, l is found
  pub resolved : IsConsistent trues → (l : Literal) (clause : List Literal) → FalseBut held trues l clause → IsNeedless held clause → Finds held trues l
  resolved consistent l clause rest (inl both) =
      let m : Literal = both.0 in
      ⊎_elim
      (λ (is : l ≡ m). subst (λ k. Finds held trues k) (negated-negated m ∙ sym is) (rest (negated m) both.2 (λ e. negated-differs m (sym is ∙ e))))
      (λ (isnt : l ≢ m). ⊎_elim
      (λ (is : l ≡ negated m). subst (λ k. Finds held trues k) (sym is) (rest m both.1 isnt))
      (λ (neither : l ≢ negated m). refuted_finds l (clash consistent (negated m) (negated (negated m)) refl (rest m both.1 isnt) (rest (negated m) both.2 neither)))
      (same_or_not l (negated m)))
      (same_or_not l m)
  resolved consistent l clause rest (inr part) = By l part.0 part.1 (λ m h isnt. rest m (list_all-has (has clause) part.0 part.2 m h) isnt)

-- what a clause held may say, where it is read by literals that are found
abbrev TellsFound : Held → List Literal → ClauseStatus → Type 0
TellsFound held trues Falsified = IsRefuted held trues
TellsFound held trues (Forces l) = Finds held trues l
TellsFound held trues Unresolved = Unit {0}

-- each of these literals is found
abbrev AllFound : Held → List Literal → List Literal → Type 0
AllFound held trues now = (l : Literal) → has now l ≡ true → Finds held trues l

-- where hints may lead
abbrev LeavesFound : Held → List Literal → Outcome → Type 0
LeavesFound held trues Conflict = IsRefuted held trues
LeavesFound held trues (Stops fault) = Unit {0}
LeavesFound held trues (Leaves now) = AllFound held trues now

module _ (held : Held) (trues : List Literal) where
  status_of-found : (clause : List Literal) → IsHeld held clause → (ls : List Literal) → ((m : Literal) → has clause m ≡ true → (has ls m ≡ true) ⊎ Finds held trues (negated m)) → TellsFound held trues (status_of ls)
  status_of-found clause at [] each = (clause, at, λ m h. ⊎_elim (λ there. absurd (false≢true there)) (λ found. found) (each m h))
  status_of-found clause at (l ∷ ls) each =
      elim (list_all (same l) ls) as (λ b. list_all (same l) ls ≡ b → TellsFound held trues (cond b (Forces l) Unresolved)) [
        | true ↦ λ alike. By l clause at (λ m h isnt. ⊎_elim
            (λ there. absurd (⊎_elim (λ is. isnt (sym is)) (λ later. isnt (same-true l m (list_all-has (same l) ls alike m later))) (has-cons l m ls there)))
            (λ found. found) (each m h))
        | false ↦ λ _. tt
      ] refl

  status-found : (now : List Literal) → AllFound held trues now → (clause : List Literal) → IsHeld held clause → TellsFound held trues (status now clause)
  status-found now all clause at =
      status_of-found clause at (not_false now clause) (λ m h. ⊎_elim
      (λ is. inr (all (negated m) is))
      (λ isnt. inl (has-filter_from (λ k. not (has now (negated k))) clause m h (not_from_false (has now (negated m)) isnt)))
      (cases_Bool (has now (negated m))))

  after_status-found : (now : List Literal) (place : ℕ) → AllFound held trues now → (r : ClauseStatus) → TellsFound held trues r → LeavesFound held trues (after_status now place r)
  after_status-found now place all Falsified refuted = refuted
  after_status-found now place all (Forces l) found = λ m h. ⊎_elim (λ is. subst (λ k. Finds held trues k) (sym is) found) (λ there. all m there) (has-cons l m now h)
  after_status-found now place all Unresolved _ = tt

  after_finding-found : (now : List Literal) (place id : ℕ) → AllFound held trues now → (found : Option (List Literal)) → clause_at held id ≡ found → LeavesFound held trues (after_finding now place id found)
  after_finding-found now place id all None at = tt
  after_finding-found now place id all (Some clause) at = after_status-found now place all (status now clause) (status-found now all clause (id, at))

  take_hint-found : (now : List Literal) (place : ℕ) (hint : ℤ) → AllFound held trues now → LeavesFound held trues (take_hint held now place hint)
  take_hint-found now place (pos id) all = after_finding-found now place id all (clause_at held id) refl
  take_hint-found now place (negsuc n) all = tt

  propagate-found : (now : List Literal) (place : ℕ) (hints : List ℤ) → AllFound held trues now → LeavesFound held trues (propagate held now place hints)
  propagate-found now place [] all = all
  propagate-found now place (hint ∷ hints) all =
      elim (take_hint held now place hint) as (λ e. LeavesFound held trues e → LeavesFound held trues (and_then e (λ next. propagate held next (place + 1) hints))) [
        | Conflict ↦ λ refuted. refuted
        | Stops fault ↦ λ _. tt
        | Leaves next ↦ λ still. propagate-found next (place + 1) hints still
      ] (take_hint-found now place hint all)

  pub conflict_refutes : (hints : List ℤ) → propagate held trues 1 hints ≡ Conflict → IsRefuted held trues
  conflict_refutes hints e = subst (λ o. LeavesFound held trues o) e (propagate-found trues 1 hints (λ m h. Given m h))

  -- what hints settle is found
  pub settled_is_found : (l : Literal) (hints : List ℤ) → Settles held trues l hints → Finds held trues l
  settled_is_found l hints settles =
      ⊎_elim
      (λ e. refuted_finds held trues l (conflict_refutes hints e))
      (λ left. let all : AllFound held trues left.0 = subst (λ o. LeavesFound held trues o) left.1 (propagate-found trues 1 hints (λ m h. Given m h)) in all l left.2)
      settles

-- each of these literals is among those
abbrev Includes : List Literal → List Literal → Type 0
Includes xs ys = (m : Literal) → has xs m ≡ true → has ys m ≡ true

-- from these true literals some hints, at any place, come to a clause with all literals false, or to true literals of which P holds
abbrev Leads : Held → List Literal → (List Literal → Type 0) → Type 0
Leads held trues P = (hints : List ℤ) × (((place : ℕ) → propagate held trues place hints ≡ Conflict) ⊎ ((now : List Literal) × ((place : ℕ) → propagate held trues place hints ≡ Leaves now) × P now))

-- from any true literals that include these, hints make l true too
abbrev IsReached : Held → List Literal → Literal → Type 0
IsReached held trues l = (more : List Literal) → Includes trues more → Leads held more (λ now. Includes more now × (has now l ≡ true))

-- these literals are false
abbrev ReadsFalse : List Literal → List Literal → Type 0
ReadsFalse now ls = (m : Literal) → has ls m ≡ true → has now (negated m) ≡ true

module _ (held : Held) where
  followed : (more : List ℤ) (e : Outcome) (now : List Literal) → ((place : ℕ) → propagate held now place more ≡ e) → (hints : List ℤ) (trues : List Literal) (place : ℕ) → propagate held trues place hints ≡ Leaves now → propagate held trues place (hints ++ more) ≡ e
  followed more e now next [] trues place ends = (let is : trues ≡ now = cc in subst (λ k. propagate held k place more ≡ e) (sym is) (next place))
  followed more e now next (hint ∷ hints) trues place ends =
      elim (take_hint held trues place hint) as (λ o. and_then o (λ n. propagate held n (place + 1) hints) ≡ Leaves now → and_then o (λ n. propagate held n (place + 1) (hints ++ more)) ≡ e) [
        | Conflict ↦ λ k. cc
        | Stops fault ↦ λ k. cc
        | Leaves between ↦ λ k. followed more e now next hints between (place + 1) k
      ] ends

  leads_on : (trues : List Literal) (P R : List Literal → Type 0) → Leads held trues P → ((now : List Literal) → P now → Leads held now R) → Leads held trues R
  leads_on trues P R (hints, inl conflict) next = (hints, inl conflict)
  leads_on trues P R (hints, inr (now, ends, holds)) next =
      let further : Leads held now R = next now holds in (
        hints ++ further.0,
        ⊎_elim
            (λ conflict. inl (λ place. followed further.0 Conflict now conflict hints trues place (ends place)))
            (λ left. inr (left.0, λ place. followed further.0 (Leaves left.0) now left.1 hints trues place (ends place), left.2))
            further.1,
      )

  -- one literal after the other is made false
  all_reached : (trues ls : List Literal) → ((m : Literal) → has ls m ≡ true → IsReached held trues (negated m)) → (more : List Literal) → Includes trues more → Leads held more (λ now. Includes more now × ReadsFalse now ls)
  all_reached trues [] each more includes = ([], inr (more, λ place. refl, (λ m h. h, λ m h. absurd (false≢true h))))
  all_reached trues (x ∷ xs) each more includes =
      leads_on more (λ now. Includes more now × ReadsFalse now xs) (λ now. Includes more now × ReadsFalse now (x ∷ xs))
      (all_reached trues xs (λ m h. each m (has-rest x m xs h)) more includes)
      (λ now so_far. leads_on now (λ end. Includes now end × (has end (negated x) ≡ true)) (λ end. Includes more end × ReadsFalse end (x ∷ xs))
      (each x (has-first x xs) now (λ m h. so_far.0 m (includes m h)))
      (λ end reached. (
        [],
        inr (
          end,
          λ place. refl,
          (
            λ m h. reached.0 m (so_far.0 m h),
            λ m h. ⊎_elim
                (λ first. subst (λ k. has end (negated k) ≡ true) (sym first) reached.1)
                (λ later. reached.0 (negated m) (so_far.1 m later)) (has-cons x m xs h),
          ),
        ),
      )))

  -- a clause without a literal that is not false ends the hints
  falsified : (P : List Literal → Type 0) (now clause : List Literal) (id : ℕ) → clause_at held id ≡ Some clause → not_false now clause ≡ [] → Leads held now P
  falsified P now clause id at is = (pos id ∷ [], inl (λ place. ap (λ o. and_then o (λ n. propagate held n (place + 1) [])) (take_hint-status held now place id clause Falsified at (ap status_of is))))

  last_hint : (more now : List Literal) → Includes more now → (l : Literal) (clause : List Literal) (id : ℕ) → clause_at held id ≡ Some clause → (ls : List Literal) → not_false now clause ≡ ls → ((m : Literal) → has ls m ≡ true → m ≡ l) → Leads held now (λ end. Includes more end × (has end l ≡ true))
  last_hint more now includes l clause id at [] is only = falsified (λ end. Includes more end × (has end l ≡ true)) now clause id at is
  last_hint more now includes l clause id at (x ∷ xs) is only =
      let first : has (x ∷ xs) l ≡ true = subst (λ k. has (x ∷ xs) k ≡ true) (only x (has-first x xs)) (has-first x xs) in (
        pos id ∷ [],
        inr (
          l ∷ now,
          λ place. ap (λ o. and_then o (λ n. propagate held n (place + 1) [])) (take_hint-status held now place id clause (Forces l) at (ap status_of is ∙ status_of-forces l (x ∷ xs) first only)),
          (λ m h. has-rest l m now (includes m h), has-first l now),
        ),
      )

  still_open : (now clause : List Literal) (m : Literal) → has (not_false now clause) m ≡ true → (has clause m ≡ true) × (has now (negated m) ≡ true → ⊥)
  still_open now clause m h =
      let parts : (has clause m ≡ true) × (not (has now (negated m)) ≡ true) = has-filter (λ k. not (has now (negated k))) clause m h in
      (parts.0, λ is. true≢false (sym parts.1 ∙ ap not is))

  only_one : (now : List Literal) (l : Literal) (clause : List Literal) → ReadsFalse now (others l clause) → (m : Literal) → has (not_false now clause) m ≡ true → m ≡ l
  only_one now l clause rest m h =
      let open_one : (has clause m ≡ true) × (has now (negated m) ≡ true → ⊥) = still_open now clause m h in
      ⊎_elim (λ is. sym is) (λ isnt. absurd (open_one.1 (rest m (has-others_from l clause m open_one.0 isnt)))) (same_or_not l m)

  found_is_reached : (trues : List Literal) (l : Literal) → Finds held trues l → IsReached held trues l
  found_is_reached trues l (Given _ h) = λ more includes. ([], inr (more, λ place. refl, (λ m k. k, includes l h)))
  found_is_reached trues l (By _ clause at rest) = λ more includes.
      leads_on more (λ now. Includes more now × ReadsFalse now (others l clause)) (λ now. Includes more now × (has now l ≡ true))
      (all_reached trues (others l clause) (λ m h. let other : (has clause m ≡ true) × (l ≢ m) = has-others l clause m h in found_is_reached trues (negated m) (rest m other.0 other.1)) more includes)
      (λ now so_far. last_hint more now so_far.0 l clause at.0 at.1 (not_false now clause) refl (only_one now l clause so_far.1))

  -- what is found, some hints settle
  pub found_is_settled : (trues : List Literal) (l : Literal) → Finds held trues l → (hints : List ℤ) × Settles held trues l hints
  found_is_settled trues l found =
      let leads : Leads held trues (λ now. Includes trues now × (has now l ≡ true)) = found_is_reached trues l found trues (λ m h. h) in
      (leads.0, ⊎_elim (λ conflict. inl (conflict 1)) (λ left. inr (left.0, left.1 1, left.2.1)) leads.1)

  none_open : (now clause ls : List Literal) → not_false now clause ≡ ls → ReadsFalse now clause → ls ≡ []
  none_open now clause [] is all = refl
  none_open now clause (x ∷ xs) is all =
      let open_one : (has clause x ≡ true) × (has now (negated x) ≡ true → ⊥) = still_open now clause x (subst (λ ls. has ls x ≡ true) (sym is) (has-first x xs)) in
      absurd (open_one.1 (all x open_one.0))

  -- what is refuted, some hints refute
  pub refuted_conflicts : (trues : List Literal) → IsRefuted held trues → (hints : List ℤ) × (propagate held trues 1 hints ≡ Conflict)
  refuted_conflicts trues refuted =
      let clause : List Literal = refuted.0 in
      let leads : Leads held trues (λ _. ⊥) = leads_on trues (λ now. Includes trues now × ReadsFalse now clause) (λ _. ⊥)
      (all_reached trues clause (λ m h. found_is_reached trues (negated m) (refuted.2 m h)) trues (λ m h. h))
      (λ now so_far. falsified (λ _. ⊥) now clause refuted.1.0 refuted.1.1 (none_open now clause (not_false now clause) refl so_far.1)) in
      (leads.0, ⊎_elim (λ conflict. conflict 1) (λ left. absurd left.2) leads.1)

pub has-from_negated : (ls : List Literal) (m : Literal) → has (map negated ls) m ≡ true → has ls (negated m) ≡ true
has-from_negated [] m h = absurd (false≢true h)
has-from_negated (l ∷ ls) m h =
    ⊎_elim
    (λ is. subst (λ k. has (l ∷ ls) k ≡ true) (sym (ap negated is ∙ negated-negated l)) (has-first l ls))
    (λ there. has-rest l (negated m) ls (has-from_negated ls m there))
    (has-cons (negated l) m (map negated ls) h)

-- where the negation of a literal is not in the clause, it is not among the negations of some of the clause
pub lacks-negated : (l : Literal) (clause : List Literal) (m : Literal) → has clause (negated m) ≡ false → has (map negated (others l clause)) m ≡ false
lacks-negated l clause m out =
    ⊎_elim
    (λ within. absurd (false≢true (sym out ∙ (has-others l clause (negated m) (has-from_negated (others l clause) m within)).0)))
    (λ lacks. lacks)
    (cases_Bool (has (map negated (others l clause)) m))
