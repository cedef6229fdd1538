-- Logs whose lemmas have other ids and other hints.
use Rattle.std.proofs.Common.{◌≡◌, ℕ, ◌+◌, ◌≤◌, Bool, true, false, cond, not, ◌||◌, List, [], ◌∷◌, ◌++◌, ⊎_elim, refl, sym, ap, ◌∙◌, subst, arith, length, ℤ}
use Rattle.std.specs.Prelude.{◌==◌, All, filter}
use Rattle.std.proofs.lemmas.Bool.{eq-eqb, ne_eqb, cases_eq}
use Rattle.std.proofs.lemmas.List.Elements.{All-head, All-tail, All-nil, All-cons}
use Rattle.lrat_model.specs.Literal.{Literal}
use Rattle.lrat_model.specs.Clauses.{has_id}
use Rattle.lrat_model.specs.Steps.{ProofStep, Addition, Deletion, progress_of, progress_at}
use Rattle.lrat_model.specs.declared.step.Progress.TheVariants.{Going}
use Rattle.cdcl_core.specs.Log.{IsBounded, AreBounded, IsBoundedLog, IsEarned, HasNoEmptyLemma, EndsEmpty, live_after, count_after, most_live, units}
use Rattle.expanded_search.specs.Moved.{IsMoved, AreMoved, IsMovedStep, AreMovedSteps}

-- ---- ids

-- two ids are one where the new ones are
same_moved : (from to k j m n : ℕ) → IsMoved from to k m → IsMoved from to j n → (k == j) ≡ (m == n)
same_moved from to k j m n (p, some, k_is, m_is) (q, more, j_is, n_is) =
    ⊎_elim
    (λ is. eq-eqb k j is ∙ sym (eq-eqb m n (omega (arith, is, k_is, m_is, j_is, n_is))))
    (λ isnt. ne_eqb k j isnt ∙ sym (ne_eqb m n (λ same. isnt (omega (arith, same, k_is, m_is, j_is, n_is)))))
    (cases_eq k j)

-- an id is in the list where the new one is in the new list
pub has_moved : (from to : ℕ) (ids news : List ℕ) → AreMoved from to ids news → (k m : ℕ) → IsMoved from to k m → has_id ids k ≡ has_id news m
has_moved from to [] [] are k m one = refl
has_moved from to [] (n ∷ news) are k m one = absurd are
has_moved from to (i ∷ ids) [] are k m one = absurd are
has_moved from to (i ∷ ids) (n ∷ news) are k m one =
    ap (λ b. b || has_id ids k) (same_moved from to i k n m are.0 one) ∙ ap (λ b. (n == m) || b) (has_moved from to ids news are.1 k m one)

cond_moved : (from to : ℕ) (b : Bool) (k m : ℕ) (ks ms : List ℕ) → IsMoved from to k m → AreMoved from to ks ms → AreMoved from to (cond b (k ∷ ks) ks) (cond b (m ∷ ms) ms)
cond_moved from to true k m ks ms one are = (one, are)
cond_moved from to false k m ks ms one are = are

-- what is left without some ids moves to what is left without the new ones
filter_moved : (from to : ℕ) (ids news : List ℕ) → AreMoved from to ids news → (live lives : List ℕ) → AreMoved from to live lives → AreMoved from to (filter (λ k. not (has_id ids k)) live) (filter (λ k. not (has_id news k)) lives)
filter_moved from to ids news gone [] [] are = tt
filter_moved from to ids news gone [] (m ∷ lives) are = absurd are
filter_moved from to ids news gone (k ∷ live) [] are = absurd are
filter_moved from to ids news gone (k ∷ live) (m ∷ lives) are =
    let left : List ℕ = filter (λ j. not (has_id ids j)) live in
    let lefts : List ℕ = filter (λ j. not (has_id news j)) lives in
    subst (λ b. AreMoved from to (cond (not (has_id ids k)) (k ∷ left) left) (cond (not b) (m ∷ lefts) lefts)) (has_moved from to ids news gone k m are.0)
    (cond_moved from to (not (has_id ids k)) k m left lefts are.0 (filter_moved from to ids news gone live lives are.1))

push_moved : (from to : ℕ) (live lives : List ℕ) → AreMoved from to live lives → (k m : ℕ) → IsMoved from to k m → AreMoved from to (live ++ k ∷ []) (lives ++ m ∷ [])
push_moved from to [] [] are k m one = (one, tt)
push_moved from to [] (n ∷ lives) are k m one = absurd are
push_moved from to (i ∷ live) [] are k m one = absurd are
push_moved from to (i ∷ live) (n ∷ lives) are k m one = (are.0, push_moved from to live lives are.1 k m one)

-- there are as many new ones
ids_moved : (from to : ℕ) (ids news : List ℕ) → AreMoved from to ids news → length news ≡ length ids
ids_moved from to [] [] are = refl
ids_moved from to [] (n ∷ news) are = absurd are
ids_moved from to (i ∷ ids) [] are = absurd are
ids_moved from to (i ∷ ids) (n ∷ news) are = omega (arith, ids_moved from to ids news are.1)

named_moved : (from to : ℕ) (live lives : List ℕ) → AreMoved from to live lives → (ids news : List ℕ) → AreMoved from to ids news → All (λ k. has_id live k ≡ true) ids → All (λ k. has_id lives k ≡ true) news
named_moved from to live lives are [] [] moved all = All-nil (λ k. has_id lives k ≡ true)
named_moved from to live lives are [] (n ∷ news) moved all = absurd moved
named_moved from to live lives are (i ∷ ids) [] moved all = absurd moved
named_moved from to live lives are (i ∷ ids) (n ∷ news) moved all =
    All-cons (λ k. has_id lives k ≡ true) n news
    (sym (has_moved from to live lives are i n moved.0) ∙ All-head (λ k. has_id live k ≡ true) i ids all)
    (named_moved from to live lives are ids news moved.1 (All-tail (λ k. has_id live k ≡ true) i ids all))

-- ---- steps

-- a deletion is earned where the new one is
earned_moved : (from to : ℕ) (live lives : List ℕ) → AreMoved from to live lives → (count : ℕ) (ids news : List ℕ) → AreMoved from to ids news → IsEarned live count ids → IsEarned lives count news
earned_moved from to live lives are count ids news moved earned =
    let left = ids_moved from to (filter (λ k. not (has_id ids k)) live) (filter (λ k. not (has_id news k)) lives) (filter_moved from to ids news moved live lives are) in
    let many = ids_moved from to ids news moved in
    let all = ids_moved from to live lives are in record {
      least = omega (arith, many, earned.least);
      most = omega (arith, many, earned.most);
      named = named_moved from to live lives are ids news moved earned.named;
      fewer = omega (arith, left, many, all, earned.fewer);
      earned = omega (arith, all, earned.earned);
    }

live_added : (from to : ℕ) (live lives : List ℕ) → AreMoved from to live lives → (id new : ℕ) → IsMoved from to id new → (lits : List Literal) (hints more : List ℤ) → AreMoved from to (live_after live (Addition id lits hints)) (live_after lives (Addition new lits more))
live_added from to live lives are id new one [] hints more = are
live_added from to live lives are id new one (l ∷ ls) hints more = push_moved from to live lives are id new one

-- the live lemmas move along with a step
live_moved : (from to : ℕ) (live lives : List ℕ) → AreMoved from to live lives → (step new : ProofStep) → IsMovedStep from to step new → AreMoved from to (live_after live step) (live_after lives new)
live_moved from to live lives are (Addition id lits hints) (Addition new news more) moved =
    subst (λ (ls : List Literal). AreMoved from to (live_after live (Addition id lits hints)) (live_after lives (Addition new ls more))) (sym moved.1) (live_added from to live lives are id new moved.0 lits hints more)
live_moved from to live lives are (Addition id lits hints) (Deletion new news) moved = absurd moved
live_moved from to live lives are (Deletion id ids) (Addition new news more) moved = absurd moved
live_moved from to live lives are (Deletion id ids) (Deletion new news) moved = filter_moved from to ids news moved live lives are

count_moved : (from to count : ℕ) (step new : ProofStep) → IsMovedStep from to step new → count_after count step ≡ count_after count new
count_moved from to count (Addition id lits hints) (Addition new news more) moved = refl
count_moved from to count (Addition id lits hints) (Deletion new news) moved = absurd moved
count_moved from to count (Deletion id ids) (Addition new news more) moved = absurd moved
count_moved from to count (Deletion id ids) (Deletion new news) moved = refl

progress_moved : (from to : ℕ) (step new : ProofStep) → IsMovedStep from to step new → progress_of new ≡ progress_of step
progress_moved from to (Addition id lits hints) (Addition new news more) moved = ap progress_at moved.1
progress_moved from to (Addition id lits hints) (Deletion new news) moved = absurd moved
progress_moved from to (Deletion id ids) (Addition new news more) moved = absurd moved
progress_moved from to (Deletion id ids) (Deletion new news) moved = refl

-- a step keeps within the bounds where the new one does
step_moved : (vars from to : ℕ) (live lives : List ℕ) → AreMoved from to live lives → (count : ℕ) (step new : ProofStep) → IsMovedStep from to step new → IsBounded vars live count step → IsBounded vars lives count new
step_moved vars from to live lives are count (Addition id lits hints) (Addition new news more) moved bounded =
    subst (λ n. n ≤ most_live vars count) (sym (ids_moved from to (live_after live (Addition id lits hints)) (live_after lives (Addition new news more)) (live_moved from to live lives are (Addition id lits hints) (Addition new news more) moved))) bounded
step_moved vars from to live lives are count (Addition id lits hints) (Deletion new news) moved bounded = absurd moved
step_moved vars from to live lives are count (Deletion id ids) (Addition new news more) moved bounded = absurd moved
step_moved vars from to live lives are count (Deletion id ids) (Deletion new news) moved bounded = (
  earned_moved from to live lives are count ids news moved bounded.0,
  subst (λ n. n ≤ most_live vars (count + 1)) (sym (ids_moved from to (filter (λ k. not (has_id ids k)) live) (filter (λ k. not (has_id news k)) lives) (filter_moved from to ids news moved live lives are))) bounded.1,
)

-- ---- logs

are_moved : (vars from to : ℕ) (live lives : List ℕ) → AreMoved from to live lives → (count : ℕ) (log new : List ProofStep) → AreMovedSteps from to log new → AreBounded vars live count log → AreBounded vars lives count new
are_moved vars from to live lives are count [] [] moved bounded = tt
are_moved vars from to live lives are count [] (n ∷ new) moved bounded = absurd moved
are_moved vars from to live lives are count (s ∷ log) [] moved bounded = absurd moved
are_moved vars from to live lives are count (s ∷ log) (n ∷ new) moved bounded = (
  step_moved vars from to live lives are count s n moved.0 bounded.0,
  subst (λ (c : ℕ). AreBounded vars (live_after lives n) c new) (count_moved from to count s n moved.0)
      (are_moved vars from to (live_after live s) (live_after lives n) (live_moved from to live lives are s n moved.0) (count_after count s) log new moved.1 bounded.1),
)

-- a log keeps within the bounds where its lemmas have other ids and hints
pub bounded_moved : (vars from to : ℕ) (log new : List ProofStep) → AreMovedSteps from to log new → IsBoundedLog vars log → IsBoundedLog vars new
bounded_moved vars from to log new moved bounded = are_moved vars from to [] [] tt 0 log new moved bounded

front_from : (vars : ℕ) (live : List ℕ) (count : ℕ) (front rest : List ProofStep) → AreBounded vars live count (front ++ rest) → AreBounded vars live count front
front_from vars live count [] rest bounded = tt
front_from vars live count (s ∷ front) rest bounded = (bounded.0, front_from vars (live_after live s) (count_after count s) front rest bounded.1)

-- the front of a log keeps within the bounds
pub bounded_front : (vars : ℕ) (front rest : List ProofStep) → IsBoundedLog vars (front ++ rest) → IsBoundedLog vars front
bounded_front vars front rest bounded = front_from vars [] 0 front rest bounded

-- as many units are taken
pub units_moved : (from to : ℕ) (log new : List ProofStep) → AreMovedSteps from to log new → units new ≡ units log
units_moved from to [] [] moved = refl
units_moved from to [] (n ∷ new) moved = absurd moved
units_moved from to (s ∷ log) [] moved = absurd moved
units_moved from to (Addition id lits hints ∷ log) (Addition k ls more ∷ new) moved =
    ap {B = ℕ} (λ (xs : List Literal). cond (length xs == 0) 0 1 + units new) moved.0.1
    ∙ ap {B = ℕ} (λ (u : ℕ). cond (length lits == 0) 0 1 + u) (units_moved from to log new moved.1)
units_moved from to (Addition id lits hints ∷ log) (Deletion k ks ∷ new) moved = absurd moved.0
units_moved from to (Deletion id ids ∷ log) (Addition k ls more ∷ new) moved = absurd moved.0
units_moved from to (Deletion id ids ∷ log) (Deletion k ks ∷ new) moved = units_moved from to log new moved.1

-- there are as many steps
pub length_moved : (from to : ℕ) (log new : List ProofStep) → AreMovedSteps from to log new → length new ≡ length log
length_moved from to [] [] moved = refl
length_moved from to [] (n ∷ new) moved = absurd moved
length_moved from to (s ∷ log) [] moved = absurd moved
length_moved from to (s ∷ log) (n ∷ new) moved = omega (arith, length_moved from to log new moved.1)

-- no step adds the empty lemma where none did
pub open_moved : (from to : ℕ) (log new : List ProofStep) → AreMovedSteps from to log new → HasNoEmptyLemma log → HasNoEmptyLemma new
open_moved from to [] [] moved opens = opens
open_moved from to [] (n ∷ new) moved opens = absurd moved
open_moved from to (s ∷ log) [] moved opens = absurd moved
open_moved from to (s ∷ log) (n ∷ new) moved opens =
    All-cons (λ step. progress_of step ≡ Going) n new
    (progress_moved from to s n moved.0 ∙ All-head (λ step. progress_of step ≡ Going) s log opens)
    (open_moved from to log new moved.1 (All-tail (λ step. progress_of step ≡ Going) s log opens))

split_moved : (from to : ℕ) (before : List ProofStep) (last : ProofStep) (new : List ProofStep) → AreMovedSteps from to (before ++ last ∷ []) new
    → (front : List ProofStep) × (end : ProofStep) × (new ≡ front ++ end ∷ []) × AreMovedSteps from to before front × IsMovedStep from to last end
split_moved from to [] last [] moved = absurd moved
split_moved from to [] last (n ∷ []) moved = ([], n, refl, tt, moved.0)
split_moved from to [] last (n ∷ m ∷ new) moved = absurd moved.1
split_moved from to (s ∷ before) last [] moved = absurd moved
split_moved from to (s ∷ before) last (n ∷ new) moved =
    let rest : (front : List ProofStep) × (end : ProofStep) × (new ≡ front ++ end ∷ []) × AreMovedSteps from to before front × IsMovedStep from to last end = split_moved from to before last new moved.1 in
    (n ∷ rest.0, rest.1, ap (λ (ls : List ProofStep). n ∷ ls) rest.2, (moved.0, rest.3), rest.4)

-- the empty lemma ends the log where it ended the other
pub ends_moved : (from to : ℕ) (log new : List ProofStep) → AreMovedSteps from to log new → EndsEmpty log → EndsEmpty new
ends_moved from to log new moved (before, last, is, ends, opens) =
    let moves : AreMovedSteps from to (before ++ last ∷ []) new = subst (λ (ls : List ProofStep). AreMovedSteps from to ls new) is moved in
    let parts : (front : List ProofStep) × (end : ProofStep) × (new ≡ front ++ end ∷ []) × AreMovedSteps from to before front × IsMovedStep from to last end = split_moved from to before last new moves in
    (parts.0, parts.1, parts.2, progress_moved from to last parts.1 parts.4 ∙ ends, open_moved from to before parts.0 parts.3 opens)

-- one step more on both
pub moved_more : (from to : ℕ) (log new : List ProofStep) (step more : ProofStep) → AreMovedSteps from to log new → IsMovedStep from to step more → AreMovedSteps from to (log ++ step ∷ []) (new ++ more ∷ [])
moved_more from to [] [] step more moved one = (one, tt)
moved_more from to [] (n ∷ new) step more moved one = absurd moved
moved_more from to (s ∷ log) [] step more moved one = absurd moved
moved_more from to (s ∷ log) (n ∷ new) step more moved one = (moved.0, moved_more from to log new step more moved.1 one)
