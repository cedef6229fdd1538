-- A search that goes on by one lemma.
use Rattle.std.proofs.Common.{◌≡◌, ℕ, Result, Ok, Err, Some, append-nil, ◌+◌, ◌-◌, ◌<◌, ◌≤◌, ◌^◌, [], ◌∷◌, ◌++◌, true, false, List, ℤ, ◌⊎◌, ⊎_elim, inl, inr, sym, ap, ◌∙◌, subst, arith, refl, length, length-append, get_or}
use Rattle.std.specs.Global.{Vec}
use Rattle.std.specs.Prelude.{◌==◌, All, AllPairs, OnOk, slice_index}
use Rattle.std.proofs.lemmas.Bool.{eq-eqb, eqb-true, or_cases, true≢false}
use Rattle.std.proofs.lemmas.List.Folds.{list_any_at}
use Rattle.std.proofs.lemmas.List.Quantifiers.{all_pairs_push}
use Rattle.lrat_model.specs.Literal.{Literal}
use Rattle.lrat_model.specs.Clauses.{Held, clause_at, has_id, with_clause, IsUnsatisfiable}
use Rattle.lrat_model.specs.Steps.{ProofStep, Addition}
use Rattle.lrat_model.proofs.Runs.{clause_at-more}
use Rattle.lrat_text.specs.Texts.{HasNumbers}
use Rattle.std.specs.declared.alloc.AllocError.{AllocError}
use Rattle.cdcl_core.specs.declared.run.Verdict.{Verdict}
use Rattle.cdcl_core.specs.declared.search.Search.{Search}
use Rattle.cdcl_core.specs.Guides.{IsGuide}
use Rattle.cdcl_core.specs.Log.{EndsEmpty, HasNoEmptyLemma, IsBoundedLog, count_from, live_after, live_in, most_live}
use Rattle.cdcl_core.specs.Going.{HasRefuted, HasSpent, IsEnded, IsFurther, IsNearer, IsUnrefuted}
use Rattle.cdcl_core.specs.Remembering.{IsRemembering}
use Rattle.cdcl_core.specs.Search.{IsLearntClause, IsState, Searched}
use Rattle.cdcl_core.specs.Searching.{HasLemma, HasLogged, HasSame, IsHolding, IsLogging, IsNoted, IsSearching, IsUndecided, database_in}
use Rattle.cdcl_core.specs.Trail.{InRange}
use Rattle.cdcl_core.proofs.Lemmas.{clause_at-last}
use Rattle.cdcl_core.proofs.Lives.{bounded_push, count_from-append, live_from-append}
use Rattle.cdcl_core.proofs.Logs.{follows_nothing, unsatisfiable_more}
use Rattle.cdcl_core.proofs.Moves.{searching_guided}
use Rattle.cdcl_core.proofs.Parts.{has_id-push}
use Rattle.cdcl_core.proofs.Pushes.{in_range_after, negates_in_range, no_empty-push, refuted_where_empty}
use Rattle.cdcl_core.proofs.Runs.{below_next, id_found, ids_push, not_empty, numbers_push, rise_push}
use Rattle.cdcl_core.proofs.Same.{logged_same, logging_logged, open_logged, remembering_same, same_more}
use Rattle.cdcl_core.proofs.Searches.{searched_append, searched_more}
use Rattle.cdcl_core.proofs.Standing.{all_watched}

-- only the guide is another
pub same_guide : (s a : Search) → a ≡ record s { guide = a.guide } → HasSame s a
same_guide s a rest = record {
  vars = ap (λ (x : Search). x.vars) rest;
  last = ap (λ (x : Search). x.last) rest;
  clauses = ap (λ (x : Search). x.clauses) rest;
  log = ap (λ (x : Search). x.log) rest;
  lemmas = ap (λ (x : Search). x.memory.ids) rest;
  deletions = ap (λ (x : Search). x.memory.deletions) rest;
}

pub searching_guide : (s a : Search) → a ≡ record s { guide = a.guide } → IsGuide a.vars a.guide → IsSearching s.clauses s → IsSearching a.clauses a
searching_guide s a rest guide was =
    let own : IsGuide s.vars a.guide = subst (λ n. IsGuide n a.guide) (ap (λ (x : Search). x.vars) rest) guide in
    subst (λ (x : Search). IsSearching x.clauses x) (sym rest) (searching_guided s.clauses s a.guide own was)

-- where a lemma has a decision to go back to, something is decided
pub searching_decided : (s a : Search) → a ≡ record s { guide = a.guide } → IsGuide a.vars a.guide → IsSearching s.clauses s ⊎ IsUndecided s → (jump : ℕ) → jump < length a.assignment.trues → slice_index a.reasons.items jump ≡ 0 → IsSearching a.clauses a
searching_decided s a rest guide (inl was) jump within decided = searching_guide s a rest guide was
searching_decided s a rest guide (inr undecided) jump within decided = absurd (subst (λ (x : Search). IsUndecided x) (sym rest) undecided jump within decided)

-- a search that goes on from where the same is held and logged
pub searched_from : (a b n : Search) (taken : ℕ) → HasLogged a b → (steps : List ProofStep) × Searched b.vars (database_in b) (database_in n) b.log n.log taken steps → (steps : List ProofStep) × Searched a.vars (database_in a) (database_in n) a.log n.log taken steps
searched_from a b n taken same before =
    subst (λ (h : Held). (steps : List ProofStep) × Searched a.vars (record { held = h; last = a.last }) (database_in n) a.log n.log taken steps) same.clauses
    (subst (λ k. (steps : List ProofStep) × Searched a.vars (record { held = b.clauses; last = k }) (database_in n) a.log n.log taken steps) same.last
    (subst (λ (ls : List ProofStep). (steps : List ProofStep) × Searched a.vars (record { held = b.clauses; last = b.last }) (database_in n) ls n.log taken steps) same.log
    (subst (λ k. (steps : List ProofStep) × Searched k (record { held = b.clauses; last = b.last }) (database_in n) b.log n.log taken steps) same.vars before)))

-- nothing is logged where nothing is done
pub searched_none : (s : Search) (taken : ℕ) → taken ≡ 0 → (steps : List ProofStep) × Searched s.vars (database_in s) (database_in s) s.log s.log taken steps
searched_none s taken none = (
  [],
  record {
    log_is = sym (append-nil s.log);
    run = refl;
    lemmas = tt;
    units_are = sym none;
  },
)

pub searched_to : (a b n : Search) (taken : ℕ) → HasLogged b n → (steps : List ProofStep) × Searched a.vars (database_in a) (database_in b) a.log b.log taken steps → (steps : List ProofStep) × Searched a.vars (database_in a) (database_in n) a.log n.log taken steps
searched_to a b n taken same before =
    subst (λ (h : Held). (steps : List ProofStep) × Searched a.vars (database_in a) (record { held = h; last = n.last }) a.log n.log taken steps) (sym same.clauses)
    (subst (λ k. (steps : List ProofStep) × Searched a.vars (database_in a) (record { held = b.clauses; last = k }) a.log n.log taken steps) (sym same.last)
    (subst (λ (ls : List ProofStep). (steps : List ProofStep) × Searched a.vars (database_in a) (record { held = b.clauses; last = b.last }) a.log ls taken steps) (sym same.log) before))

pub searched_nothing : (a b : Search) (taken : ℕ) → taken ≡ 0 → HasLogged a b → (steps : List ProofStep) × Searched a.vars (database_in a) (database_in b) a.log b.log taken steps
searched_nothing a b taken none same = searched_from a b b taken same (searched_none b taken none)

-- from the first search to the loop's, which then goes on
pub searched_on : (start l n : Search) (taken more all : ℕ) → l.vars ≡ start.vars → all ≡ taken + more
    → (steps : List ProofStep) × Searched start.vars (database_in start) (database_in l) start.log l.log taken steps → (steps : List ProofStep) × Searched l.vars (database_in l) (database_in n) l.log n.log more steps
    → (steps : List ProofStep) × Searched start.vars (database_in start) (database_in n) start.log n.log all steps
searched_on start l n taken more all vars sum first second =
    subst (λ k. (steps : List ProofStep) × Searched start.vars (database_in start) (database_in n) start.log n.log k steps) (sym sum)
    (searched_append start.vars (database_in start) (database_in l) (database_in n) start.log l.log n.log taken more first
    (subst (λ k. (steps : List ProofStep) × Searched k (database_in l) (database_in n) l.log n.log more steps) vars second))

-- one after the other
pub spent_on : (a b n : Search) (x y z : ℕ) → HasSpent a b x y → HasSpent b n y z → HasSpent a n x z
spent_on a b n x y z first second = record {
  vars = second.vars ∙ first.vars;
  left = omega (arith, first.left, second.left);
  logging = second.logging;
  searched = searched_on a b n (x - y) (y - z) (x - z) first.vars (omega (arith, first.left, second.left)) first.searched second.searched;
}

pub further_on : (a b n : Search) (x y z : ℕ) → IsFurther a b x y → IsFurther b n y z → IsFurther a n x z
further_on a b n x y z first second = record {
  spent = spent_on a b n x y z first.spent second.spent;
  room = second.room ∙ first.room;
  still_open = second.still_open;
}

-- no step further
pub spent_nothing : (a b : Search) (left : ℕ) → HasLogged a b → IsLogging a → HasSpent a b left left
spent_nothing a b left same logging = record {
  vars = same.vars;
  left = omega arith;
  logging = logging_logged a b same logging;
  searched = searched_nothing a b (left - left) (omega arith) same;
}

pub no_further : (a b : Search) (left : ℕ) → HasLogged a b → IsLogging a → HasNoEmptyLemma a.log → IsFurther a b left left
no_further a b left same logging still_open = record {
  spent = spent_nothing a b left same logging;
  room = ap (λ k. k + left) same.last;
  still_open = open_logged a b same still_open;
}

-- where a run comes to from the start of a turn, whose search is where the ones before it came to
module _ (start t l : Search) (first left : ℕ) (took : HasSame start t) (was : IsUnrefuted start) (gone : IsFurther t l first left) where
  to_turn : IsFurther start l first left
  to_turn = further_on start t l first first left (no_further start t first (logged_same start t took) was.logging was.still_open) gone

  pub run_to : (n : Search) → HasLogged l n → IsFurther start n first left
  run_to n same = further_on start l n first left left to_turn (no_further l n left same gone.spent.logging gone.still_open)

  pub run_on : (n m : Search) (after : ℕ) → HasLogged l n → IsFurther n m left after → IsFurther start m first after
  run_on n m after same next = further_on start n m first left after (run_to n same) next

  pub run_out : (n m : Search) → HasLogged l n → HasSpent n m left left → HasSpent start m first left
  run_out n m same next = spent_on start n m first left left (run_to n same).spent next

pub ended : {r : Result Verdict AllocError} → (a b : Search) (x y : ℕ) → IsFurther a b x y → IsEnded r a b x y
ended a b x y further = record { spent = further.spent; further = λ _. further }

-- an analysis changes the guide alone
pub same_analysed : (l s a : Search) → HasSame l s → a ≡ record s { guide = a.guide } → HasSame l a
same_analysed l s a same rest = same_more l s a same (same_guide s a rest)

-- what is unrefuted stays so
pub unrefuted_same : (a b : Search) → HasSame a b → IsUnrefuted a → IsUnrefuted b
unrefuted_same a b same was = record {
  logging = logging_logged a b (logged_same a b same) was.logging;
  still_open = open_logged a b (logged_same a b same) was.still_open;
  remembering = remembering_same a b same was.remembering;
}

-- a lemma that is recorded, with its literals and hints as they were read
pub recorded : (a n : Search) (ls lits : List Literal) (hs hints : List ℤ) → n.vars ≡ a.vars → n.last ≡ a.last + 1 → n.clauses ≡ with_clause a.clauses (a.last + 1) ls → n.log ≡ a.log ++ Addition (a.last + 1) ls hs ∷ [] → ls ≡ lits → hs ≡ hints → HasLemma a n lits hints
recorded a n ls lits hs hints vars last clauses log lits_are hints_are = record {
  vars = vars;
  last = last;
  clauses = clauses ∙ ap (λ (xs : List Literal). with_clause a.clauses (a.last + 1) xs) lits_are;
  log = log ∙ ap (λ (xs : List Literal). a.log ++ Addition (a.last + 1) xs hs ∷ []) lits_are ∙ ap (λ (zs : List ℤ). a.log ++ Addition (a.last + 1) lits zs ∷ []) hints_are;
}

-- one lemma more is live
live_lemma : (live : List ℕ) (id : ℕ) (lits : List Literal) (hints : List ℤ) → 0 < length lits → live_after live (Addition id lits hints) ≡ live ++ id ∷ []
live_lemma live id [] hints some = absurd (omega (arith, some))
live_lemma live id (l ∷ ls) hints some = refl

room_after : (live : List ℕ) (id : ℕ) (lits : List Literal) (hints : List ℤ) (most : ℕ) → length live ≤ most → (0 < length lits → length live < most) → length (live_after live (Addition id lits hints)) ≤ most
room_after live id [] hints most room bound = room
room_after live id (l ∷ ls) hints most room bound = omega (arith, bound (omega arith), length-append live (id ∷ []))

is_among : (ids : List ℕ) (k d : ℕ) → k < length ids → has_id ids (get_or ids k d) ≡ true
is_among ids k d within = list_any_at (λ j. j == get_or ids k d) ids k d within (eq-eqb (get_or ids k d) (get_or ids k d) refl)

module _ (s n : Search) (lits : List Literal) (hints : List ℤ) (made : HasLemma s n lits hints) (holding : IsHolding s) (trues : List Literal) (reasons : List ℕ) (state : IsState s.vars s.clauses trues reasons) (jump : ℕ) (learnt : IsLearntClause s.clauses trues reasons lits hints jump) where
  pub holding_more : IsHolding n
  holding_more = record {
    few = subst (λ k. k < 2 ^ 31) (sym made.vars) holding.few;
    rise = subst (λ (h : Held). AllPairs (λ e f. e.0 < f.0) h) (sym made.clauses) (rise_push s.clauses (s.last + 1) lits holding.rise (below_next s.clauses s.last holding.ids));
    ids = subst (λ k. All (λ e. (0 < e.0) × (e.0 ≤ k)) n.clauses) (sym made.last) (subst (λ (h : Held). All (λ e. (0 < e.0) × (e.0 ≤ s.last + 1)) h) (sym made.clauses) (ids_push s.clauses s.last (s.last + 1) lits holding.ids (omega arith) (omega arith)));
    range = subst (λ k. InRange k n.clauses) (sym made.vars) (subst (λ (h : Held). InRange s.vars h) (sym made.clauses) (in_range_after s.vars s.clauses (s.last + 1) lits holding.range (negates_in_range s.vars trues lits state.range learnt.negates)));
  }

  pub numbers_more : s.last + 1 < 2 ^ 63 → All HasNumbers s.log → All HasNumbers n.log
  numbers_more small numbers = numbers_push s.clauses s.last holding.ids small s.log n.log lits hints learnt.named numbers made.log

  pub open_more : (length lits == 0) ≡ false → HasNoEmptyLemma s.log → HasNoEmptyLemma n.log
  open_more some still = subst (λ (ls : List ProofStep). HasNoEmptyLemma ls) (sym made.log) (no_empty-push s.log (s.last + 1) lits hints still some)

  pub ends_empty : (length lits == 0) ≡ true → HasNoEmptyLemma s.log → EndsEmpty n.log
  ends_empty none still = (s.log, Addition (s.last + 1) lits hints, made.log, refuted_where_empty lits none, still)

  pub searched_lemma : (units_at_first left : ℕ) → ((length lits == 0) ≡ true → left ≡ units_at_first) → ((length lits == 0) ≡ false → units_at_first - left ≡ 1) → (steps : List ProofStep) × Searched s.vars (database_in s) (database_in n) s.log n.log (units_at_first - left) steps
  searched_lemma units_at_first left free costs =
      subst (λ k. (steps : List ProofStep) × Searched s.vars (database_in s) (record { held = n.clauses; last = k }) s.log n.log (units_at_first - left) steps) (sym made.last)
      (searched_more s.vars (database_in s) s.log s.clauses s.last s.log trues reasons state lits hints jump learnt units_at_first units_at_first (searched_none s (units_at_first - units_at_first) (omega arith)) n.clauses n.log made.clauses made.log left free (λ some. omega (arith, costs some)))

  pub refutes : (length lits == 0) ≡ true → IsUnsatisfiable s.clauses
  refutes none v satisfies = follows_nothing s.clauses lits hints none learnt.follows v satisfies

  pub refutes_more : (length lits == 0) ≡ true → IsUnsatisfiable n.clauses
  refutes_more none = subst (λ (h : Held). IsUnsatisfiable h) (sym made.clauses) (unsatisfiable_more s.clauses (with_clause s.clauses (s.last + 1) lits) (clause_at-more s.clauses (s.last + 1) lits) (refutes none))

  module _ (logging : IsLogging s) (remembering : IsRemembering s) (bound : 0 < length lits → length s.memory.ids.items < most_live s.vars s.memory.deletions) where
    bounded_more : IsBoundedLog n.vars n.log
    bounded_more =
        let room : length (live_after (live_in s.log) (Addition (s.last + 1) lits hints)) ≤ most_live s.vars (count_from 0 s.log) =
        subst (λ (ls : List ℕ). length (live_after ls (Addition (s.last + 1) lits hints)) ≤ most_live s.vars (count_from 0 s.log)) remembering.live
        (subst (λ k. length (live_after s.memory.ids.items (Addition (s.last + 1) lits hints)) ≤ most_live s.vars k) remembering.count
        (room_after s.memory.ids.items (s.last + 1) lits hints (most_live s.vars s.memory.deletions) remembering.room bound)) in
        subst (λ k. IsBoundedLog k n.log) (sym made.vars) (subst (λ (ls : List ProofStep). IsBoundedLog s.vars ls) (sym made.log) (bounded_push s.vars [] 0 s.log (Addition (s.last + 1) lits hints) logging.bounded room))

    pub logging_more : s.last + 1 < 2 ^ 63 → IsLogging n
    logging_more small = record {
      holding = holding_more;
      numbers = numbers_more small logging.numbers;
      bounded = bounded_more;
    }

    among_more : (k : ℕ) → has_id (s.memory.ids.items ++ (s.last + 1) ∷ []) k ≡ true → 0 < length lits → (clause : List Literal) × (clause_at (with_clause s.clauses (s.last + 1) lits) k ≡ Some clause) × (0 < length clause)
    among_more k among some =
        ⊎_elim
        (λ was. let found = remembering.held k was in (found.0, clause_at-more s.clauses (s.last + 1) lits k found.0 found.1, found.2))
        (λ new. (lits, subst (λ j. clause_at (with_clause s.clauses (s.last + 1) lits) j ≡ Some lits) (eqb-true (s.last + 1) k new) (clause_at-last s.clauses (s.last + 1) lits (below_next s.clauses s.last holding.ids)), some))
        (or_cases (has_id s.memory.ids.items k) (s.last + 1 == k) (sym (has_id-push s.memory.ids.items (s.last + 1) k) ∙ among))

    pub remembering_more : IsNoted s n → 0 < length lits → IsRemembering n
    remembering_more noted some = record {
      live = noted.ids ∙ ap (λ (ls : List ℕ). ls ++ (s.last + 1) ∷ []) remembering.live ∙ sym (live_lemma (live_in s.log) (s.last + 1) lits hints some) ∙ sym (live_from-append [] s.log (Addition (s.last + 1) lits hints ∷ [])) ∙ ap live_in (sym made.log);
      count = noted.deletions ∙ remembering.count ∙ sym (count_from-append 0 s.log (Addition (s.last + 1) lits hints ∷ [])) ∙ ap (count_from 0) (sym made.log);
      rise = subst (λ (ls : List ℕ). AllPairs (λ (j k : ℕ). j < k) ls) (sym noted.ids) (all_pairs_push (λ (j k : ℕ). j < k) s.memory.ids.items (s.last + 1) remembering.rise
          (λ k d within.
          let found = remembering.held (get_or s.memory.ids.items k d) (is_among s.memory.ids.items k d within) in
          let low = id_found (λ j. (0 < j) × (j ≤ s.last)) s.clauses holding.ids (get_or s.memory.ids.items k d) found.0 found.1 in
          omega (arith, low.1)));
      held = λ k among. subst (λ (h : Held). (clause : List Literal) × (clause_at h k ≡ Some clause) × (0 < length clause)) (sym made.clauses) (among_more k (subst (λ (ls : List ℕ). has_id ls k ≡ true) noted.ids among) some);
      room = omega (arith, bound some, ap (λ (ls : List ℕ). length ls) noted.ids, length-append s.memory.ids.items ((s.last + 1) ∷ []), made.vars, noted.deletions);
    }

    -- what the empty lemma comes to
    pub refuted_spent : (length lits == 0) ≡ true → s.last + 1 < 2 ^ 63 → (left : ℕ) → HasSpent s n left left
    refuted_spent none small left = record {
      vars = made.vars;
      left = omega arith;
      logging = logging_more small;
      searched = searched_lemma left left (λ _. refl) (λ some. absurd (true≢false (sym none ∙ some)));
    }

    -- what a lemma with a literal comes to, which takes a unit
    pub lemma_further : (length lits == 0) ≡ false → s.last + 1 < 2 ^ 63 → HasNoEmptyLemma s.log → (before : ℕ) → 0 < before → IsFurther s n before (before - 1)
    lemma_further some small still before enough = record {
      spent = record {
        vars = made.vars;
        left = omega arith;
        logging = logging_more small;
        searched = searched_lemma before (before - 1) (λ none. absurd (true≢false (sym none ∙ some))) (λ _. omega (arith, enough));
      };
      room = omega (arith, made.last, enough);
      still_open = open_more some still;
    }

  pub refuted_both : (length lits == 0) ≡ true → HasNoEmptyLemma s.log → HasRefuted s n
  refuted_both none still = record {
    ends = ends_empty none still;
    before = refutes none;
    after = refutes_more none;
  }

-- a lemma is learnt, between a choice that found none to forget and a restart
module _ (a m l r : Search) (lits : List Literal) (hints : List ℤ) (to_m : HasSame a m) (made : HasLemma m l lits hints) (to_r : HasSame l r) (was : IsUnrefuted a) (state : IsState m.vars m.clauses m.assignment.trues m.reasons.items) (jump : ℕ)
    (learnt : IsLearntClause m.clauses m.assignment.trues m.reasons.items lits hints jump) (some : 0 < length lits) (small : m.last + 1 < 2 ^ 63) (bound : length m.memory.ids.items < most_live m.vars m.memory.deletions) (before : ℕ) (enough : 0 < before) where
  now : IsUnrefuted m
  now = unrefuted_same a m to_m was

  pub learnt_further : IsFurther a r before (before - 1)
  learnt_further =
      let next = lemma_further m l lits hints made now.logging.holding m.assignment.trues m.reasons.items state jump learnt now.logging now.remembering (λ _. bound) (not_empty lits some) small now.still_open before enough in
      further_on a m r before before (before - 1) (no_further a m before (logged_same a m to_m) was.logging was.still_open)
      (further_on m l r before (before - 1) (before - 1) next (no_further l r (before - 1) (logged_same l r to_r) next.spent.logging next.still_open))

  pub learnt_nearer : IsNoted m l → IsSearching r.clauses r → IsNearer a r before (before - 1)
  learnt_nearer noted searching =
      let ids : length r.memory.ids.items ≡ length m.memory.ids.items + 1 = ap (λ (v : Vec ℕ). length v.items) to_r.lemmas ∙ ap (λ (ls : List ℕ). length ls) noted.ids ∙ length-append m.memory.ids.items ((m.last + 1) ∷ []) in
      record {
        remembering = remembering_same l r to_r (remembering_more m l lits hints made now.logging.holding m.assignment.trues m.reasons.items state jump learnt now.logging now.remembering (λ _. bound) noted some);
        searching = all_watched r searching;
        smaller = omega (arith, ids, ap (λ (v : Vec ℕ). length v.items) to_m.lemmas, enough);
      }

-- lemmas are forgotten, after a choice of them
pub nearer_after : {T E : Type 0} (r : Result T E) (a m n : Search) (before after : ℕ) → HasSame a m → OnOk r (IsNearer m n before after) → OnOk r (IsNearer a n before after)
nearer_after (Ok x) a m n before after same h = record { remembering = h.remembering; searching = h.searching; smaller = omega (arith, h.smaller, ap (λ (v : Vec ℕ). length v.items) same.lemmas) }
nearer_after (Err e) a m n before after same h = tt
