-- A log over what is written out, carried over the formula step by step.
use Rattle.std.proofs.Common.{◌≡◌, ℕ, ◌+◌, ◌<◌, cond, List, [], ◌∷◌, ◌++◌, length, take, drop, take-append-drop, get_or, refl, sym, ap, ◌∙◌, subst, arith, None, ℤ}
use Rattle.std.specs.Prelude.{All, ◌==◌}
use Rattle.std.proofs.lemmas.List.{take_more, drop_more}
use Rattle.std.proofs.lemmas.List.Elements.{All-nil, All-push}
use Rattle.lrat_model.specs.Literal.{Literal, has, IsConsistent}
use Rattle.lrat_model.specs.Clauses.{clause_at}
use Rattle.lrat_model.specs.Propagation.{Closes, Follows}
use Rattle.lrat_model.specs.Lemmas.{IsUseful}
use Rattle.lrat_model.specs.Steps.{ProofStep, Addition, Deletion, Database, step_fault, after_step, progress_at, progress_of}
use Rattle.lrat_model.specs.Runs.{Run}
use Rattle.lrat_model.specs.declared.step.Progress.TheVariants.{Going, Refuted}
use Rattle.lrat_text.specs.Texts.{HasNumbers}
use Rattle.cdcl_core.specs.Log.{AreLemmas, IsLemma, IsBoundedLog, HasNoEmptyLemma, EndsEmpty, units}
use Rattle.cdcl_core.proofs.Logs.{run_push, lemmas_append}
use Rattle.cdcl_core.proofs.Lives.{units-append, short_open, short_ended}
use Rattle.cdcl_core.proofs.Runs.{not_empty}
use Rattle.counter_expansion.specs.Gates.{Gates, AreOuter}
use Rattle.counter_expansion.specs.Counters.{gates_of}
use Rattle.counter_expansion.specs.WrittenOut.{IsWrittenOut}
use Rattle.counter_expansion.specs.declared.cells.Cell.{Cell}
use Rattle.counter_expansion.specs.declared.writing.Written.{Written}
use Rattle.counter_expansion.proofs.Apart.{are_outer}
use Rattle.counter_expansion.proofs.WritingOut.{useful_before, closes_after}
use Rattle.expanded_search.specs.Moved.{IsMoved, AreMovedSteps}
use Rattle.expanded_search.specs.Beside.{AreBeside}
use Rattle.expanded_search.specs.Found.{IsRefuting, IsSpending}
use Rattle.expanded_search.specs.Carriers.{IsReady, IsShown, HasStep, HasLemma, HasDeletion, GoesOn, Refutes, WantsUnit, IsCarried}
use Rattle.expanded_search.specs.declared.carrier.Carrier.{Carrier}
use Rattle.expanded_search.proofs.MovedLogs.{bounded_moved, bounded_front, moved_more}
use Rattle.expanded_search.proofs.BesideLaws.{beside_at_first, beside_addition, beside_deletion, beside_counted, beside_written}
use Rattle.expanded_search.proofs.Carried.{closed_useless, lemma_carried, forgetting_carried, due_carried, consistent_of_taken, ends_unsatisfiable}

-- the front of a log is carried over the formula, and its rest is over what is held beside
pub record IsOn (vars : ℕ) (formula written : Database) (gates : Gates) (budget : ℕ) (front rest : List ProofStep) (c : Carrier) (left : ℕ) : Type 0 where
  pub carried : IsCarried vars formula c
  pub beside : Database
  pub next_to : AreBeside gates formula written c.checker.database beside
  pub lemmas : AreLemmas vars beside rest
  pub moved : AreMovedSteps written.last formula.last front c.log
  pub still_open : HasNoEmptyLemma c.log
  pub taken : units c.log + left ≡ budget

-- ---- one step

goes_at : (lits : List Literal) → 0 < length lits → progress_at lits ≡ Going
goes_at [] some = absurd (omega (arith, some))
goes_at (l ∷ ls) some = refl

ends_at : (lits : List Literal) → lits ≡ [] → progress_at lits ≡ Refuted
ends_at lits none = ap progress_at none

-- a step that is taken and logged leads on
carried_with : (vars : ℕ) (formula : Database) (old new : Carrier) (step : ProofStep) → IsCarried vars formula old → HasStep old new step → step_fault vars old.checker.database step ≡ None → AreLemmas vars old.checker.database (step ∷ []) → HasNumbers step → IsCarried vars formula new
carried_with vars formula old new step carried has taken lemma numbers =
    let ran : Run vars formula (old.log ++ step ∷ []) (after_step old.checker.database step) = run_push vars formula old.checker.database old.log step carried.run taken in
    let held : Run vars formula (old.log ++ step ∷ []) new.checker.database = subst (λ (d : Database). Run vars formula (old.log ++ step ∷ []) d) (sym has.checked.database) ran in
    let lemmas : AreLemmas vars formula (old.log ++ step ∷ []) = lemmas_append vars formula old.checker.database old.log (step ∷ []) carried.run carried.lemmas lemma in
    let said : All HasNumbers (old.log ++ step ∷ []) = All-push HasNumbers old.log step carried.numbers numbers in
    record {
      ready = has.checked.ready;
      variables = has.checked.vars ∙ carried.variables;
      run = subst (λ (ls : List ProofStep). Run vars formula ls new.checker.database) (sym has.log) held;
      lemmas = subst (λ (ls : List ProofStep). AreLemmas vars formula ls) (sym has.log) lemmas;
      numbers = subst (λ (ls : List ProofStep). All HasNumbers ls) (sym has.log) said;
    }

shown_among : (vars : ℕ) (formula : Database) (cells : List Cell) (c : Carrier) (lits : List Literal) (hints : List ℤ) → IsCarried vars formula c → IsShown cells c.vars c.checker.database lits hints → IsShown cells vars c.checker.database lits hints
shown_among vars formula cells c lits hints carried shown = subst (λ (n : ℕ). IsShown cells n c.checker.database lits hints) carried.variables shown

module _ (vars : ℕ) (formula : Database) (w : Written) (out : IsWrittenOut vars formula.held w) (bare : (id : ℕ) → w.store.last < id → clause_at w.store.held id ≡ None) where
  -- a useful lemma beside is useful over the formula
  useful_here : (now beside : Database) → AreBeside (gates_of w.counters.items) formula w.store now beside → (lits : List Literal) → IsConsistent lits → AreOuter (gates_of w.counters.items) lits → IsUseful beside.held lits → IsUseful now.held lits
  useful_here now beside next lits consistent plain useful =
      useful_before (gates_of w.counters.items) now.held beside.held out.apart
      (beside_counted (gates_of w.counters.items) formula w.store now beside bare next out.counted)
      (beside_written (gates_of w.counters.items) formula w.store now beside bare next out.written)
      lits consistent plain useful

  closes_there : (now beside : Database) → AreBeside (gates_of w.counters.items) formula w.store now beside → Closes now.held → Closes beside.held
  closes_there now beside next closes =
      closes_after (gates_of w.counters.items) now.held beside.held out.apart
      (beside_counted (gates_of w.counters.items) formula w.store now beside bare next out.counted)
      (beside_written (gates_of w.counters.items) formula w.store now beside bare next out.written)
      closes

  lemma_here : (now beside : Database) → AreBeside (gates_of w.counters.items) formula w.store now beside → (id : ℕ) (lits : List Literal) (hints : List ℤ) → IsLemma vars beside id lits hints → (by : List ℤ) → IsShown w.cells.items vars now lits by → IsLemma vars now (now.last + 1) lits by
  lemma_here now beside next id lits hints lemma by shown =
      lemma_carried vars now beside id lits hints lemma
      (useful_here now beside next lits (consistent_of_taken vars now (now.last + 1) lits by shown.taken).0 (are_outer w.counters.items w.cells.items out.placed lits shown.outer))
      by shown.named shown.few

  module _ (budget : ℕ) (front rest : List ProofStep) (old : Carrier) (left : ℕ) where
    -- the lemma is carried over
    lemma_carries : (id : ℕ) (lits : List Literal) (hints : List ℤ) (new : Carrier) → IsOn vars formula w.store (gates_of w.counters.items) budget front (Addition id lits hints ∷ rest) old left → HasLemma w.cells.items old new lits → IsCarried vars formula new
    lemma_carries id lits hints new on has =
        let shown : IsShown w.cells.items vars old.checker.database lits has.0 = shown_among vars formula w.cells.items old lits has.0 on.carried has.1 in
        carried_with vars formula old new (Addition (old.checker.database.last + 1) lits has.0) on.carried has.2 shown.taken
        (lemma_here old.checker.database on.beside on.next_to id lits hints on.lemmas.0 has.0 shown, tt) shown.numbers

    -- its id is moved
    lemma_moves : (id : ℕ) (lits : List Literal) (hints : List ℤ) (new : Carrier) → IsOn vars formula w.store (gates_of w.counters.items) budget front (Addition id lits hints ∷ rest) old left → HasLemma w.cells.items old new lits
        → AreMovedSteps w.store.last formula.last (front ++ Addition id lits hints ∷ []) new.log
    lemma_moves id lits hints new on has =
        let past : ℕ = on.next_to.last.0 in
        let next : id ≡ on.beside.last + 1 = on.lemmas.0.next in
        let moved : IsMoved w.store.last formula.last id (old.checker.database.last + 1) = (past + 1, omega arith, omega (arith, next, on.next_to.last.2), omega (arith, on.next_to.last.1)) in
        subst (λ (ls : List ProofStep). AreMovedSteps w.store.last formula.last (front ++ Addition id lits hints ∷ []) ls) (sym has.2.log)
        (moved_more w.store.last formula.last front old.log (Addition id lits hints) (Addition (old.checker.database.last + 1) lits has.0) on.moved (moved, refl))

    lemma_beside : (id : ℕ) (lits : List Literal) (hints : List ℤ) (new : Carrier) → (on : IsOn vars formula w.store (gates_of w.counters.items) budget front (Addition id lits hints ∷ rest) old left) → HasLemma w.cells.items old new lits
        → AreBeside (gates_of w.counters.items) formula w.store new.checker.database (after_step on.beside (Addition id lits hints))
    lemma_beside id lits hints new on has =
        let both = beside_addition (gates_of w.counters.items) formula w.store old.checker.database on.beside on.next_to lits hints has.0 (are_outer w.counters.items w.cells.items out.placed lits has.1.outer) in
        let held : AreBeside (gates_of w.counters.items) formula w.store new.checker.database (after_step on.beside (Addition (on.beside.last + 1) lits hints)) = subst (λ (d : Database). AreBeside (gates_of w.counters.items) formula w.store d (after_step on.beside (Addition (on.beside.last + 1) lits hints))) (sym has.2.checked.database) both in
        subst (λ (k : ℕ). AreBeside (gates_of w.counters.items) formula w.store new.checker.database (after_step on.beside (Addition k lits hints))) (sym on.lemmas.0.next) held

    -- a step after which the search goes on
    pub goes_on : (step : ProofStep) (new : Carrier) (more : ℕ) → IsOn vars formula w.store (gates_of w.counters.items) budget front (step ∷ rest) old left → GoesOn w.cells.items w.store.last formula.last step old left new more
        → IsOn vars formula w.store (gates_of w.counters.items) budget (front ++ step ∷ []) rest new more
    goes_on (Addition id lits hints) new more on goes =
        let has : HasLemma w.cells.items old new lits = goes.2 in
        let added : ProofStep = Addition (old.checker.database.last + 1) lits has.0 in
        let one : units (added ∷ []) ≡ 1 = ap (λ b. cond b 0 1 + 0) (not_empty lits goes.0) in
        let all : units new.log ≡ units old.log + units (added ∷ []) = ap units has.2.log ∙ units-append old.log (added ∷ []) in
        record {
          carried = lemma_carries id lits hints new on has;
          beside = after_step on.beside (Addition id lits hints);
          next_to = lemma_beside id lits hints new on has;
          lemmas = on.lemmas.1;
          moved = lemma_moves id lits hints new on has;
          still_open = subst (λ (ls : List ProofStep). HasNoEmptyLemma ls) (sym has.2.log) (All-push (λ step. progress_of step ≡ Going) old.log added on.still_open (goes_at lits goes.0));
          taken = omega (arith, one, all, goes.1, on.taken);
        }
    goes_on (Deletion id ids) new more on goes =
        let has : HasDeletion w.store.last formula.last ids old new = goes.1 in
        let deleted : ProofStep = Deletion old.checker.database.last has.0 in
        let all : units new.log ≡ units old.log + 0 = ap units has.4.log ∙ units-append old.log (deleted ∷ []) in
        record {
          carried = carried_with vars formula old new deleted on.carried has.4 has.2 (forgetting_carried old.checker.database on.beside id on.lemmas.0 (closes_there old.checker.database on.beside on.next_to), tt) has.3;
          beside = after_step on.beside (Deletion id ids);
          next_to = subst (λ (d : Database). AreBeside (gates_of w.counters.items) formula w.store d (after_step on.beside (Deletion id ids))) (sym has.4.checked.database)
              (beside_deletion (gates_of w.counters.items) formula w.store old.checker.database on.beside on.next_to id old.checker.database.last ids has.0 has.1);
          lemmas = on.lemmas.1;
          moved = subst (λ (ls : List ProofStep). AreMovedSteps w.store.last formula.last (front ++ Deletion id ids ∷ []) ls) (sym has.4.log)
              (moved_more w.store.last formula.last front old.log (Deletion id ids) deleted on.moved has.1);
          still_open = subst (λ (ls : List ProofStep). HasNoEmptyLemma ls) (sym has.4.log) (All-push (λ step. progress_of step ≡ Going) old.log deleted on.still_open refl);
          taken = omega (arith, all, goes.0, on.taken);
        }

    -- the empty lemma refutes the formula
    pub refutes_here : (step : ProofStep) (new : Carrier) → IsOn vars formula w.store (gates_of w.counters.items) budget front (step ∷ rest) old left → Refutes w.cells.items step old new → IsBoundedLog vars (front ++ step ∷ []) → IsRefuting vars formula budget new.log
    refutes_here (Deletion id ids) new on refutes bounded = absurd refutes
    refutes_here (Addition id lits hints) new on refutes bounded =
        let has : HasLemma w.cells.items old new lits = refutes.1 in
        let added : ProofStep = Addition (old.checker.database.last + 1) lits has.0 in
        let carried : IsCarried vars formula new = lemma_carries id lits hints new on has in
        let ends : EndsEmpty new.log = (old.log, added, has.2.log, ends_at lits refutes.0, on.still_open) in
        let within : IsBoundedLog vars new.log = bounded_moved vars w.store.last formula.last (front ++ Addition id lits hints ∷ []) new.log (lemma_moves id lits hints new on has) bounded in
        let none : units (added ∷ []) ≡ 0 = ap (λ (ls : List Literal). cond (length ls == 0) 0 1 + 0) refutes.0 in
        let all : units new.log ≡ units old.log + units (added ∷ []) = ap units has.2.log ∙ units-append old.log (added ∷ []) in
        record {
          refuted = ends_unsatisfiable vars formula new.checker.database new.log carried.run ends;
          new = new.checker.database;
          run = record { run = carried.run; lemmas = carried.lemmas; bounded = within; short = short_ended vars new.log within ends; numbers = carried.numbers };
          ends = ends;
          taken = omega (arith, none, all, on.taken);
        }

    -- where no unit is left for a lemma that is shown, it is due
    pub spent_here : (step : ProofStep) → IsOn vars formula w.store (gates_of w.counters.items) budget front (step ∷ rest) old left → WantsUnit w.cells.items step old left → IsBoundedLog vars front → IsSpending vars formula budget old.log
    spent_here (Deletion id ids) on wants bounded = absurd wants
    spent_here (Addition id lits hints) on wants bounded =
        let by : List ℤ = wants.2.0 in
        let shown : IsShown w.cells.items vars old.checker.database lits by = shown_among vars formula w.cells.items old lits by on.carried wants.2.1 in
        let sound : IsConsistent lits × Follows old.checker.database.held lits by = consistent_of_taken vars old.checker.database (old.checker.database.last + 1) lits by shown.taken in
        let useful : IsUseful old.checker.database.held lits = useful_here old.checker.database on.beside on.next_to lits sound.0 (are_outer w.counters.items w.cells.items out.placed lits shown.outer) (on.lemmas.0.useful wants.0) in
        let within : IsBoundedLog vars old.log = bounded_moved vars w.store.last formula.last front old.log on.moved bounded in
        record {
          new = old.checker.database;
          run = record { run = on.carried.run; lemmas = on.carried.lemmas; bounded = within; short = short_open vars old.log within on.still_open; numbers = on.carried.numbers };
          unrefuted = on.still_open;
          taken = omega (arith, wants.1, on.taken);
          unclosed = closed_useless old.checker.database.held lits useful;
          due = due_carried old.checker.database.held lits by useful sound.0 wants.0 sound.1;
        }

  -- ---- places of a log

  module _ (budget : ℕ) (log : List ProofStep) where
    -- at first
    pub starts : (c : Carrier) → c.checker.database ≡ formula → c.vars ≡ vars → IsReady c → c.log ≡ [] → AreLemmas vars w.store log → IsOn vars formula w.store (gates_of w.counters.items) budget (take 0 log) (drop 0 log) c budget
    starts c same count ready none lemmas = record {
      carried = record {
        ready = ready;
        variables = count;
        run = subst (λ (ls : List ProofStep). Run vars formula ls c.checker.database) (sym none) same;
        lemmas = subst (λ (ls : List ProofStep). AreLemmas vars formula ls) (sym none) tt;
        numbers = subst (λ (ls : List ProofStep). All HasNumbers ls) (sym none) (All-nil HasNumbers);
      };
      beside = w.store;
      next_to = subst (λ (d : Database). AreBeside (gates_of w.counters.items) formula w.store d w.store) (sym same) (beside_at_first (gates_of w.counters.items) formula w.store bare);
      lemmas = lemmas;
      moved = subst (λ (ls : List ProofStep). AreMovedSteps w.store.last formula.last [] ls) (sym none) tt;
      still_open = subst (λ (ls : List ProofStep). HasNoEmptyLemma ls) (sym none) (All-nil (λ step. progress_of step ≡ Going));
      taken = omega (arith, ap units none);
    }

    module _ (place : ℕ) (step : ProofStep) (within : place < length log) (at : step ≡ get_or log place step) (old : Carrier) (left : ℕ)
        (on : IsOn vars formula w.store (gates_of w.counters.items) budget (take place log) (drop place log) old left) where
      front_on : take place log ++ step ∷ [] ≡ take (place + 1) log
      front_on = ap (λ (s : ProofStep). take place log ++ s ∷ []) at ∙ sym (take_more log place step within)

      rest_from : drop place log ≡ step ∷ drop (place + 1) log
      rest_from = drop_more log place step within ∙ ap (λ (s : ProofStep). s ∷ drop (place + 1) log) (sym at)

      on_step : IsOn vars formula w.store (gates_of w.counters.items) budget (take place log) (step ∷ drop (place + 1) log) old left
      on_step = subst (λ (ls : List ProofStep). IsOn vars formula w.store (gates_of w.counters.items) budget (take place log) ls old left) rest_from on

      pub goes_past : (new : Carrier) (more : ℕ) → GoesOn w.cells.items w.store.last formula.last step old left new more → IsOn vars formula w.store (gates_of w.counters.items) budget (take (place + 1) log) (drop (place + 1) log) new more
      goes_past new more goes =
          subst (λ (ls : List ProofStep). IsOn vars formula w.store (gates_of w.counters.items) budget ls (drop (place + 1) log) new more) front_on
          (goes_on budget (take place log) (drop (place + 1) log) old left step new more on_step goes)

      bounded_up_to : (k : ℕ) → IsBoundedLog vars log → IsBoundedLog vars (take k log)
      bounded_up_to k bounded = bounded_front vars (take k log) (drop k log) (subst (λ (ls : List ProofStep). IsBoundedLog vars ls) (sym (take-append-drop k log)) bounded)

      pub refutes_at : (new : Carrier) → Refutes w.cells.items step old new → IsBoundedLog vars log → IsRefuting vars formula budget new.log
      refutes_at new refutes bounded =
          refutes_here budget (take place log) (drop (place + 1) log) old left step new on_step refutes
          (subst (λ (ls : List ProofStep). IsBoundedLog vars ls) (sym front_on) (bounded_up_to (place + 1) bounded))

      pub spent_at : (new : Carrier) → WantsUnit w.cells.items step old left → new.log ≡ old.log → IsBoundedLog vars log → IsSpending vars formula budget new.log
      spent_at new wants same bounded =
          subst (λ (ls : List ProofStep). IsSpending vars formula budget ls) (sym same)
          (spent_here budget (take place log) (drop (place + 1) log) old left step on_step wants (bounded_up_to place bounded))
