-- Searches whose variables, clauses and log are the same.
use Rattle.std.proofs.Common.{◌≡◌, ℕ, ◌<◌, ◌≤◌, ◌^◌, true, List, sym, ap, ◌∙◌, subst, arith, length}
use Rattle.std.specs.Global.{Vec}
use Rattle.std.specs.Prelude.{All, AllPairs}
use Rattle.lrat_model.specs.Clauses.{Held, clause_at, has_id}
use Rattle.lrat_model.specs.Steps.{ProofStep}
use Rattle.lrat_text.specs.Texts.{HasNumbers}
use Rattle.cdcl_core.specs.declared.search.Search.{Search}
use Rattle.cdcl_core.specs.Log.{HasNoEmptyLemma, IsBoundedLog, live_in, count_from}
use Rattle.cdcl_core.specs.Remembering.{IsRemembering}
use Rattle.cdcl_core.specs.Searching.{HasLogged, HasSame, IsHolding, IsLogging}
use Rattle.cdcl_core.specs.Trail.{InRange}

pub same_more : (a b c : Search) → HasSame a b → HasSame b c → HasSame a c
same_more a b c first second = record {
  vars = second.vars ∙ first.vars;
  last = second.last ∙ first.last;
  clauses = second.clauses ∙ first.clauses;
  log = second.log ∙ first.log;
  lemmas = second.lemmas ∙ first.lemmas;
  deletions = second.deletions ∙ first.deletions;
}

-- of searches alike in clauses and log alone
pub logged_same : (a b : Search) → HasSame a b → HasLogged a b
logged_same a b same = record {
  vars = same.vars;
  last = same.last;
  clauses = same.clauses;
  log = same.log;
}

pub holding_logged : (a b : Search) → HasLogged a b → IsHolding a → IsHolding b
holding_logged a b same h = record {
  few = subst (λ n. n < 2 ^ 31) (sym same.vars) h.few;
  rise = subst (λ (x : Held). AllPairs (λ e f. e.0 < f.0) x) (sym same.clauses) h.rise;
  ids = subst (λ n. All (λ e. (0 < e.0) × (e.0 ≤ n)) b.clauses) (sym same.last) (subst (λ (x : Held). All (λ e. (0 < e.0) × (e.0 ≤ a.last)) x) (sym same.clauses) h.ids);
  range = subst (λ n. InRange n b.clauses) (sym same.vars) (subst (λ (x : Held). InRange a.vars x) (sym same.clauses) h.range);
}

pub holding_same : (a b : Search) → HasSame a b → IsHolding a → IsHolding b
holding_same a b same h = holding_logged a b (logged_same a b same) h

pub open_logged : (a b : Search) → HasLogged a b → HasNoEmptyLemma a.log → HasNoEmptyLemma b.log
open_logged a b same opens = subst (λ (ls : List ProofStep). HasNoEmptyLemma ls) (sym same.log) opens

pub logging_logged : (a b : Search) → HasLogged a b → IsLogging a → IsLogging b
logging_logged a b same h = record {
  holding = holding_logged a b same h.holding;
  numbers = subst (λ (ls : List ProofStep). All HasNumbers ls) (sym same.log) h.numbers;
  bounded = subst (λ n. IsBoundedLog n b.log) (sym same.vars) (subst (λ (ls : List ProofStep). IsBoundedLog a.vars ls) (sym same.log) h.bounded);
}

pub remembering_same : (a b : Search) → HasSame a b → IsRemembering a → IsRemembering b
remembering_same a b same h =
    let ids : b.memory.ids.items ≡ a.memory.ids.items = ap (λ (v : Vec ℕ). v.items) same.lemmas in record {
      live = ids ∙ h.live ∙ ap live_in (sym same.log);
      count = same.deletions ∙ h.count ∙ ap (count_from 0) (sym same.log);
      rise = subst (λ (ls : List ℕ). AllPairs (λ (j k : ℕ). j < k) ls) (sym ids) h.rise;
      held = λ k among.
          let was = h.held k (subst (λ (ls : List ℕ). has_id ls k ≡ true) ids among) in
          (was.0, ap (λ (x : Held). clause_at x k) same.clauses ∙ was.1, was.2);
      room = omega (arith, h.room, ap (λ (ls : List ℕ). length ls) ids, same.vars, same.deletions);
    }
