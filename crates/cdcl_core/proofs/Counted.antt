-- Clauses that are counted: that they are quiet, and what a search owes them while its trail and gates change.
use Rattle.std.proofs.Common.{◌≡◌, ℕ, ◌<◌, ◌∙◌, true, false, List, ⊎_elim, inl, inr, sym, subst, length}
use Rattle.std.specs.Global.{Vec}
use Rattle.lrat_model.specs.Literal.{Literal, Plus, negated, has}
use Rattle.lrat_model.specs.Clauses.{Held}
use Rattle.lrat_model.specs.Propagation.{status}
use Rattle.cardinality_counts.specs.Gates.{IsOpen, IsSet}
use Rattle.cardinality_counts.specs.Counts.{IsCounting}
use Rattle.cardinality_counts.specs.declared.gate.Gate.{Gate}
use Rattle.cardinality_counts.specs.declared.gates.Gates.{Gates}
use Rattle.cdcl_core.specs.declared.search.Search.{Search}
use Rattle.cdcl_core.specs.Fixpoint.{IsFixpoint, IsQuiet}
use Rattle.cdcl_core.specs.Searching.{IsSearching}
use Rattle.cdcl_core.specs.Watches.{AreKept, lits_at}
use Rattle.cdcl_core.proofs.Queues.{kept_fixpoint, kept_quiet, place_found}

-- a clause that is true, or has two literals that are not false, is quiet
pub open_quiet : (trues clause : List Literal) → ((l : Literal) → has trues l ≡ true → has trues (negated l) ≡ false) → IsOpen trues clause → IsQuiet trues (status trues clause)
open_quiet trues clause consistent opens =
    ⊎_elim
    (λ t. kept_quiet trues clause (record { first = t.0; second = t.0; is_counted = false }) consistent (t.1, t.1) (inl t))
    (λ o. kept_quiet trues clause (record { first = o.0; second = o.1; is_counted = false }) consistent (o.2, o.3) (inr (record { differ = o.4; first_free = o.5; second_free = o.6 }))) opens

-- where those that are watched are kept, and all sets of gates are open, propagation is at a fixpoint
pub gated_fixpoint : (s : Search) → IsSearching s.clauses s → AreKept s.clauses s.pairs.items s.assignment.trues s.assignment.trues → ((clause : List Literal) → IsSet s.gates.gates.items clause → IsOpen s.assignment.trues clause) → IsFixpoint s.clauses s.assignment.trues
gated_fixpoint s is kept opens =
    kept_fixpoint s.clauses s.pairs.items s.assignment.trues is.state.trail.consistent ((is.watched (Plus 0)).inside) kept
    (λ p less counted. open_quiet s.assignment.trues (lits_at s.clauses p) is.state.trail.consistent (opens (lits_at s.clauses p) (is.gated.covered p less counted.0)))

-- where each clause is quiet, propagation is at a fixpoint
pub quiet_fixpoint : (held : Held) (trues : List Literal) → ((p : ℕ) → p < length held → IsQuiet trues (status trues (lits_at held p))) → IsFixpoint held trues
quiet_fixpoint held trues quiet id clause at =
    let found : (p : ℕ) × (p < length held) × (lits_at held p ≡ clause) = place_found held id clause at in
    subst (λ c. IsQuiet trues (status trues c)) found.2 (quiet found.0 found.1)

-- other gates, of the same inputs, that are counted as far
pub searching_gates : (held : Held) (s : Search) (gates : Gates) → IsSearching held s → IsCounting gates s.assignment.trues → gates.gates ≡ s.gates.gates → gates.vars ≡ s.gates.vars → IsSearching held (record s { gates = gates })
searching_gates held s gates is counting same vars = record {
  vars = is.vars;
  guide = is.guide;
  state = is.state;
  lists = is.lists;
  watched = is.watched;
  queued = is.queued;
  gated = record {
    counting = counting;
    vars = vars ∙ is.gated.vars;
    covered = λ p less counted. subst (λ (v : Vec Gate). IsSet v.items (lits_at held p)) (sym same) (is.gated.covered p less counted);
  };
}

-- what may force something is no part of what is counted
pub counting_guesses : (gates new : Gates) (trail : List Literal) → new ≡ record gates { guesses = new.guesses } → IsCounting gates trail → IsCounting new trail
counting_guesses gates new trail is c =
    let own : IsCounting (record gates { guesses = new.guesses }) trail = search c in
    subst (λ (g : Gates). IsCounting g trail) (sym is) own
