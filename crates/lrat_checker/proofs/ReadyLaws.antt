-- A checker that is ready: with no addition open, and with one.
use Rattle.std.proofs.Common.{◌≡◌, ◌<◌, ℕ, ℤ, List, [], Option, None, Some, sym, ap, ◌∙◌, subst}
use Rattle.std.specs.Prelude.{IfSome, IfNone}
use Rattle.lrat_model.specs.Literal.{Literal}
use Rattle.lrat_model.specs.Clauses.{Held}
use Rattle.lrat_model.specs.Ranges.{IsInRange, AreInRange}
use Rattle.lrat_model.specs.declared.step.Rule.{Rule}
use Rattle.lrat_model.specs.declared.step.StepFault.{StepFault}
use Rattle.lrat_checker.specs.declared.checker.Checker.TheInside.{Inside}
use Rattle.lrat_checker.specs.declared.opened.Opened.{Opened}
use Rattle.lrat_checker.specs.Adding.{Adding, GoesOn, StopsAt, fault_after, fault_from}
use Rattle.lrat_checker.specs.Checking.{Stepping}
use Rattle.lrat_checker.specs.Courses.{adding, adding_of, led, Suits, IsUnitHint, HasGroupRoom}
use Rattle.lrat_checker.specs.State.{shown, IsReady}
use Rattle.lrat_checker.specs.Subsets.{AreFound}
use Rattle.lrat_checker.proofs.AddingLaws.{not_opened}
use Rattle.lrat_checker.proofs.CourseLaws.{ended_fault}

-- ---- no addition is open

pub idle_ready : (c : Inside) → c.opened ≡ None → c.assignment.trues ≡ [] → AreInRange c.assignment.vars c.clauses.held → IfSome c.subsets (AreFound c.clauses.held) → IsReady c
idle_ready c none nothing in_range found = record {
  nothing_true = subst (λ (x : Option Opened). IfNone x (c.assignment.trues ≡ [])) (sym none) nothing;
  above = subst (λ (x : Option Opened). IfSome x (λ o. c.clauses.last < o.id)) (sym none) tt;
  literals = subst (λ (x : Option Opened). IfSome x (λ _. IsInRange c.assignment.vars c.lits.items)) (sym none) tt;
  suits = subst (λ (x : Option Opened). IfSome x (λ o. Suits c.rule c.assignment.trues c.groups.hints o.course)) (sym none) tt;
  room = subst (λ (x : Option Opened). IfSome x (λ _. HasGroupRoom c.rule c.clauses.held c.lits.items c.groups)) (sym none) tt;
  in_range = in_range;
  found = found;
}

-- where none is shown
module _ (c : Inside) (s : Stepping) (view : shown c ≡ s) (closed : s.open_addition ≡ None) where
  pub shown_idle : c.opened ≡ None
  shown_idle = not_opened c.lits.items c.assignment.trues c.groups.hints c.opened (ap (λ (x : Stepping). x.open_addition) view ∙ closed)

  pub idle_trues : IsReady c → c.assignment.trues ≡ []
  idle_trues ready = subst (λ (x : Option Opened). IfNone x (c.assignment.trues ≡ [])) shown_idle ready.nothing_true

-- ---- one is

module _ (c : Inside) (o : Opened) (is : c.opened ≡ Some o) where
  module _ (ready : IsReady c) where
    pub open_above : c.clauses.last < o.id
    open_above = subst (λ (x : Option Opened). IfSome x (λ k. c.clauses.last < k.id)) is ready.above

    pub open_literals : IsInRange c.assignment.vars c.lits.items
    open_literals = subst (λ (x : Option Opened). IfSome x (λ _. IsInRange c.assignment.vars c.lits.items)) is ready.literals

    pub open_suits : Suits c.rule c.assignment.trues c.groups.hints o.course
    open_suits = subst (λ (x : Option Opened). IfSome x (λ k. Suits c.rule c.assignment.trues c.groups.hints k.course)) is ready.suits

    pub open_room : HasGroupRoom c.rule c.clauses.held c.lits.items c.groups
    open_room = subst (λ (x : Option Opened). IfSome x (λ _. HasGroupRoom c.rule c.clauses.held c.lits.items c.groups)) is ready.room

  module _ (s : Stepping) (view : shown c ≡ s) where
    -- what holds of its fields holds of what is shown
    shown_open : (P : Rule → Held → Option Adding → Type 0) → P c.rule c.clauses.held (Some (adding_of c.lits.items c.assignment.trues c.groups.hints o)) → P s.rule s.database.held s.open_addition
    shown_open P so =
        subst (λ (x : Stepping). P x.rule x.database.held x.open_addition) view
        (subst (λ (x : Option Opened). P c.rule c.clauses.held (adding c.lits.items c.assignment.trues c.groups.hints x)) (sym is) so)

    -- the fault of its end
    pub end_shown : (lits : List Literal) (groups : List ℤ) (r : Option StepFault) → IsReady c → lits ≡ c.lits.items → groups ≡ c.groups.hints
        → ((t : List Literal) (place : ℕ) → Suits c.rule t groups o.course → r ≡ fault_from c.rule c.clauses.held lits place (led t groups o.course) [])
        → IfSome s.open_addition (λ a. fault_after s.rule s.database.held a [] ≡ r)
    end_shown lits groups r ready same_lits same_groups told =
        shown_open (λ rule held x. IfSome x (λ a. fault_after rule held a [] ≡ r))
        (ended_fault c.rule c.clauses.held c.assignment.trues c.lits.items lits c.groups.hints groups o r same_lits same_groups (open_suits ready) told)

    -- what a hint came to that was told of its rule, the clauses held, its literals and the hint as it was read
    module _ (rule : Rule) (held : Held) (lits : List Literal) (read hint : ℤ) (same_rule : c.rule ≡ rule) (same_held : held ≡ c.clauses.held) (same_lits : lits ≡ c.lits.items) (same_hint : read ≡ hint) where
      shown_told : (P : Rule → Held → List Literal → ℤ → Option Adding → Type 0) → P rule held lits read (Some (adding_of lits c.assignment.trues c.groups.hints o)) → P s.rule s.database.held c.lits.items hint s.open_addition
      shown_told P told =
          shown_open (λ r h x. P r h c.lits.items hint x)
          (subst (λ (r : Rule). P r c.clauses.held c.lits.items hint (Some (adding_of c.lits.items c.assignment.trues c.groups.hints o))) (sym same_rule)
          (subst (λ (h : Held). P rule h c.lits.items hint (Some (adding_of c.lits.items c.assignment.trues c.groups.hints o))) same_held
          (subst (λ (z : ℤ). P rule held c.lits.items z (Some (adding_of c.lits.items c.assignment.trues c.groups.hints o))) same_hint
          (subst (λ (ls : List Literal). P rule held ls read (Some (adding_of ls c.assignment.trues c.groups.hints o))) same_lits told))))

      pub goes_on_shown : (trues : List Literal) (groups : List ℤ) (next : Opened) → GoesOn rule held read (Some (adding_of lits c.assignment.trues c.groups.hints o)) (Some (adding_of lits trues groups next))
          → GoesOn s.rule s.database.held hint s.open_addition (Some (adding_of c.lits.items trues groups next))
      goes_on_shown trues groups next told = shown_told (λ r h ls z x. GoesOn r h z x (Some (adding_of ls trues groups next))) told

      pub stops_shown : (fault : StepFault) → StopsAt rule held read (Some (adding_of lits c.assignment.trues c.groups.hints o)) fault → StopsAt s.rule s.database.held hint s.open_addition fault
      stops_shown fault told = shown_told (λ r h ls z x. StopsAt r h z x fault) told

-- a hint that begins no group, as it was read
pub unit_read : (c : Inside) (s : Stepping) (read hint : ℤ) → shown c ≡ s → read ≡ hint → IsUnitHint s.rule hint → IsUnitHint c.rule read
unit_read c s read hint view same unit = subst (λ (z : ℤ). IsUnitHint c.rule z) (sym same) (subst (λ (x : Stepping). IsUnitHint x.rule hint) (sym view) unit)
