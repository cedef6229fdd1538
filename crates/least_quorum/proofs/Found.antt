-- What is so of an outcome that is told by what was found, and of a quorum among the nodes that are true.
use Rattle.std.proofs.Common.{◌≡◌, ℕ, zero, ◌+◌, ◌*◌, ◌^◌, ◌<◌, ◌≤◌, ◌∙◌, Bool, true, false, not, List, length, refl, sym, ap, subst, arith, inl, inr, ⊎_elim}
use Rattle.std.specs.Prelude.{Result, Ok, Err, IfOk, IfErr}
use Rattle.std.proofs.lemmas.Bool.{cases_Bool}
use Rattle.fbas_model.specs.Nodes.{Nodes, Table, members, IsInhabited, ◌⊆◌, ◌∈◌, size}
use Rattle.fbas_model.specs.Fbas.{Fbas, MeetsQuorums, Blocks}
use Rattle.fbas_model.proofs.Sizes.{size_le, empty_or_not}
use Rattle.lrat_model.specs.Literal.{Literal}
use Rattle.lrat_model.specs.Clauses.{Held, Satisfies}
use Rattle.clause_encoder.specs.declared.limits.TheConstants.{MOST_VARS}
use Rattle.clause_encoder.specs.NameCounter.{counter_vars}
use Rattle.clause_encoder.proofs.NameCounts.{variables}
use Rattle.cdcl_core.specs.Solving.{Solving}
use Rattle.enumeration_journal.specs.Numbering.{variable_in}
use Rattle.enumeration_journal.specs.Kinds.{signed}
use Rattle.enumeration_journal.specs.declared.kinds.Listed.TheVariants.{Quorum, Blocking}
use Rattle.enumeration_journal.proofs.Greatest.{IsGreatest}
use Rattle.blocking_lists.specs.Search.{IsModelSet}
use Rattle.blocking_lists.specs.Lines.{ListLine}
use Rattle.blocking_lists.proofs.Models.{useful_where_false}
use Rattle.blocking_lists.proofs.Searches.{has_member}
use Rattle.blocking_lists.proofs.Turns.{blocking_out, model_within, model_left}
use Rattle.least_journal.specs.Least.{clause_in}
use Rattle.least_quorum.specs.Outcomes.{IsWanted}
use Rattle.least_quorum.specs.Search.{best_in, IsLeastListing}
use Rattle.least_quorum.specs.Staying.{Stays, clause_of_size}
use Rattle.least_quorum.proofs.Fewer.{smaller}

pub of_verdict : {B E F : Type 0} (P : B → Type 0) (whole spent : B) (e : F) (found : Result Bool E) (result : Result B F)
    → (found ≡ Ok true → result ≡ Ok whole) → (found ≡ Ok false → result ≡ Ok spent) → IfErr found (λ x. result ≡ Err e) → (found ≡ Ok true → P whole) → (found ≡ Ok false → P spent) → IfOk result P
of_verdict P whole spent e (Ok true) result first second err on_first on_second = subst (λ (r : Result _ _). IfOk r P) (sym (first refl)) (on_first refl)
of_verdict P whole spent e (Ok false) result first second err on_first on_second = subst (λ (r : Result _ _). IfOk r P) (sym (second refl)) (on_second refl)
of_verdict P whole spent e (Err x) result first second err on_first on_second = subst (λ (r : Result _ _). IfOk r P) (sym err) tt

-- the nodes outside the set that is tried are true
pub true_outside : (g : Table) (a : ℕ → Bool) (m u : Table) → IsModelSet Quorum g a m → members u ⊆ members g → ((w : ℕ) → w ∈ members u → w ∈ members m → ⊥) → (w : ℕ) → members u w ≡ true → a (variable_in g w) ≡ true
true_outside g a m u model within apart w here = elim (cases_Bool (a (variable_in g w))) [
  | inl is ↦ is
  | inr off ↦ absurd (apart w here ((model w).1 (within w here) (ap not off)))
]

-- a quorum of true nodes is smaller than the one that is listed last
pub found_smaller : (f : Fbas) (b : Nodes) (g : Table) (total left : ℕ) (lines : List ListLine) (solver : Solving) (v : ℕ → Bool) (u : Table) → IsLeastListing f b g total left lines solver → Satisfies v solver.database.held
    → length u ≡ length g → members u ⊆ members g → ((w : ℕ) → members u w ≡ true → v (variable_in g w) ≡ true) → size u < best_in g lines
found_smaller f b g total left lines solver v u is solves places within trues = ⊎_elim
    (λ (none : best_in g lines ≡ size g + 1). omega (arith, none, size_le u g places within))
    (λ (there : (id : ℕ) × Stays solver id (clause_of_size g (best_in g lines))). smaller v solver g u (best_in g lines) there.0 is.counter there.1 is.some solves places within trues)
    is.bound

-- the line of a set that blocks, and holds only untrue nodes, is wanted
pub wanted_by : (f : Fbas) (b : Nodes) (g : Table) (a : ℕ → Bool) (held : Held) (m : Table) → IsGreatest f b g → Satisfies a held → IsModelSet Quorum g a m → length m ≡ length f → MeetsQuorums f b (members m) → IsWanted f b g held
wanted_by f b g a held m greatest solves model places meets =
    let p : ℕ → Literal = λ v. signed Quorum Blocking (variable_in g v) in
    let blocks : Blocks f b (members m) = record { left = model_left Quorum f b g a m greatest model; meets = meets } in (
      m,
      (places, blocks, model_within Quorum g a m model),
      ⊎_elim
          (λ none. inl none)
          (λ (w : IsInhabited (members m)). inr (useful_where_false a held (clause_in g Blocking m) (p (zero + w.0)) solves (blocking_out Quorum g a m m model (λ v here. here)) (has_member p 0 m w.0 w.1)))
          (empty_or_not m),
    )

squared : (n : ℕ) → n * n + 3 * n ≡ 2 * counter_vars n
squared n = omega (arith, variables n)

-- ids are left for the units that are left
pub room_left : (f : Fbas) (b : Nodes) (g : Table) (total left : ℕ) (lines : List ListLine) (solver : Solving) → IsLeastListing f b g total left lines solver → counter_vars (size g) ≤ MOST_VARS → total < 2 ^ 62 → solver.database.last + left + 1 < 2 ^ 63
room_left f b g total left lines solver is small few = omega (arith, is.search.room, is.limit, squared (size g), small, few)

-- where nothing was done
pub unmoved : (f : Fbas) (b : Nodes) (g : Table) (total left left_then : ℕ) (lines lines_then : List ListLine) (solver solver_then : Solving) → left ≡ 0 → left_then ≡ 0 → lines_then ≡ lines → solver_then ≡ solver
    → IsLeastListing f b g total left lines solver → IsLeastListing f b g total left_then lines_then solver_then
unmoved f b g total left left_then lines lines_then solver solver_then none none_then lines_are solver_is is =
    subst (λ (s : Solving). IsLeastListing f b g total left_then lines_then s) (sym solver_is)
    (subst (λ (ls : List ListLine). IsLeastListing f b g total left_then ls solver) (sym lines_are)
    (subst (λ (n : ℕ). IsLeastListing f b g total n lines solver) (none ∙ sym none_then) is))
