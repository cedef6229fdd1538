-- What is written out clause by clause and gate by gate is written out whole.
use Rattle.std.proofs.Common.{◌≡◌, ℕ, Bool, suc, ◌+◌, ◌-◌, ◌<◌, ◌≤◌, true, false, cond, List, [], ◌∷◌, length, get_or, map, Option, None, Some, ⊎_elim, inl, inr, refl, sym, subst, ◌∙◌, ap, arith}
use Rattle.std.specs.Prelude.{slice_get, ◌==◌}
use Rattle.std.proofs.lemmas.Bool.{false≢true, cases_lt}
use Rattle.std.proofs.lemmas.List.Elements.{All-head, All-tail, All-nil}
use Rattle.std.proofs.lemmas.Option.{slice_get_within, get_or_from_slice_get}
use Rattle.lrat_model.specs.Literal.{Literal, Plus, negated, has}
use Rattle.lrat_model.specs.Clauses.{Held, clause_at, with_clause}
use Rattle.lrat_model.specs.Ranges.{IsInRange, AreInRange}
use Rattle.lrat_model.proofs.Literals.{has-cons, list_all-from_has}
use Rattle.clause_store.specs.Nearest.{IsFirstAbove}
use Rattle.counter_expansion.specs.Finding.{IsHeld, IsNeedless}
use Rattle.counter_expansion.specs.Gates.{Gate, IsCell, IsHeadOf, IsWritten, AreWritten, IsCounted}
use Rattle.counter_expansion.specs.Counters.{number_at, rows_of, gate_of, no_gate, gate_if_any, gates_of, ArePlaced, IsVariable, AreVariables, AreKept, HaveVariables}
use Rattle.counter_expansion.specs.Passing.{IsPassed}
use Rattle.counter_expansion.specs.declared.counters.Counter.{Counter}
use Rattle.counter_expansion.specs.declared.cells.Cell.{Cell}
use Rattle.counter_expansion.proofs.Apart.{are_outer}
use Rattle.counter_expansion.proofs.Choosing.{needless_still, clause_at-new, AreChosen}
use Rattle.counter_expansion.proofs.Lists.{AllBefore, all_before_more}

-- what was held is held
abbrev pub IsKept : Held → Held → Type 0
IsKept before after = (clause : List Literal) → IsHeld before clause → IsHeld after clause

some_alike : {A : Type 0} (x y : A) → Some x ≡ Some y → x ≡ y
some_alike x y e = cc

none_some : {A : Type 0} (x : A) → None ≡ Some x → ⊥
none_some x e = cc

pub range_at : (vars : ℕ) (held : Held) → AreInRange vars held → (id : ℕ) (clause : List Literal) → clause_at held id ≡ Some clause → IsInRange vars clause
range_at vars [] range id clause at = absurd (none_some clause at)
range_at vars (e ∷ held) range id clause at =
    elim (e.0 == id) as (λ b. cond b (Some e.1) (clause_at held id) ≡ Some clause → IsInRange vars clause) [
      | true ↦ λ is. subst (λ ls. IsInRange vars ls) (some_alike e.1 clause is) (All-head (λ d. IsInRange vars d.1) e held range)
      | false ↦ λ is. range_at vars held (All-tail (λ d. IsInRange vars d.1) e held range) id clause is
    ] at

pub passed_still : (counters : List Counter) (cells : List Cell) (before after : Held) → IsKept before after → (clause : List Literal) → IsPassed counters cells before clause → IsPassed counters cells after clause
passed_still counters cells before after kept clause (inl plain) = inl (plain.0, kept clause plain.1)
passed_still counters cells before after kept clause (inr inner) = inr inner

-- the clauses up to an id have been passed
pub record IsPassedUpTo (counters : List Counter) (cells : List Cell) (formula start after : Held) (above : ℕ) : Type 0 where
  pub passed : (k : ℕ) (clause : List Literal) → k ≤ above → clause_at formula k ≡ Some clause → IsPassed counters cells after clause
  pub range : (vars : ℕ) → AreInRange vars formula → AreInRange vars start → AreInRange vars after

pub passed_at_first : (counters : List Counter) (cells : List Cell) (formula start : Held) → clause_at formula 0 ≡ None → IsPassedUpTo counters cells formula start start 0
passed_at_first counters cells formula start none = record {
  passed = λ k clause less at. absurd (none_some clause (sym none ∙ ap (clause_at formula) (let zero : 0 ≡ k = omega (arith, less) in zero) ∙ at));
  range = λ vars _ before. before;
}

pub passed_more : (counters : List Counter) (cells : List Cell) (formula start before after : Held) (above next : ℕ) (clause : List Literal)
    → IsPassedUpTo counters cells formula start before above → IsFirstAbove formula above next clause
    → IsPassed counters cells after clause → IsKept before after → ((vars : ℕ) → AreInRange vars before → IsInRange vars clause → AreInRange vars after)
    → IsPassedUpTo counters cells formula start after next
passed_more counters cells formula start before after above next clause so_far first here kept range = record {
  passed = λ k other less at. ⊎_elim
      (λ (past : above < k). ⊎_elim
      (λ (between : k < next). absurd (none_some other (sym (first.nothing_between k past between) ∙ at)))
      (λ (late : next ≤ k).
      let same_id : next ≡ k = omega (arith, late, less) in
      let same_clause : clause ≡ other = some_alike clause other (sym first.there ∙ ap (clause_at formula) same_id ∙ at) in
      subst (λ ls. IsPassed counters cells after ls) same_clause here)
      (cases_lt k next))
      (λ (earlier : k ≤ above). passed_still counters cells before after kept other (so_far.passed k other earlier at))
      (cases_lt above k);
  range = λ vars whole old. range vars (so_far.range vars whole old) (range_at vars formula whole next clause first.there);
}

pub all_passed : (counters : List Counter) (cells : List Cell) (formula start after : Held) (above : ℕ) → IsPassedUpTo counters cells formula start after above
    → ((k : ℕ) → above < k → clause_at formula k ≡ None) → (clause : List Literal) → IsHeld formula clause → IsPassed counters cells after clause
all_passed counters cells formula start after above so_far none clause (id, at) =
    ⊎_elim
    (λ (past : above < id). absurd (none_some clause (sym (none id past) ∙ at)))
    (λ (earlier : id ≤ above). so_far.passed id clause earlier at)
    (cases_lt above id)

pub held_there : (held after : Held) (id : ℕ) (clause : List Literal) → clause_at held id ≡ None → after ≡ with_clause held id clause → IsHeld after clause
held_there held after id clause none is = (id, ap (λ h. clause_at h id) is ∙ clause_at-new held id clause none)

held_needless : (held : Held) (clause : List Literal) → IsHeld held clause → IsNeedless held clause
held_needless held clause at = inr (clause, at, list_all-from_has (has clause) clause (λ m h. h))

pub counted_of_passed : (counters : List Counter) (cells : List Cell) (formula middle after : Held) → ArePlaced counters cells → IsKept middle after
    → ((clause : List Literal) → IsHeld formula clause → IsPassed counters cells middle clause) → IsCounted (gates_of counters) formula after
counted_of_passed counters cells formula middle after placed kept passed = λ clause at. ⊎_elim
    (λ plain. inl (are_outer counters cells placed clause plain.0, held_needless after clause (kept clause plain.1)))
    (λ inner. inr inner)
    (passed clause at)

pub chosen_still : (gate : Gate) (before after : Held) (h : Literal) (t : ℕ) → IsKept before after → AreChosen gate before h t → AreChosen gate after h t
chosen_still gate before after h t kept chosen = λ ps rises len. needless_still before after (negated h ∷ map gate.x ps) kept (chosen ps rises len)

listed_head : (heads : List ℕ) (h : Literal) → has (map Plus heads) h ≡ true → (i : ℕ) × (i < length heads) × (h ≡ Plus (get_or heads i 0))
listed_head [] h within = absurd (false≢true within)
listed_head (x ∷ heads) h within =
    ⊎_elim
    (λ is. (0, omega arith, is))
    (λ later. let rest : (i : ℕ) × (i < length heads) × (h ≡ Plus (get_or heads i 0)) = listed_head heads h later in (suc rest.0, omega (arith, rest.1), rest.2))
    (has-cons (Plus x) h (map Plus heads) within)

-- the choices of a gate for each of its heads
abbrev pub AreHeadsWritten : Counter → Held → Type 0
AreHeadsWritten c held = (h : Literal) → has (map Plus c.heads.items) h ≡ true → AreChosen (gate_of c) held h c.threshold

-- and for each variable of its last row
abbrev pub IsLastRowWritten : Counter → Held → Type 0
IsLastRowWritten c held = (t : ℕ) → IsCell (gate_of c) (length c.inputs.items) t → AreChosen (gate_of c) held ((gate_of c).s (length c.inputs.items) t) t

pub heads_written : (c : Counter) (held : Held) → AllBefore (λ head. AreChosen (gate_of c) held (Plus head) c.threshold) c.heads.items (length c.heads.items) → AreHeadsWritten c held
heads_written c held all = λ h within.
    let at : (i : ℕ) × (i < length c.heads.items) × (h ≡ Plus (get_or c.heads.items i 0)) = listed_head c.heads.items h within in
    subst (λ (k : Literal). AreChosen (gate_of c) held k c.threshold) (sym at.2) (all at.0 0 at.1 at.1)

written_at : (c : Counter) (held : Held) (h : Literal) (t : ℕ) → AreHeadsWritten c held → (rows_of c < length c.inputs.items → IsLastRowWritten c held) → IsHeadOf (gate_of c) h t → AreChosen (gate_of c) held h t
written_at c held h t heads last (inl (among, is)) = subst (λ (k : ℕ). AreChosen (gate_of c) held h k) (sym is) (heads h among)
written_at c held h t heads last (inr (stays, cell, is)) = subst (λ (k : Literal). AreChosen (gate_of c) held k t) (sym is) (last stays t cell)

pub written_of_heads : (c : Counter) (held : Held) → AreHeadsWritten c held → (rows_of c < length c.inputs.items → IsLastRowWritten c held) → IsWritten (gate_of c) held
written_of_heads c held heads last = λ h t ps of. written_at c held h t heads last of ps

-- the last row is written after the heads
pub written_of_both : (c : Counter) (middle after : Held) → AreHeadsWritten c middle → IsKept middle after → IsLastRowWritten c after → IsWritten (gate_of c) after
written_of_both c middle after heads kept last = written_of_heads c after (λ h among. chosen_still (gate_of c) middle after h c.threshold kept (heads h among)) (λ _. last)

-- where the last row goes, each row does
pub no_row_stays : (c : Counter) → c.keeps_last ≡ false → rows_of c < length c.inputs.items → ⊥
no_row_stays c goes stays =
    let all : length c.inputs.items - 0 < length c.inputs.items = subst (λ (b : Bool). length c.inputs.items - cond b 1 0 < length c.inputs.items) goes stays in
    omega (arith, all)

pub written_still : (gate : Gate) (before after : Held) → IsKept before after → IsWritten gate before → IsWritten gate after
written_still gate before after kept written = λ h t ps of rises len. needless_still before after (negated h ∷ map gate.x ps) kept (written h t ps of rises len)

no_head : (h : Literal) (t : ℕ) → IsHeadOf no_gate h t → ⊥
no_head h t (inl (among, is)) = false≢true among
no_head h t (inr (stays, cell, is)) = omega (arith, stays)

written_if_any : (counters : List Counter) (held : Held) → AllBefore (λ c. IsWritten (gate_of c) held) counters (length counters) → (g : ℕ) (o : Option Counter) → slice_get counters g ≡ o → IsWritten (gate_if_any o) held
written_if_any counters held all g None is = λ h t ps of rises len. absurd (no_head h t of)
written_if_any counters held all g (Some c) is =
    let within : g < length counters = slice_get_within counters g c is in
    subst (λ (k : Counter). IsWritten (gate_of k) held) (get_or_from_slice_get counters g c c is) (all g c within within)

pub all_written : (counters : List Counter) (held : Held) → AllBefore (λ c. IsWritten (gate_of c) held) counters (length counters) → AreWritten (gates_of counters) held
all_written counters held all = λ g. written_if_any counters held all g (slice_get counters g) refl

-- the choices of the first heads are written
pub record HeadsWritten (c : Counter) (start after : Held) (n : ℕ) : Type 0 where
  pub chosen : AllBefore (λ head. AreChosen (gate_of c) after (Plus head) c.threshold) c.heads.items n
  pub kept : IsKept start after
  pub range : (vars : ℕ) → AreInRange vars start → AreVariables (vars + 1) c.inputs.items → AreVariables (vars + 1) c.heads.items → AreInRange vars after

-- those of the first variables of the last row are
pub record IsRowWritten (c : Counter) (start after : Held) (n : ℕ) : Type 0 where
  pub chosen : (i : ℕ) → i < n → AreChosen (gate_of c) after (Plus (number_at c.rows.items (length c.inputs.items) + i)) (i + 1)
  pub kept : IsKept start after
  pub range : (vars : ℕ) → AreInRange vars start → AreVariables (vars + 1) c.inputs.items → AreKept (IsVariable (vars + 1)) c → AreInRange vars after

-- the first gates are written
pub record GatesWritten (counters : List Counter) (start after : Held) (n : ℕ) : Type 0 where
  pub written : AllBefore (λ c. IsWritten (gate_of c) after) counters n
  pub kept : IsKept start after
  pub range : (vars : ℕ) → AreInRange vars start → HaveVariables (vars + 1) counters → AreInRange vars after

pub variables_below : (small large : ℕ) (xs : List ℕ) → small ≤ large → AreVariables small xs → AreVariables large xs
variables_below small large xs less all = λ i d within. ((all i d within).0, omega (arith, less, (all i d within).1))

-- the inputs, the heads and the row that stays have variables below the bound
abbrev HasVariables : ℕ → Counter → Type 0
HasVariables bound c = AreVariables bound c.inputs.items × AreVariables bound c.heads.items × AreKept (IsVariable bound) c

has_variables_below : (small large : ℕ) (c : Counter) → small ≤ large → HasVariables small c → HasVariables large c
has_variables_below small large c less (inputs, heads, rows) = (
  variables_below small large c.inputs.items less inputs,
  variables_below small large c.heads.items less heads,
  λ j stays cell. ((rows j stays cell).0, omega (arith, less, (rows j stays cell).1)),
)

pub have_variables_below : (small large : ℕ) (counters : List Counter) → small ≤ large → HaveVariables small counters → HaveVariables large counters
have_variables_below small large counters less all = λ i d within. has_variables_below small large (get_or counters i d) less (all i d within)

pub more_heads_written : (c : Counter) (start before after : Held) (n head : ℕ) → HeadsWritten c start before n → head ≡ get_or c.heads.items n head → n < length c.heads.items → AreChosen (gate_of c) after (Plus head) c.threshold → IsKept before after
    → ((vars : ℕ) → AreInRange vars before → head ≤ vars → AreVariables (vars + 1) c.inputs.items → AreInRange vars after)
    → HeadsWritten c start after (n + 1)
more_heads_written c start before after n head so_far is within chosen kept range = record {
  chosen = all_before_more (λ x. AreChosen (gate_of c) after (Plus x) c.threshold) c.heads.items n (λ i d less there. chosen_still (gate_of c) before after (Plus (get_or c.heads.items i d)) c.threshold kept (so_far.chosen i d less there)) head is chosen;
  kept = λ clause at. kept clause (so_far.kept clause at);
  range = λ vars old inputs heads.
      let here : get_or c.heads.items n head < vars + 1 = (heads n head within).1 in
      range vars (so_far.range vars old inputs heads) (omega (arith, here, is)) inputs;
}

-- the variables of the last row, where it stays
pub kept_at_last : (P : ℕ → Type 0) (c : Counter) (i : ℕ) → AreKept P c → c.keeps_last ≡ true → i < length c.inputs.items → i < c.threshold → P (number_at c.rows.items (length c.inputs.items) + i)
kept_at_last P c i kept stays within few =
    let n : ℕ = length c.inputs.items in
    let rows : rows_of c ≡ n - 1 = ap (λ (b : Bool). n - cond b 1 0) stays in
    let cell : IsCell (gate_of c) n (i + 1) = (omega arith, omega (arith, within), omega arith, omega (arith, few)) in
    let place : i + 1 - 1 ≡ i = omega arith in
    subst (λ (k : ℕ). P (number_at c.rows.items n + k)) place (kept (i + 1) (omega (arith, rows, within)) cell)

pub more_of_row_written : (c : Counter) (start before after : Held) (n head : ℕ) → IsRowWritten c start before n → c.keeps_last ≡ true → n < length c.inputs.items → n < c.threshold → head ≡ number_at c.rows.items (length c.inputs.items) + n
    → AreChosen (gate_of c) after (Plus head) (n + 1) → IsKept before after
    → ((vars : ℕ) → AreInRange vars before → head ≤ vars → AreVariables (vars + 1) c.inputs.items → AreInRange vars after)
    → IsRowWritten c start after (n + 1)
more_of_row_written c start before after n head so_far stays within few is chosen kept range =
    let variable : ℕ → ℕ = λ i. number_at c.rows.items (length c.inputs.items) + i in
    record {
      chosen = λ i less. ⊎_elim
          (λ (earlier : i < n). chosen_still (gate_of c) before after (Plus (variable i)) (i + 1) kept (so_far.chosen i earlier))
          (λ (late : n ≤ i).
          let at : n ≡ i = omega (arith, late, less) in
          subst (λ (k : ℕ). AreChosen (gate_of c) after (Plus (variable k)) (k + 1)) at (subst (λ (x : ℕ). AreChosen (gate_of c) after (Plus x) (n + 1)) is chosen))
          (cases_lt i n);
      kept = λ clause at. kept clause (so_far.kept clause at);
      range = λ vars old inputs rows.
          let below : IsVariable (vars + 1) (variable n) = kept_at_last (IsVariable (vars + 1)) c n rows stays within few in
          range vars (so_far.range vars old inputs rows) (omega (arith, below.1, is)) inputs;
    }

pub whole_row_written : (c : Counter) (start after : Held) (n : ℕ) → IsRowWritten c start after n → ((i : ℕ) → i < length c.inputs.items → i < c.threshold → i < n) → IsLastRowWritten c after
whole_row_written c start after n so_far enough = λ t cell.
    let place : t - 1 + 1 ≡ t = omega (arith, cell.0) in
    let here : AreChosen (gate_of c) after ((gate_of c).s (length c.inputs.items) t) (t - 1 + 1) = so_far.chosen (t - 1) (enough (t - 1) (omega (arith, cell.0, cell.1)) (omega (arith, cell.0, cell.3))) in
    subst (λ (k : ℕ). AreChosen (gate_of c) after ((gate_of c).s (length c.inputs.items) t) k) place here

pub one_of : (counters : List Counter) (bound : ℕ) → HaveVariables bound counters → (n : ℕ) (c : Counter) → c ≡ get_or counters n c → n < length counters → AreVariables bound c.inputs.items × AreVariables bound c.heads.items × AreKept (IsVariable bound) c
one_of counters bound all n c is within = subst (λ (k : Counter). HasVariables bound k) (sym is) (all n c within)

pub more_gates_written : (counters : List Counter) (start before after : Held) (n : ℕ) (c : Counter) → GatesWritten counters start before n → c ≡ get_or counters n c → n < length counters → IsWritten (gate_of c) after → IsKept before after
    → ((vars : ℕ) → AreInRange vars before → AreVariables (vars + 1) c.inputs.items → AreVariables (vars + 1) c.heads.items → AreKept (IsVariable (vars + 1)) c → AreInRange vars after)
    → GatesWritten counters start after (n + 1)
more_gates_written counters start before after n c so_far is within written kept range = record {
  written = all_before_more (λ c2. IsWritten (gate_of c2) after) counters n (λ i d less there. written_still (gate_of (get_or counters i d)) before after kept (so_far.written i d less there)) c is written;
  kept = λ clause at. kept clause (so_far.kept clause at);
  range = λ vars old variables.
      let here : HasVariables (vars + 1) c = one_of counters (vars + 1) variables n c is within in
      range vars (so_far.range vars old variables) here.0 here.1 here.2;
}

pub none_in_range : (vars : ℕ) (held : Held) → held ≡ [] → AreInRange vars held
none_in_range vars held none = subst (λ (h : Held). AreInRange vars h) (sym none) (All-nil (λ e. IsInRange vars e.1))
