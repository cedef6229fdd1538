-- What the counts of a trail tell, and how they go on with it.
use Rattle.std.proofs.Common.{◌≡◌, ℕ, ◌+◌, ◌-◌, ◌<◌, ◌≤◌, true, List, [], ◌∷◌, ◌++◌, length, filter, get_or, take, ⊎_elim, sym, ap, ◌∙◌, subst, arith}
use Rattle.std.specs.Global.{Vec}
use Rattle.std.specs.Prelude.{slice_index, slice_index_or}
use Rattle.std.proofs.lemmas.List.{take_all, take_more}
use Rattle.std.proofs.lemmas.Bool.{cases_lt}
use Rattle.lrat_model.specs.Literal.{Literal, Minus, negated, has}
use Rattle.cardinality_counts.specs.Gates.{IsGate, IsSetOf, IsOpen, is_part, has_number}
use Rattle.cardinality_counts.specs.Counts.{tally, IsCounting}
use Rattle.cardinality_counts.specs.declared.gate.Gate.{Gate}
use Rattle.cardinality_counts.specs.declared.gates.Gates.{Gates}
use Rattle.cardinality_counts.specs.declared.guesses.Guesses.{Guesses}
use Rattle.cardinality_counts.proofs.Tallies.{AreNaming, falses_counted, tally-push}
use Rattle.cardinality_counts.proofs.PartLaws.{IsInput, part_inputs, part_distinct}

-- the clauses of the first gates, this many, are open
abbrev pub AreOpen : List Gate → List Literal → ℕ → Type 0
AreOpen gates trues n = (g : ℕ) → g < n → g < length gates → (clause : List Literal) → ((d : Gate) → IsSetOf (slice_index_or gates g d) clause) → IsOpen trues clause

-- the counts are these with a literal more
abbrev pub IsRaised : List ℕ → List ℕ → List ℕ → List ℕ → Literal → Type 0
IsRaised starts entries old new l = (g : ℕ) → g < length old → slice_index new g ≡ slice_index old g + tally starts entries (l ∷ []) g

-- with a literal less
abbrev pub IsLowered : List ℕ → List ℕ → List ℕ → List ℕ → Literal → Type 0
IsLowered starts entries old new l = (g : ℕ) → g < length old → slice_index new g + tally starts entries (l ∷ []) g ≡ slice_index old g

-- the counts are those of these literals
abbrev pub IsTallied : List ℕ → List ℕ → List ℕ → List Literal → Type 0
IsTallied starts entries counts trail = (g : ℕ) → g < length counts → slice_index counts g ≡ tally starts entries trail g

-- no count is less than what the literal has of it
abbrev pub MayLower : List ℕ → List ℕ → List ℕ → Literal → Type 0
MayLower starts entries counts l = (g : ℕ) → g < length counts → tally starts entries (l ∷ []) g ≤ slice_index counts g

-- the same of the same lists
pub raised_same : (starts entries counts s e c new : List ℕ) (l : Literal) → s ≡ starts → e ≡ entries → c ≡ counts → IsRaised s e c new l → IsRaised starts entries counts new l
raised_same starts entries counts s e c new l s_is e_is c_is raised =
    subst (λ xs. IsRaised xs entries counts new l) s_is (subst (λ xs. IsRaised s xs counts new l) e_is (subst (λ xs. IsRaised s e xs new l) c_is raised))

pub lowered_same : (starts entries counts s e c new : List ℕ) (l : Literal) → s ≡ starts → e ≡ entries → c ≡ counts → IsLowered s e c new l → IsLowered starts entries counts new l
lowered_same starts entries counts s e c new l s_is e_is c_is lowered =
    subst (λ xs. IsLowered xs entries counts new l) s_is (subst (λ xs. IsLowered s xs counts new l) e_is (subst (λ xs. IsLowered s e xs new l) c_is lowered))

pub may_lower_same : (starts entries counts s e c : List ℕ) (l : Literal) → s ≡ starts → e ≡ entries → c ≡ counts → MayLower starts entries counts l → MayLower s e c l
may_lower_same starts entries counts s e c l s_is e_is c_is may =
    subst (λ xs. MayLower xs e c l) (sym s_is) (subst (λ xs. MayLower starts xs c l) (sym e_is) (subst (λ xs. MayLower starts entries xs l) (sym c_is) may))

module _ (starts entries counts new : List ℕ) (trail : List Literal) (l : Literal) (long : length new ≡ length counts) where
  tally_at : (n g : ℕ) → n < length trail → l ≡ get_or trail n l → tally starts entries (take (n + 1) trail) g ≡ tally starts entries (take n trail) g + tally starts entries (l ∷ []) g
  tally_at n g within is =
      ap (λ ls. tally starts entries ls g) (take_more trail n l within ∙ ap (λ k. take n trail ++ k ∷ []) (sym is)) ∙ tally-push starts entries (take n trail) l g

  -- the trail's next literal is counted
  pub tallied_more : (n : ℕ) → n < length trail → l ≡ get_or trail n l → IsTallied starts entries counts (take n trail) → IsRaised starts entries counts new l → IsTallied starts entries new (take (n + 1) trail)
  tallied_more n within is tallied raised g less =
      let here : g < length counts = omega (arith, less, long) in
      omega (arith, tally_at n g within is, tallied g here, raised g here)

  -- the last one that was counted is taken back
  pub may_lower : (n : ℕ) → n < length trail → l ≡ get_or trail n l → IsTallied starts entries counts (take (n + 1) trail) → MayLower starts entries counts l
  may_lower n within is tallied g less = omega (arith, tally_at n g within is, tallied g less)

  pub tallied_less : (n : ℕ) → n < length trail → l ≡ get_or trail n l → IsTallied starts entries counts (take (n + 1) trail) → IsLowered starts entries counts new l → IsTallied starts entries new (take n trail)
  tallied_less n within is tallied lowered g less =
      let here : g < length counts = omega (arith, less, long) in
      omega (arith, tally_at n g within is, tallied g here, lowered g here)

module _ (gates : Gates) (trues : List Literal) (counting : IsCounting gates trues) (counted : gates.counted ≡ length trues) (place : ℕ) (within : place < length gates.gates.items) (gate : Gate) (at : (d : Gate) → slice_index_or gates.gates.items place d ≡ gate) where
  pub sound_at : IsGate gates.vars gate
  sound_at = subst (λ (k : Gate). IsGate gates.vars k) (at gate) (counting.sound place gate within)

  naming_at : (set : List Literal) → is_part set gate.inputs.items ≡ true → AreNaming gates.starts.items gates.entries.items place set
  naming_at set part l there =
      let input : IsInput gate.inputs.items l = part_inputs gate.inputs.items set part l there in
      (input.0, input.1, counting.listed place input.0 within (λ d. subst (λ (k : Gate). has_number k.inputs.items input.0 ≡ true) (sym (at d)) input.2))

  few_at : (set : List Literal) → is_part set gate.inputs.items ≡ true → length (filter (λ l. has trues (negated l)) set) ≤ slice_index gates.counts.items place
  few_at set part =
      let whole : take gates.counted trues ≡ trues = take_all gates.counted trues (omega (arith, counted)) in
      let count : slice_index gates.counts.items place ≡ tally gates.starts.items gates.entries.items trues place = subst (λ ls. slice_index gates.counts.items place ≡ tally gates.starts.items gates.entries.items ls place) whole (counting.tallied place (omega (arith, within, counting.long))) in
      omega (arith, count, falses_counted gates.starts.items gates.entries.items place set (part_distinct gate.inputs.items set sound_at.apart part) (naming_at set part) trues)

  -- with one more gate
  pub open_more : AreOpen gates.gates.items trues place
      → ((set : List Literal) → length set ≡ gate.size → is_part set gate.inputs.items ≡ true → length (filter (λ l. has trues (negated l)) set) ≤ slice_index gates.counts.items place → IsOpen trues (Minus gate.head ∷ set))
      → AreOpen gates.gates.items trues (place + 1)
  open_more before quiet g less inside clause is =
      ⊎_elim
      (λ (earlier : g < place). before g earlier inside clause is)
      (λ (late : place ≤ g).
      let same_place : g ≡ place = omega (arith, late, less) in
      let own : IsSetOf gate clause = subst (λ (k : Gate). IsSetOf k clause) (ap (λ i. slice_index_or gates.gates.items i gate) same_place ∙ at gate) (is gate) in
      subst (λ ls. IsOpen trues ls) (sym own.1) (quiet own.0 own.2 own.3 (few_at own.0 own.3)))
      (cases_lt g place)

-- ---- one literal more or less

module _ (gates : Gates) (trail : List Literal) (counting : IsCounting gates trail) where
  -- the last literal that is counted
  module _ (len : ℕ) (above : len < gates.counted) where
    pub last_within : gates.counted - 1 < length trail
    last_within = omega (arith, above, counting.within)

    pub last_tallied : IsTallied gates.starts.items gates.entries.items gates.counts.items (take (gates.counted - 1 + 1) trail)
    last_tallied =
        let next : gates.counted ≡ gates.counted - 1 + 1 = omega (arith, above) in
        subst (λ n. IsTallied gates.starts.items gates.entries.items gates.counts.items (take n trail)) next counting.tallied

  -- with these counts, of this many literals
  pub recounted : (counts : Vec ℕ) (new : List ℕ) (counted : ℕ) (guesses : Guesses) → counts.items ≡ new → length new ≡ length gates.counts.items → counted ≤ length trail
      → IsTallied gates.starts.items gates.entries.items new (take counted trail) → IsCounting (record gates { counts = counts; counted = counted; guesses = guesses }) trail
  recounted counts new counted guesses is long within tallied = record {
    small = counting.small;
    sound = counting.sound;
    listed = counting.listed;
    long = ap (λ (xs : List ℕ). length xs) is ∙ long ∙ counting.long;
    within = within;
    tallied = subst (λ (xs : List ℕ). IsTallied gates.starts.items gates.entries.items xs (take counted trail)) (sym is) tallied;
  }
