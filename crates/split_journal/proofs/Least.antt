-- The set that a whole journal of a search for a least one lists last is one: a smaller one would satisfy every clause.
use Rattle.std.proofs.Common.{◌≡◌, ℕ, zero, suc, ◌+◌, ◌<◌, ◌≤◌, Bool, true, false, not, ◌||◌, ◌&&◌, List, [], ◌∷◌, ◌++◌, length, Option, Some, None, nat_le, slice_index_or, refl, sym, ap, ap₂, ◌∙◌, subst, arith, inl, inr}
use Rattle.std.specs.Prelude.{All}
use Rattle.std.proofs.lemmas.Bool.{cases_Bool, cases_lt, and_parts, and_from, or_cases, or_left, or_right, leb-true, false_from_ne_true}
use Rattle.std.proofs.lemmas.List.Elements.{All-nil, All-cons, All-head, All-tail}
use Rattle.fbas_model.specs.Nodes.{Nodes, Table, members, size, ◌⊆◌, ◌∪◌}
use Rattle.fbas_model.specs.Fbas.{Fbas}
use Rattle.fbas_model.proofs.Kept.{rank_lt}
use Rattle.fbas_model.proofs.Sizes.{size_le}
use Rattle.lrat_model.specs.Literal.{Literal, Plus, Minus, variable_of, literal_true, clause_true, formula_true}
use Rattle.lrat_model.specs.Steps.{Database, after_step}
use Rattle.lrat_model.proofs.Runs.{Satisfies-numbered}
use Rattle.clause_encoder.specs.declared.version.Version.{Version}
use Rattle.clause_encoder.specs.NameCounter.{counted, counter_vars, counter_of, true_count, extended}
use Rattle.clause_encoder.proofs.Bools.{true_both}
use Rattle.clause_encoder.proofs.GateFills.{Agree}
use Rattle.lrat_model.specs.Clauses.{numbered}
use Rattle.lrat_model.specs.Ranges.{IsInRange, AreInRange}
use Rattle.clause_encoder.proofs.NameWriting.{counter_in_range}
use Rattle.clause_encoder.proofs.NameExtending.{extended_name, extended_cell, counter_holds}
use Rattle.enumeration_journal.specs.Journals.{JournalLine, SetLine, StepLine, after_line, JournalRun, IsWholeJournal, sets_in}
use Rattle.enumeration_journal.specs.Numbering.{variable_in, assignment_of}
use Rattle.enumeration_journal.specs.declared.kinds.ListKind.{ListKind}
use Rattle.enumeration_journal.specs.declared.kinds.ListKind.TheVariants.{Whole}
use Rattle.enumeration_journal.specs.declared.kinds.Listed.TheVariants as listed
use Rattle.enumeration_journal.proofs.ClauseTruth.{assigned}
use Rattle.enumeration_journal.proofs.Refuting.{AreTrue, no_whole_journal}
use Rattle.group_journal.specs.Groups.{joined, touching}
use Rattle.group_journal.proofs.Touched.{length-touching}
use Rattle.least_journal.specs.Least.{AreSmaller, FallFrom, last_of}
use Rattle.least_journal.proofs.Counts.{assigned_count}
use Rattle.least_journal.proofs.Sizing.{last_row}
use Rattle.split_journal.specs.Splitting.{GroupsSplit, IsSplit}
use Rattle.split_journal.specs.Formula.{split_clauses}
use Rattle.split_journal.specs.Rules.{least_split_of, least_split_clause, fewer_than, IsWholeLeastSplit, IsLeastSplitAnswer, least_split_answer}
use Rattle.fbas_model.specs.Restriction.{table_from}
use Rattle.fbas_model.proofs.Tables.{length-table_from, members-table_from}
use Rattle.std.proofs.lemmas.List.{get_or_past}
use mathlib.Core.Path.{fun_ext}
use Rattle.clause_encoder.specs.Meaning.{AreDisjointQuorums}
use Rattle.group_journal.proofs.Touched.{joined_below}
use Rattle.split_journal.proofs.Able.{same_truth}
use Rattle.split_journal.proofs.Left.{IsLeft, left_from, joined_from, joined_by, joined_more, holding_touches}
use Rattle.split_journal.specs.Meaning.{AreGroups, IsMarking, TellsSplit}
use Rattle.split_journal.proofs.Whole.{model_of}

-- what a set of some groups says
some_fewer : (g m : ℕ) → 0 < m → fewer_than g m ≡ Minus (counted g g m) ∷ []
some_fewer g zero some = absurd (omega arith)
some_fewer g (suc m) some = refl

-- ---- clauses in range of the variables up to one

literal_agrees : (vars : ℕ) (v w : ℕ → Bool) (l : Literal) → variable_of l ≤ vars → Agree (vars + 1) v w → literal_true v l ≡ literal_true w l
literal_agrees vars v w (Plus x) low same = same x (omega (arith, low))
literal_agrees vars v w (Minus x) low same = ap not (same x (omega (arith, low)))

clause_agrees : (vars : ℕ) (v w : ℕ → Bool) (c : List Literal) → IsInRange vars c → Agree (vars + 1) v w → clause_true v c ≡ clause_true w c
clause_agrees vars v w [] low same = refl
clause_agrees vars v w (l ∷ c) low same =
    ap₂ (λ (x y : Bool). x || y) (literal_agrees vars v w l (All-head (λ (k : Literal). variable_of k ≤ vars) l c low) same)
    (clause_agrees vars v w c (All-tail (λ (k : Literal). variable_of k ≤ vars) l c low) same)

formula_agrees : (vars first : ℕ) (v w : ℕ → Bool) (cs : List (List Literal)) → AreInRange vars (numbered first cs) → Agree (vars + 1) v w → formula_true v cs ≡ formula_true w cs
formula_agrees vars first v w [] low same = refl
formula_agrees vars first v w (c ∷ cs) low same =
    ap₂ (λ (x y : Bool). x && y) (clause_agrees vars v w c (All-head (λ (e : ℕ × List Literal). IsInRange vars e.1) (first, c) (numbered (first + 1) cs) low) same)
    (formula_agrees vars (first + 1) v w cs (All-tail (λ (e : ℕ × List Literal). IsInRange vars e.1) (first, c) (numbered (first + 1) cs) low) same)

-- ---- the last of falling sets

abbrev NotBelow : Table → Table → Type 0
NotBelow x s = size x ≤ size s

last_below : (u : Table) (us : List Table) (x : Table) → AreSmaller (size u) us → last_of (Some u) us ≡ Some x → All (NotBelow x) (u ∷ us)
last_below u [] x falling e = let same : u ≡ x = cc in All-cons (NotBelow x) u [] (subst (λ (y : Table). size x ≤ size y) (sym same) (omega arith)) (All-nil (NotBelow x))
last_below u (w ∷ us) x falling e =
    let rest = last_below w us x falling.1 e in
    let first : size x ≤ size w = All-head (NotBelow x) w us rest in
    All-cons (NotBelow x) u (w ∷ us) (omega (arith, first, falling.0)) rest

last_is : (P : Table → Type 0) (u : Table) (us : List Table) (x : Table) → All P (u ∷ us) → last_of (Some u) us ≡ Some x → P x
last_is P u [] x all e = let same : u ≡ x = cc in subst P same (All-head P u [] all)
last_is P u (w ∷ us) x all e = last_is P w us x (All-tail P u (w ∷ us) all) e

-- ---- groups without a member that is left can go

module _ (f : Fbas) (b left : Table) (groups : List Table) (is : IsLeft f b left) (are : AreGroups f groups) (s : Table) where
  pub used : Nodes
  used i = members s i && members (touching groups left) i

  pub cut : Table
  cut = table_from 0 (length groups) used

  cut_is : length s ≡ length groups → members cut ≡ used
  unfolding cut used
  cut_is places = fun_ext (λ i. elim (cases_lt i (length groups)) [
    | inl low ↦ let at : 0 + i ≡ i = omega arith in members-table_from 0 (length groups) used i low ∙ ap used at
    | inr past ↦
        let none : members s i ≡ false = get_or_past s i false (omega (arith, places)) in
        get_or_past (table_from 0 (length groups) used) i false (omega (arith, length-table_from 0 (length groups) used)) ∙ sym (ap (λ (x : Bool). x && members (touching groups left) i) none)
  ])

  cut_within : length s ≡ length groups → members cut ⊆ members s
  unfolding used
  cut_within places i here = (and_parts (members s i) (members (touching groups left) i) (sym (ap (λ (u : Nodes). u i) (cut_is places)) ∙ here)).0

  cut_useful : length s ≡ length groups → members cut ⊆ members (touching groups left)
  unfolding used
  cut_useful places i here = (and_parts (members s i) (members (touching groups left) i) (sym (ap (λ (u : Nodes). u i) (cut_is places)) ∙ here)).1

  same_deleted : length s ≡ length groups → (members b ∪ joined groups s) ≡ (members b ∪ joined groups cut)
  unfolding used
  same_deleted places = fun_ext (λ v. same_truth (members b v || joined groups s v) (members b v || joined groups cut v)
      (λ h. elim (cases_Bool (members b v)) [
        | inl faulty ↦ or_left (members b v) (joined groups cut v) faulty
        | inr good ↦ elim (or_cases (members b v) (joined groups s v) h) [
          | inl faulty ↦ or_left (members b v) (joined groups cut v) faulty
          | inr lying ↦
              let r = joined_from groups s v lying in
              let in_left = left_from f b left is v (joined_below (length f) groups s are v lying) good in
              let here = ap (λ (u : Nodes). u r.0) (cut_is places) ∙ and_from (members s r.0) (members (touching groups left) r.0) r.1 (holding_touches groups left v r.0 in_left r.2) in
              or_right (members b v) (joined groups cut v) (joined_by groups cut v r.0 here r.2)
        ]
      ])
      (λ h. elim (or_cases (members b v) (joined groups cut v) h) [
        | inl faulty ↦ or_left (members b v) (joined groups s v) faulty
        | inr lying ↦ or_right (members b v) (joined groups s v) (joined_more groups cut s (cut_within places) v lying)
      ]))

  -- what is left of a set that splits may be listed, and is no larger
  pub cut_splits : length s ≡ length groups → GroupsSplit f (members b) groups s → IsSplit f (members b) left groups cut × (size cut ≤ size s)
  unfolding cut
  cut_splits places split =
      let fits : length cut ≡ length groups = length-table_from 0 (length groups) used in (
        record {
          places = fits;
          useful = cut_useful places;
          splits = (split.0, split.1, subst (λ (d : Nodes). AreDisjointQuorums f d split.0 split.1) (same_deleted places) split.2);
        },
        size_le cut s (fits ∙ sym places) (cut_within places),
      )

-- ---- a smaller set

module _ (version : Version) (f : Fbas) (b left : Table) (groups : List Table) (is : IsLeft f b left) (are : AreGroups f groups) where
  module _ (s : Table) (places : length s ≡ length groups) (useful : members s ⊆ members (touching groups left)) (split : GroupsSplit f (members b) groups s) where
    fits : length s ≡ length (touching groups left)
    fits = places ∙ sym (length-touching groups left)

    base : ℕ → Bool
    base = extended (assignment_of (touching groups left) s) (size (touching groups left))

    marking : IsMarking base (touching groups left) s
    unfolding base
    marking i at =
        let low : variable_in (touching groups left) i ≤ size (touching groups left) = omega (arith, rank_lt (touching groups left) i at) in
        extended_name (assignment_of (touching groups left) s) (size (touching groups left)) (variable_in (touching groups left) i) low
        ∙ assigned (touching groups left) s i fits at

    many : (n : ℕ) → n ≤ counter_vars n
    many n = omega arith

    all : TellsSplit version f b (counter_vars (size (touching groups left))) left groups base split.0 split.1
    all = model_of version f b left groups is are s base (counter_vars (size (touching groups left))) (many (size (touching groups left))) marking split

    -- the clause of a larger set is true
    larger_true : (t : Table) → length t ≡ length groups → members t ⊆ members (touching groups left) → size s < size t → clause_true all.assignment (least_split_clause (touching groups left) listed.Smaller t) ≡ true
    unfolding base
    larger_true t same within smaller =
        let touched = touching groups left in
        let g = size touched in
        let few : size t ≤ g = size_le t touched (same ∙ sym (length-touching groups left)) within in
        let count = assigned_count touched s (sym fits) useful in
        let off : base (counted g g (size t)) ≡ false =
        extended_cell (assignment_of touched s) g g (size t) (omega arith) (omega arith) few
        ∙ false_from_ne_true (nat_le (size t) (true_count (assignment_of touched s) g)) (λ h. let l = leb-true (size t) (true_count (assignment_of touched s) g) h in absurd (omega (arith, count))) in
        let last = last_row g (size t) in
        let here : all.assignment (counted g g (size t)) ≡ false = sym (all.before (counted g g (size t)) (omega (arith, last, few))) ∙ off in
        subst (λ (c : List Literal). clause_true all.assignment c ≡ true) (sym (some_fewer g (size t) (omega (arith, smaller)))) (ap (λ (x : Bool). not x || false) here)

    larger_lines : (kind : ListKind) (old : Database) (lines : List JournalLine) (new : Database) → JournalRun (least_split_of version f b left groups) kind old lines new → All (λ t. size s < size t) (sets_in listed.Smaller lines) → AreTrue all.assignment (least_split_of version f b left groups) lines
    larger_lines kind old [] new run larger = tt
    larger_lines kind old (SetLine listed.Smaller id t ∷ lines) new run larger = (
      larger_true t run.0.1.places run.0.1.useful (All-head (λ (t : Table). size s < size t) t (sets_in listed.Smaller lines) larger),
      larger_lines kind (after_line (least_split_of version f b left groups) old (SetLine listed.Smaller id t)) lines new run.2 (All-tail (λ (t : Table). size s < size t) t (sets_in listed.Smaller lines) larger),
    )
    larger_lines kind old (SetLine listed.Quorum id t ∷ lines) new run larger = absurd run.0.1
    larger_lines kind old (SetLine listed.Blocking id t ∷ lines) new run larger = absurd run.0.1
    larger_lines kind old (StepLine step ∷ lines) new run larger = larger_lines kind (after_step old step) lines new run.2 larger

    counter_true : formula_true all.assignment (counter_of (size (touching groups left))) ≡ true
    unfolding base
    counter_true =
        let g = size (touching groups left) in
        sym (formula_agrees (counter_vars g) 1 base all.assignment (counter_of g) (counter_in_range g) (λ y low. all.before y (omega (arith, low))))
        ∙ counter_holds (assignment_of (touching groups left) s) g

    -- a whole journal has a set that is not larger
    pub not_all_larger : (journal : List JournalLine) → IsWholeJournal (least_split_of version f b left groups) journal → All (λ t. size s < size t) (sets_in listed.Smaller journal) → ⊥
    not_all_larger journal whole larger =
        let g = size (touching groups left) in
        no_whole_journal all.assignment (least_split_of version f b left groups) journal whole
        (Satisfies-numbered all.assignment 1 (counter_of g ++ split_clauses version f b (counter_vars g) left groups) (true_both all.assignment (counter_of g) (split_clauses version f b (counter_vars g) left groups) counter_true all.holds))
        (larger_lines Whole (least_split_of version f b left groups).start journal whole.after whole.run larger)

  sets_right : (kind : ListKind) (old : Database) (lines : List JournalLine) (new : Database) → JournalRun (least_split_of version f b left groups) kind old lines new → All (IsSplit f (members b) left groups) (sets_in listed.Smaller lines)
  sets_right kind old [] new run = All-nil (IsSplit f (members b) left groups)
  sets_right kind old (SetLine listed.Smaller id t ∷ lines) new run = All-cons (IsSplit f (members b) left groups) t (sets_in listed.Smaller lines) run.0.1 (sets_right kind (after_line (least_split_of version f b left groups) old (SetLine listed.Smaller id t)) lines new run.2)
  sets_right kind old (SetLine listed.Quorum id t ∷ lines) new run = absurd run.0.1
  sets_right kind old (SetLine listed.Blocking id t ∷ lines) new run = absurd run.0.1
  sets_right kind old (StepLine step ∷ lines) new run = sets_right kind (after_step old step) lines new run.2

  -- ---- the law

  module _ (journal : List JournalLine) (whole : IsWholeJournal (least_split_of version f b left groups) journal) where
    answer_right : (sets : List Table) → FallFrom sets → All (IsSplit f (members b) left groups) sets → sets_in listed.Smaller journal ≡ sets → (x : Option Table) → last_of None sets ≡ x → IsLeastSplitAnswer f (members b) groups x
    answer_right [] falling right same None e = λ s places split.
        let t = cut f b left groups is are s in
        let one = (cut_splits f b left groups is are s places split).0 in
        not_all_larger t one.places one.useful one.splits journal whole (subst (λ (ss : List Table). All (λ x. size t < size x) ss) (sym same) (All-nil (λ (x : Table). size t < size x)))
    answer_right [] falling right same (Some x) e = absurd cc
    answer_right (u ∷ us) falling right same None e = absurd (some_last u us e)
      where
        some_last : (u : Table) (us : List Table) → last_of (Some u) us ≡ None → ⊥
        some_last u [] e = cc
        some_last u (w ∷ us) e = some_last w us e
    answer_right (u ∷ us) falling right same (Some x) e =
        let below = last_below u us x falling e in
        let one = last_is (IsSplit f (members b) left groups) u us x right e in record {
          places = one.places;
          splits = one.splits;
          least = λ s places split.
              let t = cut f b left groups is are s in
              let less = cut_splits f b left groups is are s places split in
              elim (cases_lt (size t) (size x)) [
                | inl smaller ↦ absurd (not_all_larger t less.0.places less.0.useful less.0.splits journal whole (subst (λ (ss : List Table). All (λ y. size t < size y) ss) (sym same) (λ i d low. let far : size x ≤ size (slice_index_or (u ∷ us) i d) = below i d low in omega arith)))
                | inr not_smaller ↦ omega (arith, not_smaller, less.1)
              ];
        }

  pub least_answer : (journal : List JournalLine) → IsWholeLeastSplit version f b left groups journal → IsLeastSplitAnswer f (members b) groups (least_split_answer journal)
  least_answer journal whole =
      answer_right journal whole.whole (sets_in listed.Smaller journal) whole.falling (sets_right Whole (least_split_of version f b left groups).start journal whole.whole.after whole.whole.run) refl (least_split_answer journal) refl
