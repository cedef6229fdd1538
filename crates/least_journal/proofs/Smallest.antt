-- The quorum that a whole journal lists last is a smallest one: a smaller one would satisfy every clause.
use Rattle.std.proofs.Common.{◌≡◌, ℕ, ◌<◌, ◌≤◌, Bool, true, false, not, ◌||◌, List, [], ◌∷◌, length, Option, Some, None, nat_le, slice_index_or, refl, sym, ap, ◌∙◌, subst, arith, inl, inr}
use Rattle.std.specs.Prelude.{All}
use Rattle.std.proofs.lemmas.Bool.{and_parts, cases_lt, leb-true, false_from_ne_true}
use Rattle.std.proofs.lemmas.List.Elements.{All-nil, All-cons, All-head, All-tail}
use Rattle.fbas_model.specs.Nodes.{Nodes, Table, members, size}
use Rattle.fbas_model.specs.Fbas.{Fbas, Quorum, all_nodes}
use Rattle.fbas_model.specs.Restriction.{table_from}
use Rattle.fbas_model.proofs.Sizes.{size_le}
use Rattle.fbas_model.proofs.Kept.{rank_lt}
use Rattle.fbas_model.proofs.Tables.{length-table_from}
use Rattle.lrat_model.specs.Literal.{Plus, literal_true, clause_true}
use Rattle.lrat_model.specs.Steps.{Database, after_step}
use Rattle.lrat_model.proofs.Runs.{Satisfies-numbered}
use Rattle.greatest_quorum.proofs.GreatestLaws.{table_of}
use Rattle.enumeration_journal.specs.Numbering.{variable_in, assignment_of}
use Rattle.enumeration_journal.specs.Journals.{JournalLine, SetLine, StepLine, after_line, JournalRun, IsWholeJournal, sets_in}
use Rattle.enumeration_journal.specs.declared.kinds.ListKind.{ListKind}
use Rattle.enumeration_journal.specs.declared.kinds.ListKind.TheVariants.{Whole}
use Rattle.enumeration_journal.specs.declared.kinds.Listed.TheVariants as listed
use Rattle.enumeration_journal.proofs.Greatest.{IsGreatest}
use Rattle.enumeration_journal.proofs.Duality.{quorum_within}
use Rattle.enumeration_journal.proofs.ClauseTruth.{true_where, assigned}
use Rattle.enumeration_journal.proofs.Places.{from_zero}
use Rattle.enumeration_journal.proofs.Refuting.{AreTrue, no_whole_journal}
use Rattle.clause_encoder.specs.NameCounter.{counted, counter_of, true_count, extended}
use Rattle.least_journal.specs.Least.{IsRightIn, clause_in, least_of, AreSmaller, FallFrom, IsWholeLeast, last_of, answer_of, IsLeastAnswer}
use Rattle.clause_encoder.proofs.NameExtending.{extended_name, extended_cell, counter_holds}
use Rattle.least_journal.proofs.Counts.{assigned_count}

module _ (f : Fbas) (b : Nodes) (g w : Table) (greatest : IsGreatest f b g) (places : length w ≡ length f) (quorum : Quorum f b (members w)) where
  fits : length w ≡ length g
  fits = places ∙ sym greatest.places

  -- the assignment of w, and of what is counted of it
  truth : ℕ → Bool
  truth = extended (assignment_of g w) (size g)

  -- it makes the clause of a blocking set true, as w meets that
  block_true : (s : Table) → IsRightIn f b g listed.Blocking s → clause_true truth (clause_in g listed.Blocking s) ≡ true
  unfolding truth
  block_true s right =
      let m = right.1.meets (members w) quorum in
      let in_g = right.2 m.0 m.1 in
      let low : variable_in g m.0 ≤ size g = omega (arith, rank_lt g m.0 in_g) in
      let is : truth (variable_in g m.0) ≡ true = extended_name (assignment_of g w) (size g) (variable_in g m.0) low ∙ assigned g w m.0 fits in_g ∙ m.2 in
      true_where truth (λ v. Plus (variable_in g v)) 0 s m.0 m.1 (subst (λ (x : ℕ). literal_true truth (Plus (variable_in g x)) ≡ true) (sym (from_zero m.0)) is)

  -- and that of a larger quorum
  quorum_true : (u : Table) → IsRightIn f b g listed.Smaller u → size w < size u → clause_true truth (clause_in g listed.Smaller u) ≡ true
  unfolding truth
  quorum_true u right smaller =
      let within = quorum_within f b g (members u) greatest right.1 in
      let few : size u ≤ size g = size_le u g (right.0 ∙ sym greatest.places) within in
      let count = assigned_count g w (sym fits) (quorum_within f b g (members w) greatest quorum) in
      let off : truth (counted (size g) (size g) (size u)) ≡ false =
      extended_cell (assignment_of g w) (size g) (size g) (size u) (omega arith) (omega arith) few
      ∙ false_from_ne_true (nat_le (size u) (true_count (assignment_of g w) (size g))) (λ h. let l = leb-true (size u) (true_count (assignment_of g w) (size g)) h in absurd (omega (arith, count))) in
      ap (λ (x : Bool). not x || false) off

  larger_lines : (kind : ListKind) (old : Database) (lines : List JournalLine) (new : Database) → JournalRun (least_of f b g) kind old lines new → All (λ s. size w < size s) (sets_in listed.Smaller lines) → AreTrue truth (least_of f b g) lines
  larger_lines kind old [] new run larger = tt
  larger_lines kind old (SetLine listed.Smaller id u ∷ lines) new run larger = (
    quorum_true u run.0.1 (All-head (λ (s : Table). size w < size s) u (sets_in listed.Smaller lines) larger),
    larger_lines kind (after_line (least_of f b g) old (SetLine listed.Smaller id u)) lines new run.2 (All-tail (λ (s : Table). size w < size s) u (sets_in listed.Smaller lines) larger),
  )
  larger_lines kind old (SetLine listed.Quorum id u ∷ lines) new run larger = absurd run.0.1
  larger_lines kind old (SetLine listed.Blocking id s ∷ lines) new run larger = (block_true s run.0.1, larger_lines kind (after_line (least_of f b g) old (SetLine listed.Blocking id s)) lines new run.2 larger)
  larger_lines kind old (StepLine step ∷ lines) new run larger = larger_lines kind (after_step old step) lines new run.2 larger

  -- a whole journal has a quorum that is not larger
  pub not_all_larger : (journal : List JournalLine) → IsWholeJournal (least_of f b g) journal → All (λ s. size w < size s) (sets_in listed.Smaller journal) → ⊥
  unfolding truth
  not_all_larger journal whole larger = no_whole_journal truth (least_of f b g) journal whole
      (Satisfies-numbered truth 1 (counter_of (size g)) (counter_holds (assignment_of g w) (size g)))
      (larger_lines Whole (least_of f b g).start journal whole.after whole.run larger)

-- ---- the last of falling sets

abbrev NotBelow : Table → Table → Type 0
NotBelow x s = size x ≤ size s

last_below : (u : Table) (us : List Table) (x : Table) → AreSmaller (size u) us → last_of (Some u) us ≡ Some x → All (NotBelow x) (u ∷ us)
last_below u [] x falling e = let same : u ≡ x = cc in All-cons (NotBelow x) u [] (subst (λ (y : Table). size x ≤ size y) (sym same) (omega arith)) (All-nil (NotBelow x))
last_below u (w ∷ us) x falling e =
    let rest = last_below w us x falling.1 e in
    let first : size x ≤ size w = All-head (NotBelow x) w us rest in
    All-cons (NotBelow x) u (w ∷ us) (omega (arith, first, falling.0)) rest

last_is : (P : Table → Type 0) (u : Table) (us : List Table) (x : Table) → All P (u ∷ us) → last_of (Some u) us ≡ Some x → P x
last_is P u [] x all e = let same : u ≡ x = cc in subst P same (All-head P u [] all)
last_is P u (w ∷ us) x all e = last_is P w us x (All-tail P u (w ∷ us) all) e

quorums_right : (f : Fbas) (b : Nodes) (g : Table) (kind : ListKind) (old : Database) (lines : List JournalLine) (new : Database) → JournalRun (least_of f b g) kind old lines new → All (IsRightIn f b g listed.Smaller) (sets_in listed.Smaller lines)
quorums_right f b g kind old [] new run = All-nil (IsRightIn f b g listed.Smaller)
quorums_right f b g kind old (SetLine listed.Smaller id u ∷ lines) new run = All-cons (IsRightIn f b g listed.Smaller) u (sets_in listed.Smaller lines) run.0.1 (quorums_right f b g kind (after_line (least_of f b g) old (SetLine listed.Smaller id u)) lines new run.2)
quorums_right f b g kind old (SetLine listed.Quorum id u ∷ lines) new run = absurd run.0.1
quorums_right f b g kind old (SetLine listed.Blocking id s ∷ lines) new run = quorums_right f b g kind (after_line (least_of f b g) old (SetLine listed.Blocking id s)) lines new run.2
quorums_right f b g kind old (StepLine step ∷ lines) new run = quorums_right f b g kind (after_step old step) lines new run.2

-- ---- the law

module _ (f : Fbas) (b : Nodes) (g : Table) (greatest : IsGreatest f b g) (journal : List JournalLine) (whole : IsWholeJournal (least_of f b g) journal) where
  answer_right : (sets : List Table) → FallFrom sets → All (IsRightIn f b g listed.Smaller) sets → sets_in listed.Smaller journal ≡ sets → (x : Option Table) → last_of None sets ≡ x → IsLeastAnswer f b x
  answer_right [] falling right is None e = λ u q.
      let w : Table = table_from 0 (length f) u in
      let same : members w ≡ u = table_of f u (λ v here. (and_parts (all_nodes f v) (not (b v)) (q.left v here)).0) in
      not_all_larger f b g w greatest (length-table_from 0 (length f) u) (subst (λ (s : Nodes). Quorum f b s) (sym same) q) journal whole (subst (λ (ss : List Table). All (λ s. size w < size s) ss) (sym is) (All-nil (λ (s : Table). size w < size s)))
  answer_right [] falling right is (Some x) e = absurd cc
  answer_right (u ∷ us) falling right is None e = absurd (some_last u us e)
    where
      some_last : (u : Table) (us : List Table) → last_of (Some u) us ≡ None → ⊥
      some_last u [] e = cc
      some_last u (w ∷ us) e = some_last w us e
  answer_right (u ∷ us) falling right is (Some x) e =
      let all = last_below u us x falling e in
      let one = last_is (IsRightIn f b g listed.Smaller) u us x right e in record {
        places = one.0;
        quorum = one.1;
        least = λ w places quorum. elim (cases_lt (size w) (size x)) [
          | inl smaller ↦ absurd (not_all_larger f b g w greatest places quorum journal whole (subst (λ (ss : List Table). All (λ s. size w < size s) ss) (sym is) (λ i d low. let far : size x ≤ size (slice_index_or (u ∷ us) i d) = all i d low in omega arith)))
          | inr not_smaller ↦ not_smaller
        ];
      }

pub least_answer : (f : Fbas) (b : Nodes) (g : Table) (journal : List JournalLine) → IsGreatest f b g → IsWholeLeast f b g journal → IsLeastAnswer f b (answer_of journal)
least_answer f b g journal greatest is =
    answer_right f b g greatest journal is.whole (sets_in listed.Smaller journal) is.falling (quorums_right f b g Whole (least_of f b g).start journal is.whole.after is.whole.run) refl (answer_of journal) refl
