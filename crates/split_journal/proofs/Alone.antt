-- Nodes as groups of their own, and the list in order.
use Rattle.std.proofs.Common.{◌≡◌, ℕ, zero, suc, ◌+◌, ◌<◌, true, length, Option, Some, None, refl, sym, ap, ◌∙◌, subst, arith, inl, inr}
use Rattle.std.specs.Prelude.{All}
use Rattle.std.proofs.lemmas.Bool.{cases_Bool, both_ways, eqb-true, eq-eqb, false≢true, false_from_ne_true, lt-ltb}
use Rattle.std.proofs.lemmas.List.Elements.{All-nil, All-cons}
use mathlib.Core.Path.{fun_ext}
use Rattle.fbas_model.specs.Nodes.{Nodes, Table, members, ◌⊆◌, only}
use Rattle.fbas_model.specs.Fbas.{Fbas}
use Rattle.fbas_model.specs.Restriction.{table_from}
use Rattle.fbas_model.proofs.Tables.{length-table_from, members-table_from}
use Rattle.fbas_model.proofs.Sizes.{member_lt}
use Rattle.greatest_quorum.proofs.GreatestLaws.{table_of}
use Rattle.group_journal.specs.Groups.{joined}
use Rattle.split_journal.specs.Splitting.{Splits, GroupsSplit, IsMinimalSplit}
use Rattle.split_journal.specs.Nodes.{SplitsMinimally, IsLeastOfSplitting, alone_from, alone}
use Rattle.split_journal.specs.Rules.{IsLeastSplitAnswer}
use Rattle.split_journal.proofs.Left.{holding, joined_from, joined_by}

pub length-alone_from : (n v k : ℕ) → length (alone_from n v k) ≡ k
length-alone_from n v zero = refl
length-alone_from n v (suc k) = ap suc (length-alone_from n (v + 1) k)

pub alone_sized : (n v k : ℕ) → All (λ (g : Table). length g ≡ n) (alone_from n v k)
alone_sized n v zero = All-nil (λ (g : Table). length g ≡ n)
alone_sized n v (suc k) = All-cons (λ (g : Table). length g ≡ n) (table_from 0 n (only v)) (alone_from n (v + 1) k) (length-table_from 0 n (only v)) (alone_sized n (v + 1) k)

-- the set of one node
one_has : (n v x : ℕ) → members (table_from 0 n (only v)) x ≡ true → x ≡ v
one_has n v x here =
    let low = member_lt (table_from 0 n (only v)) x here in
    let size = length-table_from 0 n (only v) in
    let at : x ≡ 0 + x = omega arith in
    eqb-true x v (ap (only v) at ∙ sym (members-table_from 0 n (only v) x (omega (arith, low, size))) ∙ here)

one_is : (n v : ℕ) → v < n → members (table_from 0 n (only v)) v ≡ true
one_is n v low = let at : 0 + v ≡ v = omega arith in members-table_from 0 n (only v) v low ∙ ap (only v) at ∙ eq-eqb v v refl

-- the i-th of them has just its node
held_by : (n v k x i : ℕ) → members (holding (alone_from n v k) x) i ≡ true → x ≡ v + i
held_by n v zero x i has = absurd (false≢true has)
held_by n v (suc k) x zero has = one_has n v x has ∙ omega arith
held_by n v (suc k) x (suc i) has = held_by n (v + 1) k x i has ∙ omega arith

holds_at : (n v k i : ℕ) → i < k → v + i < n → members (holding (alone_from n v k) (v + i)) i ≡ true
holds_at n v zero i low fits = absurd (omega arith)
holds_at n v (suc k) zero low fits = let e : v ≡ v + 0 = omega arith in subst (λ (x : ℕ). members (table_from 0 n (only v)) x ≡ true) e (one_is n v (omega arith))
holds_at n v (suc k) (suc i) low fits = let e : v + 1 + i ≡ v + suc i = omega arith in subst (λ (x : ℕ). members (holding (alone_from n (v + 1) k) x) i ≡ true) e (holds_at n (v + 1) k i (omega arith) (omega arith))

pub joined_alone : (n : ℕ) (s : Table) → length s ≡ n → joined (alone n) s ≡ members s
joined_alone n s size = fun_ext (λ x. elim (cases_Bool (members s x)) [
  | inl here ↦
      let low = member_lt s x here in
      let at : 0 + x ≡ x = omega arith in
      joined_by (alone n) s x x here (subst (λ (y : ℕ). members (holding (alone n) y) x ≡ true) at (holds_at n 0 n x (omega (arith, low)) (omega (arith, low)))) ∙ sym here
  | inr gone ↦ false_from_ne_true (joined (alone n) s x) (λ h.
      let r = joined_from (alone n) s x h in
      let same : x ≡ r.0 = held_by n 0 n x r.0 r.2 ∙ omega arith in
      both_ways (members s x) gone (ap (members s) same ∙ r.1)) ∙ sym gone
])

-- ---- minimal sets of groups that are nodes are minimal sets of nodes

module _ (f : Fbas) (b : Table) where
  by_nodes : (s : Table) → length s ≡ length f → Splits f (members b) (members s) → GroupsSplit f (members b) (alone (length f)) s
  by_nodes s size split = subst (λ (u : Nodes). Splits f (members b) u) (sym (joined_alone (length f) s size)) split

  by_groups : (s : Table) → length s ≡ length f → GroupsSplit f (members b) (alone (length f)) s → Splits f (members b) (members s)
  by_groups s size split = subst (λ (u : Nodes). Splits f (members b) u) (joined_alone (length f) s size) split

  pub groups_to_nodes : (s : Table) → IsMinimalSplit f (members b) (alone (length f)) s → (length s ≡ length f) × SplitsMinimally f (members b) (members s)
  groups_to_nodes s minimal =
      let size : length s ≡ length f = minimal.places ∙ length-alone_from (length f) 0 (length f) in (
        size,
        record {
          splits = by_groups s size minimal.splits;
          least = λ t inside split.
              let u : Table = table_from 0 (length f) t in
              let same : members u ≡ t = table_of f t (λ v here. lt-ltb v (length f) (let low = member_lt s v (inside v here) in omega (arith, size))) in
              let fits : length u ≡ length f = length-table_from 0 (length f) t in
              let back = minimal.least u (fits ∙ sym (length-alone_from (length f) 0 (length f))) (subst (λ (w : Nodes). w ⊆ members s) (sym same) inside) (by_nodes u fits (subst (λ (w : Nodes). Splits f (members b) w) (sym same) split)) in
              subst (λ (w : Nodes). members s ⊆ w) same back;
        },
      )

  pub nodes_to_groups : (s : Table) → length s ≡ length f → SplitsMinimally f (members b) (members s) → IsMinimalSplit f (members b) (alone (length f)) s
  nodes_to_groups s size minimal = record {
    places = size ∙ sym (length-alone_from (length f) 0 (length f));
    splits = by_nodes s size minimal.splits;
    least = λ t places inside split. minimal.least (members t) inside (by_groups t (places ∙ length-alone_from (length f) 0 (length f)) split);
  }

  pub least_of_nodes : (x : Option Table) → IsLeastSplitAnswer f (members b) (alone (length f)) x → IsLeastOfSplitting f (members b) x
  least_of_nodes None none = λ t fits split. none t (fits ∙ sym (length-alone_from (length f) 0 (length f))) (by_nodes t fits split)
  least_of_nodes (Some s) is =
      let fits : length s ≡ length f = is.places ∙ length-alone_from (length f) 0 (length f) in
      record {
        places = fits;
        splits = by_groups s fits is.splits;
        least = λ t same split. is.least t (same ∙ sym (length-alone_from (length f) 0 (length f))) (by_nodes t same split);
      }
