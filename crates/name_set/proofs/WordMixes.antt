-- Sets whose words are mixed with those of another set, one after another.
use Rattle.std.proofs.Common.{◌≡◌, ℕ, ◌*◌, ◌/◌, ◌%◌, ◌^◌, ◌<◌, ◌≤◌, Bool, false, not, ◌&&◌, ◌||◌, List, refl, sym, ◌∙◌, ap, ap₂, arith, inl, inr, get_or, w64, bit_and, bit_or}
use mathlib.Core.Path.{fun_ext}
use Rattle.std.specs.Int.{bit_not}
use Rattle.std.proofs.lemmas.Bool.{cases_lt}
use Rattle.fbas_model.specs.Nodes.{Nodes, Table, members}
use Rattle.name_set.specs.Words.{bit, set_of, table_of, AreWordsOf}
use Rattle.name_set.proofs.WordLaws.{bit-and, bit-or, bit-without, known_words, members-known, same-members}

-- the words below i are mixed, and the others stand as they were
pub record Mixed (mix : ℕ → ℕ → ℕ) (before other now : List ℕ) (i : ℕ) : Type 0 where
  pub done : (k : ℕ) → k < i → get_or now k 0 ≡ mix (get_or before k 0) (get_or other k 0)
  pub ahead : (k : ℕ) → i ≤ k → get_or now k 0 ≡ get_or before k 0
  pub read : (k : ℕ) → k < i → get_or other k 0 < 2 ^ 64

-- words are mixed as their bits are
pub record MixesBits (mix : ℕ → ℕ → ℕ) (op : Bool → Bool → Bool) : Type 0 where
  pub bits : (a b i : ℕ) → b < 2 ^ 64 → i < 64 → bit (mix a b) i ≡ op (bit a i) (bit b i)
  pub none : op false false ≡ false

abbrev pub without : ℕ → ℕ → ℕ
without a b = bit_and a (bit_not w64 b)

pub mixes-without : MixesBits without (λ a b. a && not b)
mixes-without = record { bits = λ a b i fits low. bit-without a b i fits low; none = refl }

pub mixes-or : MixesBits bit_or (λ a b. a || b)
mixes-or = record { bits = λ a b i fits low. bit-or a b i; none = refl }

pub mixes-and : MixesBits bit_and (λ a b. a && b)
mixes-and = record { bits = λ a b i fits low. bit-and a b i; none = refl }

module _ (mix : ℕ → ℕ → ℕ) (op : Bool → Bool → Bool) (mixes : MixesBits mix op) (size n m : ℕ) (before other now : List ℕ) (i : ℕ) (mine : AreWordsOf size n before) (theirs : AreWordsOf size m other) (same_n : m ≡ n) (all : n ≤ 64 * i) (mixed : Mixed mix before other now i) where
  abbrev both : Nodes
  both v = op (set_of before v) (set_of other v)

  both-above : (v : ℕ) → n ≤ v → both v ≡ false
  both-above v high = ap₂ op (mine.clear v high) (theirs.clear v (omega arith)) ∙ mixes.none

  set_of-low : (v : ℕ) → v / 64 < i → set_of now v ≡ both v
  unfolding set_of
  set_of-low v low = ap (λ (w : ℕ). bit w (v % 64)) (mixed.done (v / 64) low) ∙ mixes.bits (get_or before (v / 64) 0) (get_or other (v / 64) 0) (v % 64) (mixed.read (v / 64) low) (omega arith)

  set_of-high : (v : ℕ) → i ≤ v / 64 → set_of now v ≡ set_of before v
  unfolding set_of
  set_of-high v high = ap (λ (w : ℕ). bit w (v % 64)) (mixed.ahead (v / 64) high)

  set_of-mixed : set_of now ≡ both
  set_of-mixed = fun_ext (λ v. elim (cases_lt (v / 64) i) [
    | inl low ↦ set_of-low v low
    | inr high ↦ let above : n ≤ v = omega arith in set_of-high v high ∙ mine.clear v above ∙ sym (both-above v above)
  ])

  pub mixed_words : AreWordsOf size n now
  mixed_words = known_words size n before now both mine set_of-mixed both-above

  -- what the two sets' members say of those of the mixed set
  pub members-mixed : (t u : Table) → table_of n before ≡ t → table_of m other ≡ u → members (table_of n now) ≡ (λ v. op (members t v) (members u v))
  members-mixed t u d e =
      let mixed_sets : Nodes → Nodes → Nodes = λ r s v. op (r v) (s v) in
      members-known size n now both mixed_words set_of-mixed
      ∙ ap₂ mixed_sets (sym (same-members size n before t mine d)) (sym (same-members size m other u theirs e))
