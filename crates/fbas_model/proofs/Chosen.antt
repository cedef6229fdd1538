-- A set that is filled, node by node, with those of some nodes that pass a test.
use Rattle.std.proofs.Common.{◌≡◌, ℕ, Bool, true, false, ◌&&◌, ◌||◌, ◌==◌, List, [], ◌∷◌, ◌++◌, refl, sym, ap, ◌∙◌}
use Rattle.std.proofs.lemmas.Bool.{false≢true, eqb-true}
use Rattle.fbas_model.specs.Nodes.{Nodes, Table, members, listed_from, ◌∪◌, ∅, only}
use Rattle.fbas_model.specs.Lists.{among}
use Rattle.fbas_model.proofs.Listed.{among_more, iterated_all}

-- the set has those of the nodes so far that pass
abbrev pub AreChosen : (ℕ → Bool) → List ℕ → Nodes → Type 0
AreChosen test ws s = (w : ℕ) → s w ≡ (among ws w && test w)

pub chosen_none : (test : ℕ → Bool) (s : Nodes) → s ≡ ∅ → AreChosen test [] s
chosen_none test s none w = ap (λ (t : Nodes). t w) none

passed : (x e k : Bool) → (e ≡ true → k ≡ false) → (x && k) ≡ ((x || e) && k)
passed true e k h = refl
passed false true k h = sym (h refl)
passed false false k h = refl

added : (x e k : Bool) → (e ≡ true → k ≡ true) → ((x && k) || e) ≡ ((x || e) && k)
added true true true h = refl
added true true false h = absurd (false≢true (h refl))
added true false true h = refl
added true false false h = refl
added false true true h = refl
added false true false h = absurd (false≢true (h refl))
added false false k h = refl

-- one node more
module _ (test : ℕ → Bool) (ws : List ℕ) (s : Nodes) (v : ℕ) (before : AreChosen test ws s) where
  there : (b : Bool) → test v ≡ b → (w : ℕ) → (w == v) ≡ true → test w ≡ b
  there b is w e = ap test (eqb-true w v e) ∙ is

  more : (w : ℕ) → ((among ws w || (w == v)) && test w) ≡ (among (ws ++ v ∷ []) w && test w)
  more w = ap (λ (b : Bool). b && test w) (sym (among_more ws v w))

  -- that does not pass
  pub chosen_pass : test v ≡ false → AreChosen test (ws ++ v ∷ []) s
  chosen_pass out w = before w ∙ (passed (among ws w) (w == v) (test w) (there false out w) ∙ more w)

  -- that does, and is put into the set
  pub chosen_put : (next : Nodes) → test v ≡ true → next ≡ s ∪ only v → AreChosen test (ws ++ v ∷ []) next
  chosen_put next is put w = ap (λ (t : Nodes). t w) put ∙ (ap (λ (b : Bool). b || (w == v)) (before w) ∙ (added (among ws w) (w == v) (test w) (there true is w) ∙ more w))

-- of all members of a table
pub chosen_all : (test : ℕ → Bool) (t : Table) (ws : List ℕ) (s : Nodes) → ws ≡ listed_from 0 t → AreChosen test ws s → (w : ℕ) → s w ≡ (members t w && test w)
chosen_all test t ws s all h w = h w ∙ ap (λ (b : Bool). b && test w) (iterated_all t ws all w)
