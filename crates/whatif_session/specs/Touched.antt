-- What an edit changes, and what it leaves as it was: one node's quorum set, in it the set that a path leads to, in that one thing.
use Rattle.std.specs.Prelude.{◌≡◌, ◌⊎◌, ℕ, List, [], ◌∷◌, ◌++◌, ◌==◌, length, true, false, Option, Some, None, slice_get, slice_index_or}
use Rattle.std.specs.List.{list_any}
use Rattle.fbas_model.specs.Names.{Name, place_of}
use Rattle.fbas_model.specs.Trees.{QuorumSet, quorum_set, Entries, none, node, inner}
use Rattle.fbas_model.specs.Systems.{System}
use Rattle.fbas_model.specs.Restriction.{restricted}
use Rattle.greatest_quorum.specs.Changes.{IsChangedAt}
use Rattle.whatif_session.specs.Changes.{inner_of, set_at, has_validator}
use Rattle.whatif_session.specs.Edits.{Edit, Threshold, Add, Drop, Declare, Retire}
use Rattle.whatif_session.specs.Names.{all_but}

-- ---- one quorum set, before and after

abbrev pub threshold_in : QuorumSet → ℕ
threshold_in (quorum_set k entries) = k

-- the validators among entries, in order
abbrev pub validators_among : Entries → List ℕ
validators_among none = []
validators_among (node w rest) = w ∷ validators_among rest
validators_among (inner q rest) = validators_among rest

abbrev pub validators_of : QuorumSet → List ℕ
validators_of (quorum_set k entries) = validators_among entries

-- both have the same inner sets
abbrev pub HasSameInner : QuorumSet → QuorumSet → Type 0
HasSameInner d e = (i : ℕ) → inner_of i e ≡ inner_of i d

-- the threshold is now k, and nothing else is another
pub record HasThreshold (k : ℕ) (d e : QuorumSet) : Type 0 where
  pub threshold : threshold_in e ≡ k
  pub validators : validators_of e ≡ validators_of d
  pub inner : HasSameInner d e

-- w is a validator once more, and nothing else is another
pub record HasAlso (w : ℕ) (d e : QuorumSet) : Type 0 where
  pub before : List ℕ
  pub behind : List ℕ
  pub was : validators_of d ≡ before ++ behind
  pub validators : validators_of e ≡ before ++ w ∷ behind
  pub threshold : threshold_in e ≡ threshold_in d
  pub inner : HasSameInner d e

-- the first validator that is w is gone, and nothing else is another
pub record HasLost (w : ℕ) (d e : QuorumSet) : Type 0 where
  pub before : List ℕ
  pub behind : List ℕ
  pub first : list_any (λ v. v == w) before ≡ false
  pub was : validators_of d ≡ before ++ w ∷ behind
  pub validators : validators_of e ≡ before ++ behind
  pub threshold : threshold_in e ≡ threshold_in d
  pub inner : HasSameInner d e

-- ---- what is so of the set that a path leads to, if it leads to one; every other set is as it was

abbrev pub IfBoth : (QuorumSet → QuorumSet → Type 0) → Option QuorumSet → Option QuorumSet → Type 0
IfBoth P None None = Unit {0}
IfBoth P None (Some e) = ⊥
IfBoth P (Some d) None = ⊥
IfBoth P (Some d) (Some e) = P d e

-- the set on the way has its threshold and validators, and but for one its inner sets
pub record IsOnTheWay (i : ℕ) (d e : QuorumSet) : Type 0 where
  pub threshold : threshold_in e ≡ threshold_in d
  pub validators : validators_of e ≡ validators_of d
  pub others : (j : ℕ) → (j ≡ i → ⊥) → inner_of j e ≡ inner_of j d

abbrev pub ChangedAt : List ℕ → (QuorumSet → QuorumSet → Type 0) → QuorumSet → QuorumSet → Type 0
ChangedAt [] P d e = P d e
ChangedAt (i ∷ is) P d e = IsOnTheWay i d e × IfBoth (ChangedAt is P) (inner_of i d) (inner_of i e)

-- a quorum set, changed so
abbrev pub IsChanged : List ℕ → (QuorumSet → QuorumSet → Type 0) → Option QuorumSet → Option QuorumSet → Type 0
IsChanged path P old new = (d : QuorumSet) × (e : QuorumSet) × (old ≡ Some d) × (new ≡ Some e) × ChangedAt path P d e

-- ---- what an edit asks of the system before it

-- a node has the name, and the path leads to a set in its quorum set
pub record LeadsTo (s : System) (name : Name) (path : List ℕ) (q : QuorumSet) : Type 0 where
  pub place : ℕ
  pub own : QuorumSet
  pub named : place_of s.names name ≡ Some place
  pub has : slice_index_or s.sets place None ≡ Some own
  pub leads : set_at path own ≡ Some q

abbrev pub MayBe : System → Edit → Type 0
MayBe s (Threshold who path k) = (q : QuorumSet) × LeadsTo s who path q
MayBe s (Add who path name) = (q : QuorumSet) × LeadsTo s who path q
MayBe s (Drop who path name) = (q : QuorumSet) × LeadsTo s who path q × ((w : ℕ) × (place_of s.names name ≡ Some w) × (has_validator w q ≡ true))
MayBe s (Declare who) = (place_of s.names who ≡ None) ⊎ ((v : ℕ) × (place_of s.names who ≡ Some v) × (slice_index_or s.sets v None ≡ None))
MayBe s (Retire who) = (q : QuorumSet) × LeadsTo s who [] q

-- ---- the nodes

-- the node whose quorum set an edit changes
abbrev pub node_of : Edit → Name
node_of (Threshold who path k) = who
node_of (Add who path name) = who
node_of (Drop who path name) = who
node_of (Declare who) = who
node_of (Retire who) = who

-- one name more, of a node without a quorum set; without that node the system is as it was
pub record HasOneMore (s base : System) (name : Name) : Type 0 where
  pub new : place_of s.names name ≡ None
  pub place : ℕ
  pub named : slice_get base.names place ≡ Some name
  pub unset : slice_get base.sets place ≡ Some None
  pub rest : restricted (all_but place (length s.names)) base ≡ s

-- the system with the name that an edit may bring
abbrev pub IsBase : System → Edit → System → Type 0
IsBase s (Threshold who path k) base = base ≡ s
IsBase s (Add who path name) base = (base ≡ s) ⊎ HasOneMore s base name
IsBase s (Drop who path name) base = base ≡ s
IsBase s (Declare who) base = (base ≡ s) ⊎ HasOneMore s base who
IsBase s (Retire who) base = base ≡ s

-- what becomes of the node's quorum set
abbrev pub ChangesOwn : Edit → List Name → Option QuorumSet → Option QuorumSet → Type 0
ChangesOwn (Threshold who path k) names old new = IsChanged path (HasThreshold k) old new
ChangesOwn (Add who path name) names old new = (w : ℕ) × (place_of names name ≡ Some w) × IsChanged path (HasAlso w) old new
ChangesOwn (Drop who path name) names old new = (w : ℕ) × (place_of names name ≡ Some w) × IsChanged path (HasLost w) old new
ChangesOwn (Declare who) names old new = new ≡ Some (quorum_set 1 none)
ChangesOwn (Retire who) names old new = new ≡ None

-- t is s after the edit: it may be made; one name may come; each node but the edit's own has the quorum set that it had
pub record Touches (s : System) (edit : Edit) (t : System) : Type 0 where
  pub may : MayBe s edit
  pub base : System
  pub is_base : IsBase s edit base
  pub names : t.names ≡ base.names
  pub place : ℕ
  pub named : place_of base.names (node_of edit) ≡ Some place
  pub others : IsChangedAt base.sets t.sets place
  pub own : ChangesOwn edit base.names (slice_index_or base.sets place None) (slice_index_or t.sets place None)
