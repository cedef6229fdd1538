-- What lists are of: minimal quorums, or minimal blocking sets; each meets every set of the other kind. A smaller quorum belongs to the search for a smallest one, and lists have none.
use Rattle.std.specs.Prelude.{ℕ, Bool, true, false}
use Rattle.fbas_model.specs.Nodes.{Nodes}
use Rattle.fbas_model.specs.Fbas.{Fbas, Quorum, Blocks, IsMinimalQuorum, BlocksMinimally}
use Rattle.lrat_model.specs.Literal.{Literal, Plus, Minus}
use Rattle.enumeration_journal.specs.declared.kinds.ListKind.{ListKind}
use Rattle.enumeration_journal.specs.declared.kinds.ListKind.TheVariants.{Whole, Partial}
use Rattle.enumeration_journal.specs.declared.kinds.Listed.{Listed}
use Rattle.enumeration_journal.specs.declared.kinds.Listed.TheVariants.{Quorum as quorum, Blocking as blocking, Smaller as smaller}

-- the kind whose sets meet those of this one
abbrev pub other : Listed → Listed
other quorum = blocking
other blocking = quorum
other smaller = smaller

abbrev pub is_sought : Listed → Listed → Bool
is_sought quorum quorum = true
is_sought quorum blocking = false
is_sought quorum smaller = false
is_sought blocking quorum = false
is_sought blocking blocking = true
is_sought blocking smaller = false
is_sought smaller quorum = false
is_sought smaller blocking = false
is_sought smaller smaller = true

-- there are lists of the kind
abbrev pub HasLists : Listed → Type 0
HasLists quorum = Unit {0}
HasLists blocking = Unit {0}
HasLists smaller = ⊥

-- a set of the kind, once b is deleted
abbrev pub Is : Listed → Fbas → Nodes → Nodes → Type 0
Is quorum f b u = Quorum f b u
Is blocking f b s = Blocks f b s
Is smaller f b u = ⊥

-- and no proper subset is one
abbrev pub IsMinimal : Listed → Fbas → Nodes → Nodes → Type 0
IsMinimal quorum f b u = IsMinimalQuorum f b u
IsMinimal blocking f b s = BlocksMinimally f b s
IsMinimal smaller f b u = ⊥

-- the literal of a node's variable in the clause of a set that is sought, or of another
abbrev pub signed_if : Bool → ℕ → Literal
signed_if true x = Minus x
signed_if false x = Plus x

abbrev pub signed : Listed → Listed → ℕ → Literal
signed sought which x = signed_if (is_sought sought which) x

-- whether a clause has to be new: in a part each, and in a whole list that of a sought set
abbrev pub asks_new : Listed → ListKind → Listed → Bool
asks_new sought Whole which = is_sought sought which
asks_new sought Partial which = true
