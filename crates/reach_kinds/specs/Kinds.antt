-- The kinds of bodies, in rows: by which word a certificate names each, whole and in part.
use Rattle.std.specs.Prelude.{List, [], ◌∷◌, Option, Some, None, codes, if◌then◌else◌}
use Rattle.std.specs.Str.{bytes_eq}
use Rattle.cert_lines.specs.Words.{Word}
use Rattle.enumeration_journal.specs.declared.kinds.ListKind.{ListKind}
use Rattle.enumeration_journal.specs.declared.kinds.ListKind.TheVariants.{Whole, Partial as Part}
use Rattle.enumeration_journal.specs.declared.kinds.Listed.TheVariants as listed
use Rattle.reach_kinds.specs.declared.kinds.ReachKind.{ReachKind}
use Rattle.reach_kinds.specs.declared.kinds.ReachKind.TheVariants.{Nodes, Groups}
use Rattle.reach_kinds.specs.declared.kinds.ReachTitle.{ReachTitle}

abbrev pub kind_word : ReachKind → ListKind → Word
kind_word (Nodes listed.Blocking) Whole = codes "blocking"
kind_word (Nodes listed.Blocking) Part = codes "partial-blocking"
kind_word (Nodes listed.Quorum) Whole = codes "quorums"
kind_word (Nodes listed.Quorum) Part = codes "partial-quorums"
kind_word (Nodes listed.Smaller) Whole = codes "least"
kind_word (Nodes listed.Smaller) Part = codes "partial-least"
kind_word Groups Whole = codes "org-blocking"
kind_word Groups Part = codes "partial-org-blocking"

abbrev pub title : ReachKind → ListKind → ReachTitle
title shows kind = record { shows = shows; kind = kind }

-- each kind, whole and in part
abbrev pub titles : List ReachTitle
titles =
    title (Nodes listed.Blocking) Whole ∷ title (Nodes listed.Blocking) Part ∷ title (Nodes listed.Quorum) Whole ∷ title (Nodes listed.Quorum) Part
    ∷ title (Nodes listed.Smaller) Whole ∷ title (Nodes listed.Smaller) Part ∷ title Groups Whole ∷ title Groups Part ∷ []

-- the first of these whose word this is
abbrev pub titled_among : List ReachTitle → Word → Option ReachTitle
titled_among [] word = None
titled_among (t ∷ more) word = if bytes_eq word (kind_word t.shows t.kind) then Some t else titled_among more word

-- the kind that a word names, if it names one
abbrev pub title_in : Word → Option ReachTitle
title_in word = titled_among titles word
