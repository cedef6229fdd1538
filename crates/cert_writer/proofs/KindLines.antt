-- The kind line, written and taken.
use Rattle.std.proofs.Common.{◌≡◌, ◌≤◌, ◌==◌, length, not, true, Ok, refl, arith, codes}
use Rattle.std.specs.List.{list_all}
use Rattle.fbas_model.specs.Systems.{System}
use Rattle.clause_encoder.specs.declared.version.Version.{Version}
use Rattle.clause_encoder.specs.declared.version.Version.TheVariants.{One, Two, Three}
use Rattle.enumeration_journal.specs.declared.kinds.ListKind.{ListKind}
use Rattle.enumeration_journal.specs.declared.kinds.ListKind.TheVariants.{Whole, Partial as Part}
use Rattle.enumeration_journal.specs.declared.kinds.Listed.TheVariants as listed
use Rattle.reach_kinds.specs.Kinds.{kind_word}
use Rattle.reach_kinds.specs.declared.kinds.ReachKind.{ReachKind}
use Rattle.reach_kinds.specs.declared.kinds.ReachKind.TheVariants.{Nodes, Groups}
use Rattle.certificate_file.specs.Acceptance.{aim_word, is_allowed, reach_place, take_line}
use Rattle.certificate_file.specs.declared.given.Given.{Given}
use Rattle.certificate_file.specs.declared.places.Aim.{Aim}
use Rattle.certificate_file.specs.declared.places.Aim.TheVariants as aim
use Rattle.certificate_file.specs.declared.places.Body.TheVariants as body
use Rattle.certificate_file.specs.declared.places.Subject.{Subject}
use Rattle.certificate_file.specs.declared.places.Place.TheVariants.{AtKind, AtFormula}
use Rattle.certificate_file.specs.declared.places.State.TheVariants.{Going}
use Rattle.cert_lines.specs.declared.lines.TheConstants.{MAX_LINE_BYTES}
use Rattle.cert_writer.specs.Texts.{Text, kind_line}
use Rattle.cert_writer.proofs.Joined.{IsLine}
use Rattle.cert_writer.proofs.Words.{is_plain}

-- a text of few bytes, and no line feed among them
short_line : (text : Text) → list_all (λ b. not (b == 10)) text ≡ true → length text ≤ MAX_LINE_BYTES → IsLine text
short_line text plain short = record { plain = is_plain text plain; short = short }

-- ---- steps

pub line_steps : (to : Aim) → IsLine (kind_line (aim_word to))
line_steps aim.Refutation = short_line (codes "kind refutation") refl (omega arith)
line_steps aim.Partial = short_line (codes "kind partial") refl (omega arith)

in_each_version : (version : Version) (to : Aim) → is_allowed version (body.Steps to) ≡ true
in_each_version One to = refl
in_each_version Two to = refl
in_each_version Three to = refl

pub steps_taken : (f : System) (given : Given) (s : Subject) (to : Aim) → take_line f given (AtKind s) 5 (kind_line (aim_word to)) ≡ Ok (Going (AtFormula to s))
unfolding take_line
steps_taken f given s aim.Refutation = rw (in_each_version s.version aim.Refutation) refl
steps_taken f given s aim.Partial = rw (in_each_version s.version aim.Partial) refl

-- ---- bodies that are read line by line

pub line_body : (shows : ReachKind) (kind : ListKind) → IsLine (kind_line (kind_word shows kind))
line_body (Nodes listed.Blocking) Whole = short_line (codes "kind blocking") refl (omega arith)
line_body (Nodes listed.Blocking) Part = short_line (codes "kind partial-blocking") refl (omega arith)
line_body (Nodes listed.Quorum) Whole = short_line (codes "kind quorums") refl (omega arith)
line_body (Nodes listed.Quorum) Part = short_line (codes "kind partial-quorums") refl (omega arith)
line_body (Nodes listed.Smaller) Whole = short_line (codes "kind least") refl (omega arith)
line_body (Nodes listed.Smaller) Part = short_line (codes "kind partial-least") refl (omega arith)
line_body Groups Whole = short_line (codes "kind org-blocking") refl (omega arith)
line_body Groups Part = short_line (codes "kind partial-org-blocking") refl (omega arith)

pub body_taken : (f : System) (given : Given) (s : Subject) (shows : ReachKind) (kind : ListKind) → s.version ≡ Three → take_line f given (AtKind s) 5 (kind_line (kind_word shows kind)) ≡ Ok (Going (reach_place f s kind shows))
unfolding take_line
body_taken f given s (Nodes listed.Blocking) Whole two = rw two refl
body_taken f given s (Nodes listed.Blocking) Part two = rw two refl
body_taken f given s (Nodes listed.Quorum) Whole two = rw two refl
body_taken f given s (Nodes listed.Quorum) Part two = rw two refl
body_taken f given s (Nodes listed.Smaller) Whole two = rw two refl
body_taken f given s (Nodes listed.Smaller) Part two = rw two refl
body_taken f given s Groups Whole two = rw two refl
body_taken f given s Groups Part two = rw two refl
