use Rattle.std.proofs.Common.{Result, Ok, inl, inr, sym, ap, ◌∙◌, subst}
use Rattle.cert_lines.specs.declared.faults.CertError.{CertError}
use Rattle.reach_kinds.specs.Bodies.{and_then}
use Rattle.reach_kinds.specs.declared.places.ReachState.{ReachState}
use Rattle.certificate_file.specs.Acceptance.{in_reach}
use Rattle.certificate_file.specs.Organisations.{groups_given}
use Rattle.certificate_file.specs.Known.{IsKnownState}
use Rattle.certificate_file.specs.declared.places.State.{State}
use Rattle.reach_kinds.proofs.SameGroups.{same_groups}
use Rattle.certificate_file.proofs.Meaning.{known_reach_state}
use Rattle.certificate_file.proofs.taking.reach_taken.Goals as goal

pub returns-in-Ok-clause-known : goal.returns-in-Ok-clause-known
returns-in-Ok-clause-known c = λ given over.
    let f = c.args.system.now in
    let s = c.args.subject in
    subst (IsKnownState f given) (sym c.in_reach.ensures)
    (known_reach_state f given s c.in-Ok.state c.requires.0 c.in-Ok.ensures.known (same_groups (groups_given f given s.nodes) f s.nodes c.args.place c.args.line c.args.text.now c.in-Ok.state over c.in-Ok.ensures.ok))

pub returns-in-Ok-clause-ok : goal.returns-in-Ok-clause-ok
returns-in-Ok-clause-ok c =
    ap (λ (r : Result ReachState CertError). and_then (λ (x : ReachState). Ok (in_reach c.args.subject x)) r) c.in-Ok.ensures.ok ∙ ap (λ (s : State). Ok s) (sym c.in_reach.ensures)

pub returns-in-Err-clause-err : goal.returns-in-Err-clause-err
returns-in-Err-clause-err c = elim c.in-Err.ensures.err [
  | inl memory ↦ inl memory
  | inr refused ↦ inr (ap (λ (r : Result ReachState CertError). and_then (λ (x : ReachState). Ok (in_reach c.args.subject x)) r) refused)
]
