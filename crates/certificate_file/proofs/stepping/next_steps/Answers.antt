use Rattle.std.proofs.Common.{ℕ, List, ◌++◌, refl, sym, subst, ap, ◌∙◌, inl, inr}
use Rattle.desk_io.specs.State.{left_of}
use Rattle.desk_io.specs.declared.Which.TheVariants.{Cert}
use Rattle.lrat_checker.specs.Checking.{Checking}
use Rattle.cert_lines.specs.Lines.{lines_of}
use Rattle.cert_lines.proofs.Ends.{cert_or_memory, passed_on}
use Rattle.certificate_file.specs.Acceptance.{take_line, check_lines}
use Rattle.reach_kinds.specs.Bodies.{and_then}
use Rattle.certificate_file.specs.Known.{IsKnown}
use Rattle.certificate_file.specs.Streamed.{place_of, checking_of}
use Rattle.certificate_file.specs.declared.places.Place.{Place}
use Rattle.certificate_file.specs.declared.places.State.TheVariants.{Going}
use Rattle.certificate_file.proofs.Desks.{fails_as, fails_faulty, not_read, not_faulty}
use Rattle.certificate_file.proofs.StreamLaws.{sized_sets}
use Rattle.reach_kinds.proofs.Starts.{same_checking}
use Rattle.certificate_file.proofs.stepping.next_steps.Goals as goal

pub take_line-requires-clause-known : goal.take_line-requires-clause-known
take_line-requires-clause-known g c =
    let given = c.args.given.now in
    let f = c.args.system.now in
    let p = c.args.steps.proof in
    let known = rw c.in-Ok-Some.field-0-is at c.in-Ok-Some.ensures.known in
    let first = same_checking (checking_of c.opening-checker.result) c.args.steps.checker c.opening-checker.ensures.rule c.opening-checker.ensures.vars c.opening-checker.ensures.database in
    let last = same_checking c.closing.result (checking_of c.take_steps.new.checker) c.closing.ensures.rule c.closing.ensures.vars c.closing.ensures.database in
    let begun = subst (λ (x : Checking). IsKnown f given (place_of p x c.args.steps.units)) (sym first) c.requires.known in
    subst (λ (x : Place). IsKnown f given x) (sym c.place-place.ensures)
    (subst (λ (x : Checking). IsKnown f given (place_of p x c.take_steps.new.units)) (sym last) (known f c.args.given.now begun))

pub end-requires : goal.end-requires
end-requires g c = sized_sets c.args.system.now c.args.given.now c.args.steps.proof c.args.steps.checker c.args.steps.units c.requires.known

pub returns-in-Ok-None-clause-known : goal.returns-in-Ok-None-clause-known
returns-in-Ok-None-clause-known g c =
    let given = c.args.given.now in
    let f = c.args.system.now in
    let p = c.args.steps.proof in
    let first = same_checking (checking_of c.opening-checker.result) c.args.steps.checker c.opening-checker.ensures.rule c.opening-checker.ensures.vars c.opening-checker.ensures.database in
    let begun = subst (λ (x : Checking). IsKnown f given (place_of p x c.args.steps.units)) (sym first) c.requires.known in
    subst (λ (x : Place). IsKnown f given x) (sym c.end.ensures) ((rw c.in-Ok-None.field-0-is at c.in-Ok-None.ensures.known) f given begun)

pub returns-in-Ok-None-clause-ok : goal.returns-in-Ok-None-clause-ok
returns-in-Ok-None-clause-ok g c = λ tells.
    let f = c.args.system.now in
    let given = c.args.given.now in
    let p = c.args.steps.proof in
    let first = same_checking (checking_of c.opening-checker.result) c.args.steps.checker c.opening-checker.ensures.rule c.opening-checker.ensures.vars c.opening-checker.ensures.database in
    let ls = lines_of (c.args.lines.now.unread ++ left_of Cert (g.D.Desk.state c.args.desk.now)) in
    let more = lines_of (c.take_steps.new.lines.unread ++ left_of Cert (g.D.Desk.state c.take_steps.new.desk)) in
    ap (λ (x : Checking). check_lines f given c.args.lines.now.number (Going (place_of p x c.args.steps.units)) ls) (sym first)
    ∙ (rw c.in-Ok-None.field-0-is at c.in-Ok-None.ensures.ok) tells f given
    ∙ ap (λ (x : Place). check_lines f given c.take_steps.new.lines.number (Going x) more) (sym c.end.ensures)

pub returns-in-Ok-None-clause-faults : goal.returns-in-Ok-None-clause-faults
returns-in-Ok-None-clause-faults g c = fails_as (g.D.Desk.faults c.args.desk.now) (g.D.Desk.faults c.take_steps.new.desk) _ _ (λ is. absurd (not_read is)) (λ is. absurd (not_read is)) c.in-Ok-None.ensures.faults

pub returns-in_ok-take_line-in-Ok-Some-clause-faults : goal.returns-in_ok-take_line-in-Ok-Some-clause-faults
returns-in_ok-take_line-in-Ok-Some-clause-faults g c = fails_as (g.D.Desk.faults c.args.desk.now) (g.D.Desk.faults c.take_steps.new.desk) _ _ (λ is. absurd (not_read is)) (λ is. absurd (not_read is)) c.in-Ok-Some.ensures.faults

pub returns-in_ok-take_line-in-Ok-Some-clause-ok : goal.returns-in_ok-take_line-in-Ok-Some-clause-ok
returns-in_ok-take_line-in-Ok-Some-clause-ok g c = λ tells.
    let f = c.args.system.now in
    let given = c.args.given.now in
    let p = c.args.steps.proof in
    let first = same_checking (checking_of c.opening-checker.result) c.args.steps.checker c.opening-checker.ensures.rule c.opening-checker.ensures.vars c.opening-checker.ensures.database in
    let last = same_checking c.closing.result (checking_of c.take_steps.new.checker) c.closing.ensures.rule c.closing.ensures.vars c.closing.ensures.database in
    let ls = lines_of (c.args.lines.now.unread ++ left_of Cert (g.D.Desk.state c.args.desk.now)) in
    let more = lines_of (c.take_steps.new.lines.unread ++ left_of Cert (g.D.Desk.state c.take_steps.new.desk)) in
    let n = c.take_steps.new.lines.number in
    let told = rw c.in-Ok-Some.field-0-is at c.in-Ok-Some.ensures.ok in
    ap (λ (x : Checking). check_lines f given c.args.lines.now.number (Going (place_of p x c.args.steps.units)) ls) (sym first)
    ∙ told tells f given
    ∙ ap (λ (x : Checking). and_then (λ s. check_lines f given n s more) (take_line f given (place_of p x c.take_steps.new.units) c.in-Ok-Some.line c.in-Ok-Some.text.items)) (sym last)
    ∙ ap (λ (x : Place). and_then (λ s. check_lines f given n s more) (take_line f given x c.in-Ok-Some.line c.in-Ok-Some.text.items)) (sym c.place-place.ensures)
    ∙ ap (λ (b : List ℕ). and_then (λ s. check_lines f given n s more) (take_line f given c.place-place.result c.in-Ok-Some.line b)) (sym c.deref.ensures.value)
    ∙ ap (and_then (λ s. check_lines f given n s more)) c.in_ok-take_line-in-Ok-Some.ensures.ok

pub returns-in_err-take_line-in-Ok-Some : goal.returns-in_err-take_line-in-Ok-Some
returns-in_err-take_line-in-Ok-Some g c =
    let f = c.args.system.now in
    let given = c.args.given.now in
    let p = c.args.steps.proof in
    let first = same_checking (checking_of c.opening-checker.result) c.args.steps.checker c.opening-checker.ensures.rule c.opening-checker.ensures.vars c.opening-checker.ensures.database in
    let last = same_checking c.closing.result (checking_of c.take_steps.new.checker) c.closing.ensures.rule c.closing.ensures.vars c.closing.ensures.database in
    let ls = lines_of (c.args.lines.now.unread ++ left_of Cert (g.D.Desk.state c.args.desk.now)) in
    let more = lines_of (c.take_steps.new.lines.unread ++ left_of Cert (g.D.Desk.state c.take_steps.new.desk)) in
    let n = c.take_steps.new.lines.number in
    let told = rw c.in-Ok-Some.field-0-is at c.in-Ok-Some.ensures.ok in
    let e = c.in_err-take_line-in-Ok-Some.field-0.0 in
    let r = passed_on c.from_residual.result e c.from_residual.ensures.1 in
    rw r (record {
      known = tt;
      few = tt;
      number = tt;
      taken = tt;
      ok = tt;
      err = λ tells. elim c.in_err-take_line-in-Ok-Some.ensures.err [
        | inl memory ↦ inl memory
        | inr refused ↦ inr (
            ap (λ (x : Checking). check_lines f given c.args.lines.now.number (Going (place_of p x c.args.steps.units)) ls) (sym first)
            ∙ told tells f given
            ∙ ap (λ (x : Checking). and_then (λ s. check_lines f given n s more) (take_line f given (place_of p x c.take_steps.new.units) c.in-Ok-Some.line c.in-Ok-Some.text.items)) (sym last)
            ∙ ap (λ (x : Place). and_then (λ s. check_lines f given n s more) (take_line f given x c.in-Ok-Some.line c.in-Ok-Some.text.items)) (sym c.place-place.ensures)
            ∙ ap (λ (b : List ℕ). and_then (λ s. check_lines f given n s more) (take_line f given c.place-place.result c.in-Ok-Some.line b)) (sym c.deref.ensures.value)
            ∙ ap (and_then (λ s. check_lines f given n s more)) refused)
      ];
      plain = λ is. absurd (not_faulty e is);
      rest = c.in-Ok-Some.ensures.rest;
      faults = fails_faulty (g.D.Desk.faults c.args.desk.now) (g.D.Desk.faults c.args.desk.now) (g.D.Desk.faults c.take_steps.new.desk) _ e refl refl c.in-Ok-Some.ensures.faults;
    })

pub returns-in-Err-clause-err : goal.returns-in-Err-clause-err
returns-in-Err-clause-err g c = λ tells.
    let f = c.args.system.now in
    let given = c.args.given.now in
    let p = c.args.steps.proof in
    let first = same_checking (checking_of c.opening-checker.result) c.args.steps.checker c.opening-checker.ensures.rule c.opening-checker.ensures.vars c.opening-checker.ensures.database in
    let ls = lines_of (c.args.lines.now.unread ++ left_of Cert (g.D.Desk.state c.args.desk.now)) in
    cert_or_memory c.in-Err.fault (λ _ fault. ap (λ (x : Checking). check_lines f given c.args.lines.now.number (Going (place_of p x c.args.steps.units)) ls) (sym first) ∙ fault f given) (c.in-Err.ensures.err tells)
