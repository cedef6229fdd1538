use Rattle.std.proofs.Common.{◌≡◌, length, take, arith, ap, ◌∙◌, sym, Bool, false, List, ℕ, ◌<◌, subst, refl}
use Rattle.std.proofs.lemmas.List.{length-take-le}
use Rattle.desk_io.specs.State.{written, CannotPut}
use Rattle.desk_io.specs.declared.desk.To.TheVariants.{Cert}
use Rattle.cert_writer.proofs.WritingLaws.{put_failed}
use Rattle.cert_writer.proofs.writer.CertWriter.flush.Goals as goal

pub returns-in-Err-clause-writes : goal.returns-in-Err-clause-writes
returns-in-Err-clause-writes g c =
    let w = c.self.inside in
    let held : List ℕ = take w.filled w.bytes.items in
    let is : record { held = held; failed = false } ≡ c.args.self.now = ap (λ (b : Bool). record { held = held; failed = b }) (sym c.if-self.false) ∙ c.self.view_is in
    put_failed g.D.Desk.tells c.args.self.now held held (g.D.Desk.state c.args.desk.now) (g.D.Desk.state c.put_all.new.desk) (g.D.Desk.faults c.args.desk.now) (g.D.Desk.faults c.put_all.new.desk)
    is
    (λ tells. subst (λ (xs : List ℕ). (n : ℕ) × (n < length (take w.filled xs)) × (g.D.Desk.state c.put_all.new.desk ≡ written Cert (take n (take w.filled xs)) (g.D.Desk.state c.args.desk.now))) c.deref.ensures.value (c.in-Err.ensures.prefix tells))
    (λ tells plain. subst (λ (xs : List ℕ). CannotPut Cert (length (take w.filled xs)) (g.D.Desk.state c.args.desk.now)) c.deref.ensures.value (c.in-Err.ensures.plain tells plain))
    (omega (arith, length-take-le w.filled w.bytes.items (omega (arith, c.self.invariant.0, c.self.invariant.1)), c.self.invariant.0))
    c.in-Err.ensures.faults.later c.in-Err.ensures.faults.reads (c.in-Err.ensures.faults.rose refl)
