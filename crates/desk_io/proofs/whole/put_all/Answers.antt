use Rattle.std.proofs.Common.{◌≡◌, ◌-◌, take, drop, length, ap, ◌∙◌, sym, arith, length-drop}
use Rattle.std.proofs.lemmas.List.{take_all, length-take-le}
use Rattle.std.proofs.Math.Seq.{take-add}
use Rattle.desk_io.specs.State.{DeskState, written}
use Rattle.desk_io.proofs.Written.{written-append, written-room}
use Rattle.desk_io.proofs.whole.put_all.Goals as goal

pub loop-at-preserved : goal.loop-at-preserved
loop-at-preserved g c =
    let at = c.loop-at.at in
    let n = c.in_ok-at.field-0 in
    let bytes = c.args.bytes.now in
    let rest : take (length bytes - at) (drop at bytes) ≡ drop at bytes = take_all (length bytes - at) (drop at bytes) (omega (arith, length-drop at bytes)) in
    record {
      within = omega (arith, ap length rest, length-drop at bytes, c.in_ok-at.ensures.bound, c.loop-at.invariant.within);
      fits = λ tells. let room = ap (λ (s : DeskState). s.room) (c.loop-at.invariant.state tells) ∙ written-room c.args.to (take at bytes) (g.D.Desk.state c.args.desk.now) in
          omega (arith, room, length-take-le at bytes c.loop-at.invariant.within, c.in_ok-at.ensures.fits tells, c.loop-at.invariant.fits tells);
      state = λ tells.
          c.in_ok-at.ensures.written tells
          ∙ ap (λ xs. written c.args.to (take n xs) (g.D.Desk.state c.loop-at.desk)) rest
          ∙ ap (λ s. written c.args.to (take n (drop at bytes)) s) (c.loop-at.invariant.state tells)
          ∙ written-append c.args.to (take at bytes) (take n (drop at bytes)) (g.D.Desk.state c.args.desk.now)
          ∙ ap (λ xs. written c.args.to xs (g.D.Desk.state c.args.desk.now)) (sym (take-add at n bytes));
      writes = c.in_ok-at.ensures.cause.ok ∙ c.loop-at.invariant.writes;
      reads = c.in_ok-at.ensures.cause.reads ∙ c.loop-at.invariant.reads;
    }

pub returns-clause-prefix : goal.returns-clause-prefix
returns-clause-prefix g c = tt

pub returns-clause-plain : goal.returns-clause-plain
returns-clause-plain g c = tt

pub returns-clause-faults : goal.returns-clause-faults
returns-clause-faults g c = record {
  later = omega (arith, c.loop-at.invariant.writes);
  reads = c.loop-at.invariant.reads;
  rose = λ failed. absurd (cc failed);
  none = λ _. c.loop-at.invariant.writes;
}
