use Rattle.std.proofs.Common.{◌≡◌, ℕ, List, ◌++◌, take, length, ap, sym, ◌∙◌, arith, length-append}
use Rattle.std.proofs.lemmas.List.{length-take-le}
use Rattle.desk_io.specs.State.{left_of}
use Rattle.desk_io.proofs.Reading.{rest_more, rest_kept, front_more, taken_kept, longer_by}
use Rattle.desk_io.proofs.whole.read_all.Goals as goal

pub returns-in_err-count-clause-rest : goal.returns-in_err-count-clause-rest
returns-in_err-count-clause-rest g c = λ tells. rest_kept c.args.which (g.D.Desk.state c.args.desk.now) (g.D.Desk.state c.loop-bytes.desk) (g.D.Desk.state c.next.new.self) (c.loop-bytes.invariant.rest tells) (c.in_err-count.ensures.failed tells)

pub returns-in_err-count-clause-taken : goal.returns-in_err-count-clause-taken
returns-in_err-count-clause-taken g c = λ tells. taken_kept c.args.which (g.D.Desk.state c.args.desk.now) (g.D.Desk.state c.loop-bytes.desk) (g.D.Desk.state c.next.new.self) c.loop-bytes.bytes.items c.args.limit (c.loop-bytes.invariant.front tells) (c.in_err-count.ensures.failed tells) c.loop-bytes.invariant.fits

pub returns-then-count-eq0-clause-rest : goal.returns-then-count-eq0-clause-rest
returns-then-count-eq0-clause-rest g c = λ tells. rest_more c.args.which (g.D.Desk.state c.args.desk.now) (g.D.Desk.state c.loop-bytes.desk) (g.D.Desk.state c.next.new.self) (c.loop-bytes.invariant.rest tells) (c.in_ok-count.ensures.taken tells).rest

pub returns-then-count-limit-clause-rest : goal.returns-then-count-limit-clause-rest
returns-then-count-limit-clause-rest g c = λ tells. rest_more c.args.which (g.D.Desk.state c.args.desk.now) (g.D.Desk.state c.loop-bytes.desk) (g.D.Desk.state c.next.new.self) (c.loop-bytes.invariant.rest tells) (c.in_ok-count.ensures.taken tells).rest

pub returns-in_err-extend_from_slice-clause-rest : goal.returns-in_err-extend_from_slice-clause-rest
returns-in_err-extend_from_slice-clause-rest g c = λ tells. rest_more c.args.which (g.D.Desk.state c.args.desk.now) (g.D.Desk.state c.loop-bytes.desk) (g.D.Desk.state c.next.new.self) (c.loop-bytes.invariant.rest tells) (c.in_ok-count.ensures.taken tells).rest

pub returns-then-count-limit-clause-longer : goal.returns-then-count-limit-clause-longer
returns-then-count-limit-clause-longer g c = λ _ tells.
    let count = c.in_ok-count.count in
    let piece = take count c.next.new.buf in
    let size : length piece ≡ count = length-take-le count c.next.new.buf c.in_ok-count.ensures.bound in
    longer_by (left_of c.args.which (g.D.Desk.state c.args.desk.now)) c.loop-bytes.bytes.items piece (left_of c.args.which (g.D.Desk.state c.loop-bytes.desk)) (left_of c.args.which (g.D.Desk.state c.next.new.self)) c.args.limit (c.loop-bytes.invariant.front tells) (c.in_ok-count.ensures.taken tells).front (omega (arith, size, c.if-count-limit.true, c.loop-bytes.invariant.fits))

pub loop-bytes-preserved : goal.loop-bytes-preserved
loop-bytes-preserved g c =
    let count = c.in_ok-count.count in
    let piece = take count c.next.new.buf in
    let size : length piece ≡ count = length-take-le count c.next.new.buf c.in_ok-count.ensures.bound in
    let grown : c.extend_from_slice.new.self.items ≡ c.loop-bytes.bytes.items ++ piece = c.in_ok-extend_from_slice.ensures.items in
    record {
      fits = omega (arith, ap length grown, length-append c.loop-bytes.bytes.items piece, size, c.if-count-limit.false, c.loop-bytes.invariant.fits);
      front = λ tells. front_more (left_of c.args.which (g.D.Desk.state c.args.desk.now)) c.loop-bytes.bytes.items piece (left_of c.args.which (g.D.Desk.state c.loop-bytes.desk)) (left_of c.args.which (g.D.Desk.state c.next.new.self)) (c.loop-bytes.invariant.front tells) (c.in_ok-count.ensures.taken tells).front
          ∙ ap (λ (xs : List ℕ). xs ++ left_of c.args.which (g.D.Desk.state c.next.new.self)) (sym grown);
      rest = λ tells. rest_more c.args.which (g.D.Desk.state c.args.desk.now) (g.D.Desk.state c.loop-bytes.desk) (g.D.Desk.state c.next.new.self) (c.loop-bytes.invariant.rest tells) (c.in_ok-count.ensures.taken tells).rest;
      writes = c.in_ok-count.ensures.cause.writes ∙ c.loop-bytes.invariant.writes;
      reads = c.in_ok-count.ensures.cause.ok ∙ c.loop-bytes.invariant.reads;
    }
