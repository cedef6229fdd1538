use Rattle.std.proofs.Common.{Some, sym, subst, arith}
use Rattle.std.specs.Option.{ForSome}
use Rattle.lent_desk.specs.declared.spans.Span.{Span}
use Rattle.lent_desk.specs.declared.spans.Spans.{Spans}
use Rattle.lent_desk.specs.Spans.{FitAll, IsOpen}
use Rattle.lent_desk.proofs.Parts.{fit_all_with, is_open_with}
use Rattle.lent_desk.proofs.desk.LentDesk.make.Goals as goal

pub invariant_of-self : goal.invariant_of-self
invariant_of-self c =
    let d = c.args.self.now in
    let span : Span = record { from = d.kept; to = d.kept } in
    record {
      fits = d.fits;
      spans_fit = subst (FitAll d.kept) (sym c.set.ensures) (fit_all_with c.args.file span d.spans d.kept d.kept (omega arith, omega arith) (omega arith) d.spans_fit);
      left_fits = d.left_fits;
      is_open = subst (λ (s : Spans). ForSome (Some (record { file = c.args.file; from = d.kept })) (IsOpen d.kept s)) (sym c.set.ensures) (is_open_with (record { file = c.args.file; from = d.kept }) d.kept d.spans);
    }
