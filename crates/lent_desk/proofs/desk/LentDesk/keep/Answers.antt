use Rattle.std.proofs.Common.{true, codes, ◌∷◌, [], ◌≡◌, ℕ, ◌+◌, ◌-◌, ◌++◌, List, Option, length, take, drop, sym, ap, subst, ◌∙◌, arith}
use Rattle.std.proofs.lemmas.List.{length-take-le}
use Rattle.std.specs.Option.{ForSome, option_map}
use Rattle.desk_io.specs.State.{appended}
use Rattle.lent_desk.specs.declared.spans.Span.{Span}
use Rattle.lent_desk.specs.declared.spans.Spans.{Spans}
use Rattle.lent_desk.specs.declared.spans.Open.{Open}
use Rattle.lent_desk.specs.Files.{name_of}
use Rattle.lent_desk.specs.Spans.{Fits, with_span, FitAll, IsOpen, files_in}
use Rattle.lent_desk.specs.Left.{FitsLeft, all_rest_in}
use Rattle.lent_desk.specs.LentDesk.{kept_in, mark_of}
use Rattle.lent_desk.proofs.Parts.{fit_all_with, is_open_with, more_left}
use Rattle.lent_desk.proofs.Steps.{files_kept, left_kept, end_stays}
use Rattle.lent_desk.proofs.desk.LentDesk.keep.Goals as goal

pub invariant_of-self : goal.invariant_of-self
invariant_of-self c =
    let d = c.args.self.now in
    let o = c.args.opened in
    let more = d.kept + length c.args.bytes.now in
    let span : Span = record { from = o.from; to = more } in
    let below : Fits d.kept (record { from = o.from; to = d.kept }) = d.spans_fit o.file (record { from = o.from; to = d.kept }) (d.is_open o c.requires.opened) in
    record {
      fits = omega (arith, c.requires.fits, c.put_at.ensures.len, d.fits);
      spans_fit = subst (FitAll more) (sym c.set.ensures) (fit_all_with o.file span d.spans d.kept more (omega (arith, below), omega arith) (omega arith) d.spans_fit);
      left_fits = more_left d.left d.kept more (omega arith) d.left_fits;
      is_open = subst (λ (s : Spans). ForSome d.created (IsOpen more s)) (sym c.set.ensures) (subst (λ (it : Option Open). ForSome it (IsOpen more (with_span o.file span d.spans))) (sym c.requires.opened) (is_open_with o more d.spans));
    }

pub returns-clause-kept : goal.returns-clause-kept
returns-clause-kept c =
    let d = c.args.self.now in
    let o = c.args.opened in
    let bytes = c.args.bytes.now in
    let kept = kept_in d in
    let size : length kept ≡ d.kept = length-take-le d.kept d.room.now (omega (arith, d.fits)) in
    let opened : IsOpen d.kept d.spans o = d.is_open o c.requires.opened in
    let below : Fits d.kept (record { from = o.from; to = d.kept }) = d.spans_fit o.file (record { from = o.from; to = d.kept }) opened in
    let files = ap (λ (s : Spans). files_in d.lent s (take (d.kept + length bytes) c.put_at.new.buf)) c.set.ensures
    ∙ ap (λ (l : List ℕ). files_in d.lent (with_span o.file (record { from = o.from; to = d.kept + length bytes }) d.spans) l) c.put_at.ensures.front
    ∙ files_kept d.lent d.spans kept bytes o (d.kept + length bytes) (subst (λ n. FitAll n d.spans) (sym size) d.spans_fit) (subst (λ n. IsOpen n d.spans o) (sym size) opened) (omega (arith, size, below)) (omega (arith, size))
    ∙ ap (λ (it : Option Open). appended (option_map (λ (x : Open). name_of x.file) it) bytes (files_in d.lent d.spans kept)) (sym c.requires.opened) in
    let left = ap (all_rest_in d.left) c.put_at.ensures.front ∙ left_kept d.left kept bytes (subst (λ n. FitsLeft n d.left) (sym size) d.left_fits) in
    let len = c.put_at.ensures.len in
    let out : drop (length c.put_at.new.buf - d.said) c.put_at.new.buf ≡ drop (length d.room.now - d.said) d.room.now =
    ap (λ n. drop (n - d.said) c.put_at.new.buf) len ∙ end_stays (d.kept + length bytes) (length d.room.now - d.said) d.room.now c.put_at.new.buf (omega (arith, c.requires.fits, d.fits)) c.put_at.ensures.rest in
    let room : length c.put_at.new.buf - (d.kept + length bytes + d.said) ≡ length d.room.now - (d.kept + d.said) - length bytes = omega (arith, len) in
    λ i. record {
      files = files i;
      may_create = codes "made" ∷ [];
      left = left i;
      out = mark_of d.room ++ out i;
      created = option_map (λ (x : Open). name_of x.file) d.created;
      room = room i;
      plain = true;
    }
