use Rattle.std.proofs.Common.{◌≡◌, ◌-◌, true, codes, ◌∷◌, [], ◌++◌, None, length, take, drop, sym, ap, subst, ◌∙◌, arith}
use Rattle.std.proofs.lemmas.List.{drop_all}
use Rattle.lent_desk.specs.declared.spans.Spans.{Spans}
use Rattle.lent_desk.specs.Spans.{FitAll, files_in}
use Rattle.lent_desk.specs.LentDesk.{mark_of}
use Rattle.lent_desk.proofs.Steps.{files_lent, none_fit}
use Rattle.lent_desk.proofs.desk.LentDesk.new.Goals as goal

pub invariant_of-result : goal.invariant_of-result
invariant_of-result c = record {
  fits = omega arith;
  spans_fit = subst (FitAll 0) (sym c.none.ensures) (none_fit 0);
  left_fits = c.none-2.ensures.fits 0;
  is_open = λ x is. absurd (cc is);
}

pub returns-clause-state : goal.returns-clause-state
returns-clause-state c =
    let room = c.args.room.now in
    let kept = take 0 room in
    let files = ap (λ (s : Spans). files_in c.args.lent s kept) c.none.ensures ∙ files_lent c.args.lent kept in
    let left = c.none-2.ensures.none kept in
    let all : length room - 0 ≡ length room = omega arith in
    let said : drop (length room - 0) room ≡ [] = drop_all (length room - 0) room (omega arith) in
    λ i. record {
      files = files i;
      may_create = codes "made" ∷ [];
      left = left i;
      out = mark_of c.args.room ++ said i;
      created = None;
      room = all i;
      plain = true;
    }
