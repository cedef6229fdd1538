use Rattle.std.proofs.Common.{◌≡◌, ◌∙◌, ap, Err, Ok, inl, inr, map, rules, string_bytes, sym}
use Rattle.std.proofs.lemmas.Result.{IfOk-weaker}
use Rattle.clap.specs.Words.{found_of, rows_of}
use Rattle.cli_words.specs.Words.{order_in}
use Rattle.cli_words.proofs.WordsLemmas.{order_by-refused, order_by-taken, path_checked-same, path_checked-other}
use Rattle.cli_words.proofs.command_order.Goals as goal

pub returns-in_err-matches-clause-err : goal.returns-in_err-matches-clause-err
returns-in_err-matches-clause-err c =
    let handed_on : c.from_residual.result ≡ Err c.in_err-matches.field-0.0 = search rules in
    rw handed_on (elim c.in_err-matches.ensures.err [
      | inl memory ↦ inl memory
      | inr words ↦ inr (rw words.0 (order_by-refused c.args.command (map string_bytes c.args.words.now) words.1))
    ])

pub returns-in_default-clause-err : goal.returns-in_default-clause-err
returns-in_default-clause-err c =
    inr (order_by-taken c.args.command (map string_bytes c.args.words.now) (rows_of (found_of c.in_ok-matches.matches)) c.in_ok-matches.ensures.taken c.in_ok-matches.ensures.rows
    ∙ c.numbers_of.ensures.none c.in_default.is)

pub returns-then-has_same_path-clause-err : goal.returns-then-has_same_path-clause-err
returns-then-has_same_path-clause-err c =
    inr (order_by-taken c.args.command (map string_bytes c.args.words.now) (rows_of (found_of c.in_ok-matches.matches)) c.in_ok-matches.ensures.taken c.in_ok-matches.ensures.rows
    ∙ (c.in-Some.ensures.some
    ∙ path_checked-same (order_in c.args.command c.in-Some.numbers.budget c.in-Some.numbers.trial c.in-Some.numbers.formula (rows_of (found_of c.in_ok-matches.matches))) (sym (c.if-has_same_path.ensures c.in-Some.numbers.budget c.in-Some.numbers.trial c.in-Some.numbers.formula))))

pub returns-clause-ok : goal.returns-clause-ok
returns-clause-ok c = IfOk-weaker c.order_from.result _ _ (λ o texts.
    order_by-taken c.args.command (map string_bytes c.args.words.now) (rows_of (found_of c.in_ok-matches.matches)) c.in_ok-matches.ensures.taken c.in_ok-matches.ensures.rows
    ∙ (c.in-Some.ensures.some
    ∙ (path_checked-other (order_in c.args.command c.in-Some.numbers.budget c.in-Some.numbers.trial c.in-Some.numbers.formula (rows_of (found_of c.in_ok-matches.matches))) (sym (c.if-has_same_path.ensures c.in-Some.numbers.budget c.in-Some.numbers.trial c.in-Some.numbers.formula))
    ∙ ap Ok (sym texts)))) c.order_from.ensures.texts
