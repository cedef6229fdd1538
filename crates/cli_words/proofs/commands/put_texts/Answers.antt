use Rattle.std.proofs.Common.{◌∙◌, ap}
use Rattle.std.proofs.lemmas.Result.{on_ok_weaker}
use Rattle.clap.specs.Words.{Text, found_of, rows_of}
use Rattle.cli_words.specs.Words.{text_of}
use Rattle.cli_words.proofs.WordsLemmas.{order_by_texts}
use Rattle.cli_words.proofs.commands.put_texts.Goals as goal

pub returns : goal.returns
returns c = on_ok_weaker c.put_if_any-6.result (λ set. order_by_texts c.args.order.now.command c.args.order.now.budget c.args.order.now.trial c.args.order.now.formula (rows_of (found_of c.args.matches.now))
    (c.in_ok-put_text.ensures ∙ ap (λ (id : Text). text_of id (rows_of (found_of c.args.matches.now))) c.id.ensures)
    (c.in_ok-put_text-2.ensures ∙ ap (λ (id : Text). text_of id (rows_of (found_of c.args.matches.now))) c.id-2.ensures)
    (c.in_ok-put_text-3.ensures ∙ ap (λ (id : Text). text_of id (rows_of (found_of c.args.matches.now))) c.id-3.ensures)
    c.in_ok-put_if_any.ensures
    c.in_ok-put_if_any-2.ensures
    c.in_ok-put_if_any-3.ensures
    c.in_ok-put_if_any-4.ensures
    c.in_ok-put_if_any-5.ensures
    set) c.put_if_any-6.ensures
