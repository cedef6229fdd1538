use Rattle.std.proofs.Common.{◌≡◌, ◌∙◌, ap, inl, inr, map, string_bytes, true}
use Rattle.clap.specs.Words.{App, app_of, is_simple_and_free, matches_of}
use Rattle.clap.proofs.WalkLemmas.{both}
use Rattle.cli_words.specs.Words.{app_for}
use Rattle.cli_words.proofs.WordsLemmas.{is_stated, refused_by, taken_by}
use Rattle.cli_words.proofs.commands.matched.Goals as goal

pub returns-in-Ok-clause-taken : goal.returns-in-Ok-clause-taken
returns-in-Ok-clause-taken c =
    let stated : is_simple_and_free (app_of c.in_ok-arguments_of.field-0) ≡ true = is_stated c.args.command _ c.in_ok-arguments_of.ensures in
    taken_by (app_of c.in_ok-arguments_of.field-0) (app_for c.args.command) (map string_bytes c.args.words.now) c.in_ok-arguments_of.ensures (c.in-Ok.ensures.kinds stated)

pub returns-in-Ok-clause-rows : goal.returns-in-Ok-clause-rows
returns-in-Ok-clause-rows c =
    let stated : is_simple_and_free (app_of c.in_ok-arguments_of.field-0) ≡ true = is_stated c.args.command _ c.in_ok-arguments_of.ensures in
    (c.in-Ok.ensures.matches (both _ _ stated).0).0 ∙ ap (λ (app : App). matches_of app (map string_bytes c.args.words.now)) c.in_ok-arguments_of.ensures

pub returns-in-Err-clause-err : goal.returns-in-Err-clause-err
returns-in-Err-clause-err c =
    let stated : is_simple_and_free (app_of c.in_ok-arguments_of.field-0) ≡ true = is_stated c.args.command _ c.in_ok-arguments_of.ensures in
    elim c.fault.ensures [
      | inl memory ↦ inl memory
      | inr words ↦ inr (words.0, refused_by (app_of c.in_ok-arguments_of.field-0) (app_for c.args.command) (map string_bytes c.args.words.now) c.in-Err.e c.in_ok-arguments_of.ensures (c.in-Err.ensures.kinds stated) words.1)
    ]
