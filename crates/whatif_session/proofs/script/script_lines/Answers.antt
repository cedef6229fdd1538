use Rattle.std.proofs.Common.{ap, ◌∙◌}
use Rattle.std.proofs.lemmas.Result.{IfOk-weaker}
use Rattle.whatif_session.specs.EditView.{texts}
use Rattle.whatif_session.specs.Scripts.{without_empty_last}
use Rattle.whatif_session.proofs.LineLaws.{lines_by_parts}
use Rattle.whatif_session.proofs.script.script_lines.Goals as goal

pub returns : goal.returns
returns c =
    IfOk-weaker c.from_slice.result _ _ (λ lines is.
    ap texts is ∙ c.before_empty_last.ensures ∙ ap without_empty_last (ap texts c.deref.ensures.value ∙ c.in_ok-pieces.ensures) ∙ lines_by_parts c.args.script.now) c.from_slice.ensures.items
