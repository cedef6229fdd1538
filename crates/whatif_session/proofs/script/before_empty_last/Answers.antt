use Rattle.std.proofs.Common.{sym, ◌∙◌}
use Rattle.whatif_session.proofs.LineLaws.{last_none, last_empty, last_full}
use Rattle.whatif_session.proofs.script.before_empty_last.Goals as goal

pub returns-in_default : goal.returns-in_default
returns-in_default c = last_none c.args.parts.now c.in_default.ensures.cases

pub returns-then-is_empty : goal.returns-then-is_empty
returns-then-is_empty c = last_empty c.args.parts.now c.in-Some.rest.now c.in-Some.last.now c.in-Some.ensures.cases.0 (sym c.is_empty.ensures ∙ c.if-is_empty.true)

pub returns : goal.returns
returns c = last_full c.args.parts.now c.in-Some.rest.now c.in-Some.last.now c.in-Some.ensures.cases.0 (sym c.is_empty.ensures ∙ c.if-is_empty.false)
