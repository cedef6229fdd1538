use Rattle.lrat_checker.proofs.TrailLaws.{apart_by_places}
use Rattle.lrat_checker.proofs.hint.undo_to.Goals as goal

pub back_to-requires-clause-apart : goal.back_to-requires-clause-apart
back_to-requires-clause-apart c = apart_by_places c.args.assignment.now.trues c.places.result.now c.places.ensures.placed
