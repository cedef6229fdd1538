use Rattle.request_reading.proofs.Unions.{is_union}
use Rattle.request_reading.proofs.searches.joined.Goals as goal

pub returns-clause-value : goal.returns-clause-value
returns-clause-value c = is_union c.args.first c.args.second.now c.join.new.self c.join.ensures.size c.join.ensures.joined
