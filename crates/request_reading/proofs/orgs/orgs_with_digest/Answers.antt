use Rattle.request_reading.proofs.Readings.{are_orgs}
use Rattle.request_reading.proofs.orgs.orgs_with_digest.Goals as goal

pub returns-clause-read : goal.returns-clause-read
returns-clause-read c = are_orgs c.args.system.now c.args.bytes.now c.digest-digest.result c.in_ok-orgs.orgs c.in_ok-orgs.ensures.gives c.look.ensures.long c.look.ensures.bytes
