use Rattle.quorum_set.specs.Findings.{findings_of}
use Rattle.quorum_set.proofs.QuorumSet.findings.Goals as goal

pub returns : goal.returns
unfolding findings_of
returns c = record {
  ok = rw c.new-path.ensures.items at c.find_at.ensures.ok;
  err = rw c.new-path.ensures.items at c.find_at.ensures.err;
}
