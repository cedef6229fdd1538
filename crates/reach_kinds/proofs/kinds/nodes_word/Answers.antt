use Rattle.std.proofs.Common.{refl}
use Rattle.reach_kinds.proofs.kinds.nodes_word.Goals as goal

pub returns-in-Blocking-Partial : goal.returns-in-Blocking-Partial
returns-in-Blocking-Partial c = rw (c.in-Blocking-Partial.is-0, c.in-Blocking-Partial.is-1) refl

pub returns-in-Quorum-Partial : goal.returns-in-Quorum-Partial
returns-in-Quorum-Partial c = rw (c.in-Quorum-Partial.is-0, c.in-Quorum-Partial.is-1) refl

pub returns-in-Smaller-Whole : goal.returns-in-Smaller-Whole
returns-in-Smaller-Whole c = rw (c.in-Smaller-Whole.is-0, c.in-Smaller-Whole.is-1) refl

pub returns-in-Smaller-Partial : goal.returns-in-Smaller-Partial
returns-in-Smaller-Partial c = rw (c.in-Smaller-Partial.is-0, c.in-Smaller-Partial.is-1) refl
