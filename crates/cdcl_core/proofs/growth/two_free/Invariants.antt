use Rattle.std.proofs.Common.{take}
use Rattle.cdcl_core.specs.Watches.{IsFoundFree}
use Rattle.cdcl_core.proofs.growth.two_free.Given as goal

abbrev pub invariant-loop-m : goal.invariant-loop-m
invariant-loop-m l = IsFoundFree l.assignment.trues l.clause (take l.m-index l.clause) l.found
