use Rattle.std.proofs.Common.{◌≡◌, ◌++◌, take}
use Rattle.lent_desk.proofs.heard.Heard.hear.Given as goal

abbrev pub invariant-loop-byte : goal.invariant-loop-byte
invariant-loop-byte l = l.self.bytes ≡ l.fn.self.bytes ++ take l.byte-index l.bytes
