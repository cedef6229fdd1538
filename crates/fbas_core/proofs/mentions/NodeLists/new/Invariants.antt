use Rattle.std.proofs.Common.{◌≡◌, ℕ, length, [], get_or}
use Rattle.std.specs.Prelude.{map}
use Rattle.std.specs.Global.{Vec}
use Rattle.fbas_core.proofs.mentions.NodeLists.new.Given as goal

abbrev pub invariant-loop-v : goal.invariant-loop-v
invariant-loop-v l = record {
  long : length l.lists.items ≡ l._v;
  empty : (i : ℕ) → get_or (map (λ (v : Vec ℕ). v.items) l.lists.items) i [] ≡ [];
}
