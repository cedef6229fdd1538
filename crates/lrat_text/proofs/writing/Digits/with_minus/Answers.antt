use Rattle.std.proofs.Common.{rules, arith, length, ◌≡◌, ◌≤◌, drop}
use Rattle.lrat_text.proofs.DigitLaws.{room, minus_set}
use Rattle.lrat_text.proofs.writing.Digits.with_minus.Goals as goal

pub bounds-self-inside-self-inside : goal.bounds-self-inside-self-inside
bounds-self-inside-self-inside c = let i : c.self.inside.at ≤ 21 = c.self.invariant in omega arith

pub returns : goal.returns
returns c =
    let i : c.self.inside.at ≤ 21 = c.self.invariant in
    let l : length c.self.inside.bytes ≡ 21 = search rules in
    let v : drop c.self.inside.at c.self.inside.bytes ≡ c.args.self = c.self.view_is in
    let s : length (drop c.self.inside.at c.self.inside.bytes) ≤ 20 = rw v c.requires in
    minus_set c.self.inside.bytes c.args.self c.self.inside.at l (room c.self.inside.bytes c.self.inside.at l s i) i v
