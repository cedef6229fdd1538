use Rattle.std.proofs.Common.{◌≡◌, [], true, false, is_some, Some, None, Err, inr, refl, ap, ◌∙◌, rules}
use Rattle.json.specs.Json.{value}
use Rattle.json.specs.Lex.{tokens}
use Rattle.json.specs.Value.{value_view}
use Rattle.node_json.specs.Tree.{is_in_range}
use Rattle.node_json.proofs.Trees.{read-none, read-more, read-in_range, read-out_of_range}
use Rattle.node_json.proofs.tree.read_text.Goals as goal
use Rattle.node_json.proofs.tree.read_text.Goals.{then-is_some-via-then-is_some, then-is_some-via-else-is_some+then-not-in_range}

pub returns-then-is_some-clause-err : goal.returns-then-is_some-clause-err
returns-then-is_some-clause-err c =
    let j = value_view c.in-Ok-read.tree in
    let all : value 127 (tokens c.args.text.now) ≡ Some (j, c.read.new.reader) = rw c.in-Ok.ensures.ok at c.in-Ok-read.ensures.ok in
    elim c.then-is_some.branch [
      | then-is_some-via-then-is_some w ↦
          let more : is_some c.next.result ≡ true = search rules in
          inr (refl, read-more c.args.text.now j c.read.new.reader c.next.new.self c.next.result all c.next.ensures.value more)
      | then-is_some-via-else-is_some+then-not-in_range w ↦
          let none : c.read.new.reader ≡ [] = search rules in
          let out : is_in_range j ≡ false = search rules in
          inr (refl, read-out_of_range c.args.text.now j (rw none at all) out)
    ]

pub returns-clause-ok : goal.returns-clause-ok
returns-clause-ok c =
    let j = value_view c.in-Ok-read.tree in
    let none : c.read.new.reader ≡ [] = search rules in
    let all : value 127 (tokens c.args.text.now) ≡ Some (j, []) = rw (c.in-Ok.ensures.ok, none) at c.in-Ok-read.ensures.ok in
    let within : is_in_range j ≡ true = search rules in
    read-in_range c.args.text.now j all within

pub returns-in-Err-Invalid-clause-err : goal.returns-in-Err-Invalid-clause-err
returns-in-Err-Invalid-clause-err c =
    let none : value 127 c.in-Ok.reader ≡ None = c.read.ensures.invalid (c.in-Err-Invalid.is ∙ ap Err c.in-Err-Invalid.field-0-is) in
    inr (refl, read-none c.args.text.now (rw c.in-Ok.ensures.ok at none))
