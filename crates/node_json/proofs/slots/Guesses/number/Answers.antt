use Rattle.std.proofs.Common.{ℕ, Option, unwrap_or, ap, ◌∙◌}
use Rattle.fbas_model.specs.Names.{place_of}
use Rattle.node_json.proofs.slots.Guesses.number.Goals as goal

pub returns-then-guess-number : goal.returns-then-guess-number
returns-then-guess-number c = c.unwrap_or-number.ensures ∙ ap (λ (o : Option ℕ). unwrap_or o 0) (c.find_from.ensures ∙ ap (place_of c.args.names.now) c.as_bytes.ensures.value)

pub returns-else-guess-number : goal.returns-else-guess-number
returns-else-guess-number c = c.unwrap_or-number.ensures ∙ ap (λ (o : Option ℕ). unwrap_or o 0) (c.find_from.ensures ∙ ap (place_of c.args.names.now) c.as_bytes.ensures.value)
