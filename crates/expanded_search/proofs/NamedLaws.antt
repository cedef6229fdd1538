-- Ids that are found for hints, one by one.
use Rattle.std.proofs.Common.{◌≡◌, ℕ, List, [], ◌∷◌, ◌++◌, map, sym, subst, pos, ℤ}
use Rattle.std.specs.Prelude.{All}
use Rattle.std.proofs.lemmas.List.{map_push}
use Rattle.std.proofs.lemmas.List.Elements.{All-nil, All-push}
use Rattle.lrat_model.specs.Clauses.{Held}
use Rattle.lrat_text.specs.Texts.{IsId}
use Rattle.cdcl_core.specs.Log.{NamesClause}
use Rattle.expanded_search.specs.Named.{AreNamed}

pub named_none : (held : Held) (ids : List ℕ) → ids ≡ [] → AreNamed held ids
named_none held ids none = subst (λ (is : List ℕ). AreNamed held is) (sym none) (record { named = All-nil (NamesClause held); numbers = All-nil IsId })

pub named_push : (held : Held) (ids : List ℕ) (id : ℕ) → AreNamed held ids → NamesClause held (pos id) → IsId id → AreNamed held (ids ++ id ∷ [])
named_push held ids id are clause number = record {
  named = subst (λ (hints : List ℤ). All (NamesClause held) hints) (sym (map_push {X = ℕ} {Y = ℤ} (λ n. pos n) ids id)) (All-push (NamesClause held) (map pos ids) (pos id) are.named clause);
  numbers = All-push IsId ids id are.numbers number;
}
