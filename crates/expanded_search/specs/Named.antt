-- The hints of a lemma.
use Rattle.std.specs.Prelude.{ℕ, List, All, map, pos}
use Rattle.lrat_model.specs.Clauses.{Held}
use Rattle.lrat_text.specs.Texts.{IsId}
use Rattle.cdcl_core.specs.Log.{NamesClause}

-- each id is that of a clause held, and in range
pub record AreNamed (held : Held) (ids : List ℕ) : Type 0 where
  pub named : All (NamesClause held) (map pos ids)
  pub numbers : All IsId ids
