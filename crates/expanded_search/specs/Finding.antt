-- What shows what a search found.
use Rattle.std.specs.Prelude.{◌≡◌, ℕ, length}
use Rattle.lrat_model.specs.Steps.{Database}
use Rattle.expanded_search.specs.Found.{IsRefuting, IsSpending}
use Rattle.expanded_search.specs.declared.searching.Found.{Found}
use Rattle.expanded_search.specs.declared.searching.Found.TheVariants.{Refuted, Spent, Told}

abbrev pub IsFound : ℕ → Database → ℕ → Found → Type 0
IsFound vars formula budget (Refuted log) = IsRefuting vars formula budget log
IsFound vars formula budget (Spent log) = IsSpending vars formula budget log
IsFound vars formula budget (Told values) = length values.items ≡ vars
