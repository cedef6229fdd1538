-- Which version of the formula a number of the command line means.
use Rattle.std.specs.Prelude.{ℕ, ◌==◌, if◌then◌else◌}
use Rattle.cli_words.specs.declared.formula.TheConstants.{OLDEST_FORMULA}
use Rattle.clause_encoder.specs.declared.version.Version.{Version}
use Rattle.clause_encoder.specs.declared.version.Version.TheVariants.{Two, Three}

-- the version by its number, of those that can be asked for
abbrev pub version_of : ℕ → Version
version_of number = if number == OLDEST_FORMULA then Two else Three
