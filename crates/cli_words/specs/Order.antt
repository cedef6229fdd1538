-- The order that a command line gives.
use Rattle.std.specs.Prelude.{ℕ, List, Bool, false, ◌&&◌, ◌||◌, Option, Some, None, option_map, string_bytes}
use Rattle.std.specs.Str.{bytes_eq}
use Rattle.cli_words.specs.declared.orders.Command.{Command}
use Rattle.cli_words.specs.declared.orders.Order.{Order}
use Rattle.cli_words.specs.Table.{has_certificate, has_configuration}

-- a command with its texts: a path that the command does not have is empty, an option that it does not have or that was not given is `None`, a command that does not search has a budget of 0, one that is no trial has no organisations, and one without that option has version 0 of the formula
pub record Ordered : Type 0 where
  pub command : Command
  pub config : List ℕ
  pub cert : List ℕ
  pub script : List ℕ
  pub orgs : Option (List ℕ)
  pub node : Option (List ℕ)
  pub from : Option (List ℕ)
  pub faulty : Option (List ℕ)
  pub faulty_orgs : Option (List ℕ)
  pub set : Option (List ℕ)
  pub budget : ℕ
  pub trial : ℕ
  pub formula : ℕ

-- the order that a Rust value is
abbrev pub order_view : Order → Ordered
order_view o = record {
  command = o.command;
  config = string_bytes o.config;
  cert = string_bytes o.cert;
  script = string_bytes o.script;
  orgs = option_map string_bytes o.orgs;
  node = option_map string_bytes o.node;
  from = option_map string_bytes o.from;
  faulty = option_map string_bytes o.faulty;
  faulty_orgs = option_map string_bytes o.faulty_orgs;
  set = option_map string_bytes o.set;
  budget = o.budget;
  trial = o.trial;
  formula = o.formula;
}

-- whether the path, where there is one, is this one
abbrev pub is_path : Option (List ℕ) → List ℕ → Bool
is_path None path = false
is_path (Some given) path = bytes_eq given path

-- one path stands for both the certificate and the configuration, or the organisations
abbrev pub has_same_path : Ordered → Bool
has_same_path o = has_certificate o.command && has_configuration o.command && (bytes_eq o.config o.cert || is_path o.orgs o.cert)
