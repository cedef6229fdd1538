-- The part of a system that a search is over.
use Rattle.std.specs.Prelude.{◌≡◌, length}
use Rattle.fbas_model.specs.Nodes.{Table}
use Rattle.fbas_model.specs.Systems.{System}
use Rattle.cert_writer.specs.Promises.{part_of, faulty_in}
use Rattle.cert_writer.specs.Finding.{Request}
use Rattle.request_reading.specs.declared.searches.Search.{Search}
use Rattle.request_reading.specs.Searches.{FitsSearch}
use Rattle.command_run.specs.declared.searched.SearchedPart.{SearchedPart}

abbrev pub part : Search → System
part s = part_of s.whole s.header.from

-- the deleted nodes, by their numbers in the part
abbrev pub deleted : Search → Table
deleted s = faulty_in s.whole s.header

-- what is asked for, but for where the certificate goes and what is told of it
abbrev pub request : Search → Request
request s = record { whole = s.whole; digest = s.digest; header = s.header; budget = s.budget; orgs = s.orgs }

-- a search that fits, with the part that it is over and the deleted nodes there
pub record FitsPart (over : SearchedPart) : Type 0 where
  pub fits : FitsSearch over.search.now
  pub part_is : over.part.now ≡ part over.search.now
  pub deleted_are : over.faulty.now ≡ deleted over.search.now
  pub same_n : length over.faulty.now ≡ length over.part.now.sets
