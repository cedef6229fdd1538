use Rattle.request_reading.proofs.Cuts.{faulty_of_whole}
use Rattle.std.proofs.Common.{◌∙◌, sym, ap}
use Rattle.cert_writer.specs.Promises.{part_of}
use Rattle.command_run.proofs.Over.{wanting_ends}
use Rattle.command_run.proofs.searching.search.Goals as goal

pub search_in-requires : goal.search_in-requires
search_in-requires g c =
    let s = c.args.search.now in
    let none = c.in_default.is in
    record {
      fits = c.requires;
      part_is = ap (part_of s.whole) (sym none);
      deleted_are = faulty_of_whole s.whole s.header none (c.requires.header.faulty ∙ (sym c.len.ensures.names ∙ c.len.ensures.sets));
      same_n = c.requires.header.faulty ∙ (sym c.len.ensures.names ∙ c.len.ensures.sets);
    }

pub returns-in-Err : goal.returns-in-Err
returns-in-Err g c = wanting_ends g.D.Desk.tells c.args.search.now (g.D.Desk.state c.args.desk.now) (g.D.Desk.faults c.args.desk.now)
