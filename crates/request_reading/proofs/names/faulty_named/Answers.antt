use Rattle.std.proofs.Common.{◌∙◌}
use Rattle.cli_words.specs.Order.{order_view}
use Rattle.request_reading.specs.Given.{orgs_among}
use Rattle.request_reading.proofs.Unions.{both_named}
use Rattle.request_reading.proofs.names.faulty_named.Goals as goal

pub returns : goal.returns
returns c = record {
  gives = both_named c.args.system.now (orgs_among c.args.given.now) (order_view c.args.order.now) c.len-n.result c.in_ok-named.named c.in_ok-members.members c.join.new.self c.len-n.ensures.sets c.in_ok-named.ensures.gives c.in_ok-members.ensures.gives c.join.ensures.size c.join.ensures.joined;
  refused = tt;
  fits = c.join.ensures.size ∙ c.in_ok-named.ensures.fits;
}
