use Rattle.std.proofs.Common.{◌≡◌, ◌∙◌, ℕ, All, Option, IfSome, length, refl, sym, ap, subst}
use Rattle.fbas_model.specs.Systems.{System}
use Rattle.node_json.specs.Groups.{Group, groups_of, tables_of}
use Rattle.group_lists.specs.Outcomes.{GroupOutcomeHolds}
use Rattle.certificate_file.specs.declared.given.GivenOrgs.{GivenOrgs}
use Rattle.cert_writer.specs.Promises.{AreOrgs}
use Rattle.cert_writer.specs.Grouping.{GroupsShow}
use Rattle.request_reading.specs.Given.{AreOver}
use Rattle.command_run.specs.Grouping.{AreGroups}
use Rattle.command_run.specs.Sought.{request}
use Rattle.command_run.proofs.Over.{asked_there}
use Rattle.command_run.proofs.commands.list_blocks.Goals as goal

pub groups_of-requires : goal.groups_of-requires
groups_of-requires c = record { sized = subst (AreOver c.args.over.now.search.now.whole) c.requires.given c.requires.over.fits.orgs.over }

pub list_groups-requires-clause-sized : goal.list_groups-requires-clause-sized
list_groups-requires-clause-sized c =
    subst (λ (n : ℕ). All (λ (group : Group). length group.members ≡ n) c.in_ok-groups.groups) (sym c.len-2.ensures.names ∙ c.len-2.ensures.sets) c.in_ok-groups.ensures.sized

pub returns : goal.returns
returns c =
    let over = c.args.over.now in
    let s = over.search.now in
    let given = c.args.given.now in
    let fits = c.requires.over.fits in
    let groups = c.in_ok-groups.groups in
    let outcome = c.in_ok-outcome.outcome in
    let there = asked_there over (λ f b. GroupsShow f.sets b (tables_of groups) s.budget outcome) c.requires.over (record {
      left = c.list_groups.new.budget;
      holds = subst (λ (units : ℕ). GroupOutcomeHolds over.part.now.sets over.faulty.now (tables_of groups) units c.list_groups.new.budget outcome) c.units_of-units.ensures.units c.in_ok-outcome.ensures.outcome;
      numbers = c.in_ok-outcome.ensures.numbers;
      few_words = c.in_ok-outcome.ensures.few_words;
    }) in
    let groups_are = c.in_ok-groups.ensures.groups ∙ ap (λ (f : System). groups_of s.whole.names f.names given.orgs) c.requires.over.part_is in
    let read : AreOrgs s.whole given = subst (λ (o : Option GivenOrgs). IfSome o (AreOrgs s.whole)) c.requires.given fits.orgs.read in (
      record {
        given = given;
        is_given = c.requires.given;
        digest_is = refl;
        groups_are = groups_are;
        are = subst (λ (f : System). AreGroups f groups) c.requires.over.part_is (record { cover = c.in_ok-groups.ensures.cover; rising = c.in_ok-groups.ensures.rising });
        shows = there;
      },
      (c.what_is_grouped_is_found.ensures.found (request s) given groups outcome c.len.ensures.system c.len.ensures.sorted fits.long fits.bytes fits.header fits.few c.requires.given read groups_are there).accepted,
    )
