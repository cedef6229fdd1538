use Rattle.std.proofs.Common.{◌≡◌, ◌∙◌, None, ap, length, subst, sym}
use Rattle.std.proofs.lemmas.Result.{IfOk-weaker}
use Rattle.fbas_model.specs.Nodes.{Table, members}
use Rattle.certificate_file.specs.declared.places.Header.{Header}
use Rattle.cli_words.specs.declared.orders.Goal.TheVariants.{Trial}
use Rattle.request_reading.specs.Given.{FitsOrgs}
use Rattle.request_reading.specs.Searches.{FitsSearch}
use Rattle.request_reading.proofs.Cuts.{meets_in_whole}
use Rattle.request_reading.proofs.searches.trial_of.Goals as goal

pub returns-clause-fits : goal.returns-clause-fits
returns-clause-fits c =
    let h : Header = c.header_with-header.result in
    let faulty : h.faulty ≡ c.nobody.result = ap (λ (x : Header). x.faulty) c.header_with-header.ensures.value in
    let orgs : FitsOrgs Trial c.args.system None = record { over = tt; read = tt; needed = λ is. cc; only = λ some. absurd cc } in
    IfOk-weaker c.search_with.result _ _ (λ search is. subst FitsSearch (sym is) (record {
      header = c.header_with-header.ensures.fits;
      long = c.search_with.ensures.long;
      bytes = c.search_with.ensures.bytes;
      orgs = orgs;
      few = c.requires.few;
      meets = λ _. meets_in_whole c.args.system h (ap (λ (x : Header). x.from) c.header_with-header.ensures.value) (ap (λ (t : Table). length t) faulty ∙ c.nobody.ensures.places) (ap members faulty ∙ c.nobody.ensures.empty) c.requires.meets;
    })) c.search_with.ensures.value
