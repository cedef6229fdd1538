use Rattle.std.proofs.Common.{◌≡◌, ◌<◌, ◌∙◌, ℕ, IfSome, length, sym, subst}
use Rattle.fbas_model.specs.Nodes.{Table}
use Rattle.witness_pair.specs.Making.{shared}
use Rattle.certificate_file.specs.Meaning.{part_from}
use Rattle.request_reading.proofs.Cuts.{cut_inside}
use Rattle.request_reading.proofs.searches.header_with.Goals as goal

pub returns-clause-fits : goal.returns-clause-fits
returns-clause-fits c =
    let f = c.args.system.now in
    let same : length f.sets ≡ length f.names = sym c.len.ensures.sets ∙ c.len.ensures.names in
    record {
      node = subst (λ (n : ℕ). IfSome c.args.from (λ v. v < n)) same c.requires.node;
      faulty = c.cut_within-faulty.ensures.places ∙ same;
      cut = subst (λ (t : Table). shared t (part_from f c.args.from) ≡ t) (sym c.cut_within-faulty.ensures.cut) (cut_inside f c.args.from c.args.named c.requires.same_n);
    }
