use Rattle.std.proofs.Common.{Option, Ok, ok_or, sym, ap, ◌∙◌}
use Rattle.clause_encoder.specs.declared.version.Version.{Version}
use Rattle.cert_lines.specs.declared.faults.CertError.TheVariants.{BadLine}
use Rattle.reach_kinds.specs.Bodies.{and_then}
use Rattle.certificate_file.specs.declared.places.Place.TheVariants.{AtDigest}
use Rattle.certificate_file.specs.declared.places.State.TheVariants.{Going}
use Rattle.certificate_file.proofs.taking.title_line.Goals as goal

pub returns : goal.returns
returns c = ap (λ (o : Option Version). and_then (λ version. Ok (Going (AtDigest version))) (ok_or o (BadLine c.args.line))) (sym c.in-Some.is ∙ c.version_in.ensures)
