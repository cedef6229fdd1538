use Rattle.std.proofs.Common.{rules, ◌≡◌, List, ℕ, Bool, true, Option, Some, Ok, ok_or, bytes_eq, sym, ap, ◌∙◌}
use Rattle.cert_lines.specs.Limits.{unless}
use Rattle.cert_lines.specs.Words.{digest_in}
use Rattle.cert_lines.specs.declared.faults.CertError.TheVariants.{BadLine, Digest}
use Rattle.reach_kinds.specs.Bodies.{and_then}
use Rattle.certificate_file.specs.declared.places.Place.TheVariants.{AtFrom}
use Rattle.certificate_file.specs.declared.places.State.TheVariants.{Going}
use Rattle.certificate_file.proofs.taking.digest_line.Goals as goal

pub returns : goal.returns
returns c =
    let d : List ℕ = c.args.digest.now in
    let found : List ℕ = c.in-Some-read_digits.found in
    let is : digest_in c.args.text.now ≡ Some found = c.in-Some.ensures.some ∙ sym c.read_digits.ensures.value ∙ c.in-Some-read_digits.is in
    let same : bytes_eq found d ≡ true = search rules in
    sym (ap (λ (o : Option (List ℕ)). and_then (λ x. unless (Digest x d) (bytes_eq x d) (Ok (Going (AtFrom c.args.version)))) (ok_or o (BadLine c.args.line))) is
    ∙ ap (λ (b : Bool). unless (Digest found d) b (Ok (Going (AtFrom c.args.version)))) same)
