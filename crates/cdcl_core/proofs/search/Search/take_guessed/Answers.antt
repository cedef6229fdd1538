use Rattle.std.proofs.Common.{◌∙◌, refl, ap, arith, Ok}
use Rattle.cardinality_counts.specs.declared.gates.Gates.{Gates}
use Rattle.cdcl_core.proofs.Counted.{counting_guesses, searching_gates}
use Rattle.cdcl_core.proofs.Same.{same_more}
use Rattle.cdcl_core.proofs.search.Search.take_guessed.Goals.{then-place-len+in_ok-take_at+in-Nothing, then-place-len+in_ok-take_at+in-Forced, else-place-len}
use Rattle.cdcl_core.proofs.search.Search.take_guessed.Goals as goal

pub loop-next-init : goal.loop-next-init
loop-next-init c =
    let s = c.args.self.now in
    let was = c.requires.searching in
    let made = c.guess.ensures in
    record {
      same = record { vars = refl; last = refl; clauses = refl; log = refl; lemmas = refl; deletions = refl };
      searching = searching_gates s.clauses s c.guess.new.self was (counting_guesses s.gates c.guess.new.self s.assignment.trues made was.gated.counting) (ap (λ (g : Gates). g.gates) made) (ap (λ (g : Gates). g.vars) made);
      counted = refl;
      unchanged = λ _. (refl, refl);
      forced = λ is. cc;
      fewer = omega arith;
      unopposed = λ id is. cc;
    }

pub loop-next-preserved : goal.loop-next-preserved
loop-next-preserved c =
    let s = c.loop-next.self in
    let inv = c.loop-next.invariant in
    elim c.if-place-len.branch [
      | then-place-len+in_ok-take_at+in-Nothing w ↦ rw (w.self-is, w.taken-is, (w.in_ok-take_at.ensures.nothing (ap Ok w.in-Nothing.is)).0) inv
      | then-place-len+in_ok-take_at+in-Forced w ↦
          let did = w.in_ok-take_at.ensures in
          rw (w.self-is, w.taken-is) (record {
            same = same_more (record c.args.self.now { gates = c.guess.new.self }) s w.take_at.new.self inv.same did.same;
            searching = did.searching;
            counted = ap (λ (g : Gates). g.counted) did.gates ∙ inv.counted;
            unchanged = λ is. cc;
            forced = λ _. omega (arith, did.forced (ap Ok w.in-Forced.is), inv.fewer);
            fewer = omega (arith, did.fewer, inv.fewer);
            unopposed = λ id is. cc;
          })
      | else-place-len w ↦ rw (w.self-is, w.taken-is) inv
    ]
