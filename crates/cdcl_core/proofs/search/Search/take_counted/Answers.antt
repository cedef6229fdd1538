use Rattle.std.proofs.Common.{◌≡◌, ◌∙◌, List, refl, sym, subst}
use Rattle.std.proofs.lemmas.Bool.{true≢false}
use Rattle.lrat_model.specs.Literal.{Literal}
use Rattle.cardinality_counts.specs.Counts.{IsCounting}
use Rattle.cdcl_core.specs.declared.gated.Taken.TheVariants.{Nothing}
use Rattle.cdcl_core.specs.Watches.{AreKept}
use Rattle.cdcl_core.proofs.Counted.{gated_fixpoint, searching_gates}
use Rattle.cdcl_core.proofs.search.Search.take_counted.Goals.{then-ne-via-then-ne, then-ne-via-else-ne+then-are_quiet}
use Rattle.cdcl_core.proofs.search.Search.take_counted.Goals as goal

pub take_guessed-requires-clause-searching : goal.take_guessed-requires-clause-searching
take_guessed-requires-clause-searching c =
    let s = c.args.self.now in
    let did = c.in_ok-count.ensures in
    searching_gates s.clauses s c.count.new.self c.requires.searching (subst (λ (ls : List Literal). IsCounting c.count.new.self ls) c.trail.ensures did.counting) did.gates did.vars

pub returns-then-ne-clause-nothing : goal.returns-then-ne-clause-nothing
returns-then-ne-clause-nothing c = λ is.
    let s = c.args.self.now in
    let new = c.take_guessed.new.self in
    let did = c.in_ok-taken.ensures in
    let taken : c.in_ok-taken.taken ≡ Nothing = cc is in
    elim c.then-ne.branch [
      | then-ne-via-then-ne w ↦ absurd (true≢false (sym w.if-ne.true ∙ c.ne.ensures ∙ rw taken refl))
      | then-ne-via-else-ne+then-are_quiet w ↦
          let same = did.nothing is in
          let kept : AreKept new.clauses new.pairs.items new.assignment.trues new.assignment.trues = rw (did.same.clauses, same.0, same.1) c.requires.kept in
          (gated_fixpoint new did.searching kept (w.are_quiet.ensures w.if-are_quiet.true), kept)
    ]
