use Rattle.std.proofs.Common.{List, ap, arith, refl, length}
use Rattle.std.specs.Prelude.{◌==◌}
use Rattle.lrat_model.specs.Literal.{Literal}
use Rattle.cdcl_core.specs.declared.search.Search.{Search}
use Rattle.cdcl_core.proofs.Going.{recorded, refuted_both, refuted_spent, spent_nothing}
use Rattle.cdcl_core.proofs.forgetting.refute.Goals as goal

pub returns-in_err-record-clause-spent : goal.returns-in_err-record-clause-spent
returns-in_err-record-clause-spent c = λ left.
    let a = c.args.search.now in
    let did = c.in_err-record.ensures.unchanged in
    spent_nothing a (record a { last = c.record.new.last; clauses = c.record.new.clauses; log = c.record.new.log }) left (record { vars = refl; last = did.2; clauses = did.0; log = did.1 }) c.requires.unrefuted.logging

pub returns-clause-spent : goal.returns-clause-spent
returns-clause-spent c = λ left.
    let a = c.args.search.now in
    let was = c.requires.unrefuted in
    let n : Search = record a { last = c.record.new.last; clauses = c.record.new.clauses; log = c.record.new.log } in
    let made = recorded a n c.deref.result.now c.args.lemma.now.lits.items c.deref-2.result.now c.args.lemma.now.hints.items refl c.in_ok-record.ensures.last c.in_ok-record.ensures.clauses c.in_ok-record.ensures.log c.deref.ensures.value c.deref-2.ensures.value in
    refuted_spent a n c.args.lemma.now.lits.items c.args.lemma.now.hints.items made was.logging.holding a.assignment.trues a.reasons.items c.requires.state c.args.lemma.now.jump c.requires.learnt was.logging was.remembering (λ some. absurd (omega (arith, some, ap (λ (ls : List Literal). length ls) c.requires.empty))) (ap (λ (ls : List Literal). length ls == 0) c.requires.empty) (omega (arith, c.requires.room)) left

pub returns-clause-refuted : goal.returns-clause-refuted
returns-clause-refuted c =
    let a = c.args.search.now in
    let was = c.requires.unrefuted in
    let n : Search = record a { last = c.record.new.last; clauses = c.record.new.clauses; log = c.record.new.log } in
    let made = recorded a n c.deref.result.now c.args.lemma.now.lits.items c.deref-2.result.now c.args.lemma.now.hints.items refl c.in_ok-record.ensures.last c.in_ok-record.ensures.clauses c.in_ok-record.ensures.log c.deref.ensures.value c.deref-2.ensures.value in
    refuted_both a n c.args.lemma.now.lits.items c.args.lemma.now.hints.items made was.logging.holding a.assignment.trues a.reasons.items c.requires.state c.args.lemma.now.jump c.requires.learnt (ap (λ (ls : List Literal). length ls == 0) c.requires.empty) was.still_open
