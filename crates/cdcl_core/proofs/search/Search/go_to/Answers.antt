use Rattle.std.proofs.Common.{◌∙◌, Bool, List, ap, length, sym, subst}
use Rattle.std.specs.Global.{Vec}
use Rattle.cardinality_counts.specs.declared.gate.Gate.{Gate}
use Rattle.cdcl_core.proofs.Fronts.{state_cut}
use Rattle.cdcl_core.proofs.GatedLaws.{AreCovered}
use Rattle.cdcl_core.proofs.Grows.{queued_back, variables_apart}
use Rattle.cdcl_core.proofs.search.Search.go_to.Goals as goal

pub back_to-requires-2-clause-apart : goal.back_to-requires-2-clause-apart
back_to-requires-2-clause-apart c =
    let s = c.args.self.now in
    variables_apart c.requires.searching.0 s.assignment.trues s.reasons.items c.requires.searching.1.state.trail

pub returns-clause-searching : goal.returns-clause-searching
returns-clause-searching c = λ held was.
    let s = c.args.self.now in
    record {
      vars = c.back_to-2.ensures.vars ∙ was.vars;
      guide = record { ordered = c.leave.ensures.order ∙ was.guide.ordered; marked = ap (λ (marks : List Bool). length marks) c.leave.ensures.marks ∙ was.guide.marked };
      state = rw (c.back_to-2.ensures.trues, c.truncate.ensures.items) (state_cut s.vars held s.assignment.trues s.reasons.items was.state c.args.jump);
      lists = was.lists;
      watched = was.watched;
      queued = rw (c.back_to-2.ensures.trues, c.truncate.ensures.items) (queued_back held s.pairs.items s.assignment.trues s.reasons.items s.head was.queued c.args.jump c.requires.within c.requires.decision);
      gated = record {
        counting = rw (c.back_to-2.ensures.trues, ← c.trail.ensures) c.back_to.ensures.counting;
        vars = c.back_to.ensures.vars ∙ was.gated.vars;
        covered = subst (λ (gs : Vec Gate). AreCovered gs.items held s.pairs.items) (sym c.back_to.ensures.gates) was.gated.covered;
      };
    }
