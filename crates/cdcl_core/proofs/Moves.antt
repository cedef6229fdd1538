-- A search whose guide is another, or whose trail has a literal more; and the variables of its clauses.
use Rattle.std.proofs.Common.{◌≡◌, ℕ, ◌<◌, ◌^◌, ◌++◌, ◌∷◌, [], ◌∙◌, true, List, length}
use Rattle.std.specs.Global.{Vec}
use Rattle.lrat_model.specs.Literal.{Literal, has}
use Rattle.lrat_model.specs.Clauses.{Held}
use Rattle.assignment_trail.specs.Assigned.{Assigned}
use Rattle.cardinality_counts.proofs.Countings.{counting_more}
use Rattle.cardinality_counts.specs.Counts.{IsCounting}
use Rattle.cdcl_core.specs.declared.guide.Guide.{Guide}
use Rattle.cdcl_core.specs.declared.search.Search.{Search}
use Rattle.cdcl_core.specs.Guides.{IsGuide}
use Rattle.cdcl_core.specs.Search.{IsState}
use Rattle.cdcl_core.specs.Searching.{IsHolding, IsSearching}
use Rattle.cdcl_core.specs.Trail.{IsVariable}
use Rattle.cdcl_core.specs.Watches.{AreKept, IsQueued, id_at, lits_at}
use Rattle.cdcl_core.proofs.Runs.{each_id}
use Rattle.cdcl_core.proofs.Visits.{queued_more}

pub searching_guided : (held : Held) (s : Search) (guide : Guide) → IsGuide s.vars guide → IsSearching held s → IsSearching held (record s { guide = guide })
searching_guided held s guide made was = record {
  vars = was.vars;
  guide = made;
  state = was.state;
  lists = was.lists;
  watched = was.watched;
  queued = was.queued;
  gated = record { counting = was.gated.counting; vars = was.gated.vars; covered = was.gated.covered };
}

-- a literal is made true for this reason, which is 0 if it is decided: then nothing else is forced
pub searching_pushed : (held : Held) (s : Search) (guide : Guide) (assignment : Assigned) (reasons : Vec ℕ) (l : Literal) (id : ℕ)
    → IsSearching held s → IsGuide s.vars guide → assignment.vars ≡ s.assignment.vars → assignment.trues ≡ s.assignment.trues ++ l ∷ [] → reasons.items ≡ s.reasons.items ++ id ∷ []
    → IsState s.vars held (s.assignment.trues ++ l ∷ []) (s.reasons.items ++ id ∷ []) → (id ≡ 0 → AreKept held s.pairs.items s.assignment.trues s.assignment.trues)
    → IsSearching held (record s { guide = guide; assignment = assignment; reasons = reasons })
searching_pushed held s guide assignment reasons l id was made vars trues reasons_are state kept =
    let queued = queued_more held s.pairs.items s.assignment.trues s.reasons.items s.head was.queued was.state.trail.long l id kept in
    record {
      vars = vars ∙ was.vars;
      guide = made;
      state = rw (trues, reasons_are) state;
      lists = was.lists;
      watched = was.watched;
      queued = rw (trues, reasons_are) queued;
      gated = record {
        counting = rw trues (counting_more s.gates s.assignment.trues (l ∷ []) was.gated.counting);
        vars = was.gated.vars;
        covered = was.gated.covered;
      };
    }

-- the variables of the clause at a place
pub clause_variable : (s : Search) → IsHolding s → s.last < 2 ^ 63 → (place : ℕ) → place < length s.clauses → (m : Literal) → has (lits_at s.clauses place) m ≡ true → IsVariable s.vars m
clause_variable s all room place inside m there =
    all.range (id_at s.clauses place) (lits_at s.clauses place) (each_id s.clauses s.last all.rise all.ids room place inside).2 m there
