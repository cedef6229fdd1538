use Rattle.std.proofs.Common.{sym, ap, ◌∙◌, subst, length, ◌≤◌, ◌<◌}
use Rattle.std.specs.Prelude.{All}
use Rattle.std.specs.List.{AllWithin}
use Rattle.std.proofs.lemmas.List.Elements.{All-drop}
use Rattle.lrat_model.specs.Clauses.{clause_at}
use Rattle.lrat_model.specs.Steps.{Database}
use Rattle.clause_store.specs.Entries.{IsRising}
use Rattle.clause_store.specs.Shown.{held_in}
use Rattle.clause_store.specs.Index.{IsWithin}
use Rattle.clause_store.proofs.EntryLaws.{rising-drop, above-drop}
use Rattle.clause_store.proofs.ArenaLaws.{above_from, none_at_zero}
use Rattle.clause_store.proofs.StoreLaws.{rest_is, first_held}
use Rattle.clause_store.proofs.store.Store.first_above.Goals as goal

pub loop-entry-init : goal.loop-entry-init
loop-entry-init c =
    let inside = c.self.inside in
    let es = inside.entries.items in
    let start = c.place_above-start.result in
    let rest = sym (rest_is es c.deref-2.result.now start c.deref-2.ensures.value) in
    let bound = subst (λ xs. start ≤ length xs) c.deref.ensures.value c.place_above-start.ensures.bound in
    let below = subst (λ xs. AllWithin (λ e. e.id ≤ c.args.id) xs 0 start) c.deref.ensures.value c.place_above-start.ensures.below in
    let above = subst (λ xs. AllWithin (λ e. c.args.id < e.id) xs start (length xs)) c.deref.ensures.value c.place_above-start.ensures.above in
    record {
      alike = λ k high. ap (λ d. clause_at d.held k) (sym c.self.view_is) ∙ above_from inside.arena.items es start c.args.id below bound k high ∙ ap (λ xs. clause_at (held_in inside.arena.items xs) k) rest;
      above = subst (λ xs. All (λ e. c.args.id < e.id) xs) rest (above-drop start c.args.id es above);
      rising = subst (λ xs. IsRising xs) rest (rising-drop start es c.self.invariant.rising);
      within = subst (λ xs. All (IsWithin (length inside.arena.items)) xs) rest (All-drop (IsWithin (length inside.arena.items)) start es c.self.invariant.within);
    }

pub returns-then-entry-clause-some : goal.returns-then-entry-clause-some
returns-then-entry-clause-some c =
    let so_far = c.loop-entry.invariant in
    first_held c.args.self.now.held c.self.inside.arena.items c.deref-then-entry.result.now _ c.loop-entry.entry-index _ c.args.id c.deref-then-entry.ensures.value so_far.rising so_far.above c.loop-entry-test.true so_far.alike c.if-entry.true

pub returns-then-entry-clause-none_at_zero : goal.returns-then-entry-clause-none_at_zero
returns-then-entry-clause-none_at_zero c =
    let inside = c.self.inside in
    ap (λ (d : Database). clause_at d.held 0) (sym c.self.view_is) ∙ none_at_zero inside.arena.items inside.entries.items c.self.invariant.positive

pub returns-clause-none_at_zero : goal.returns-clause-none_at_zero
returns-clause-none_at_zero c =
    let inside = c.self.inside in
    ap (λ (d : Database). clause_at d.held 0) (sym c.self.view_is) ∙ none_at_zero inside.arena.items inside.entries.items c.self.invariant.positive
