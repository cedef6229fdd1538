use Rattle.std.proofs.Common.{◌<◌, true, false, ap, ◌∙◌, length, arith}
use Rattle.std.proofs.lemmas.List.{length-set}
use Rattle.clause_store.specs.declared.index.Entry.{Entry}
use Rattle.clause_store.proofs.MovingLaws.{entry_within, free_below, left_more, room_more, entries_passed, literals_passed, entries_moved, entries_behind, length_moved, literals_moved, literals_behind}
use Rattle.clause_store.proofs.compact.move_held.Goals.{then-entry, else-entry}
use Rattle.clause_store.proofs.compact.move_held.Goals as goal

pub move_down-there-requires-clause-within : goal.move_down-there-requires-clause-within
move_down-there-requires-clause-within c =
    let so_far = c.loop-i.invariant in
    entry_within c.args.entries.now c.loop-i.entries c.loop-i.i _ (omega (arith, c.loop-i-test.true, so_far.entry_count)) so_far.entry_count so_far.entries_left _ _ c.requires.within so_far.literal_count

pub move_down-there-requires-clause-below : goal.move_down-there-requires-clause-below
move_down-there-requires-clause-below c =
    let so_far = c.loop-i.invariant in
    free_below c.args.entries.now c.loop-i.entries c.loop-i.i _ (omega (arith, c.loop-i-test.true, so_far.entry_count)) so_far.entry_count so_far.entries_left c.loop-i.free (λ k d inside. (c.requires.within k d inside).0) c.requires.apart so_far.free

pub loop-i-preserved : goal.loop-i-preserved
loop-i-preserved c =
    let start = c.args.entries.now in
    let now = c.loop-i.entries in
    let i = c.loop-i.i in
    let free = c.loop-i.free in
    let so_far = c.loop-i.invariant in
    let d : Entry = record { id = 0; start = 0; end = 0; is_held = false } in
    let low : i < length now = omega (arith, c.loop-i-test.true, so_far.entry_count) in
    elim c.if-entry.branch [
      | then-entry w ↦
          let on = w.if-entry.true in
          let inside = entry_within start now i d low so_far.entry_count so_far.entries_left _ _ c.requires.within so_far.literal_count in
          let below = free_below start now i d low so_far.entry_count so_far.entries_left free (λ k d within. (c.requires.within k d within).0) c.requires.apart so_far.free in
          let more = room_more start now i d low so_far.entry_count so_far.entries_left true on in
          let end_is = w.free-is ∙ ap (λ e. e.end) w.move_down-there.ensures.entry in
          record {
            behind = omega (arith, so_far.behind, w.kept-is);
            entry_count = ap length w.entries-is ∙ length-set now c.loop-i.kept w.move_down-there.result ∙ so_far.entry_count;
            literal_count = ap length w.arena-is ∙ length_moved start now i d low so_far.entry_count so_far.entries_left c.args.arena.now c.loop-i.arena w.move_down-there.new.arena free inside below so_far.literals_left w.move_down-there.ensures.arena ∙ so_far.literal_count;
            free = omega (arith, end_is, more, so_far.free);
            entries_done = rw (w.kept-is, w.entries-is, w.move_down-there.ensures.entry) (entries_moved start now i d low so_far.entry_count so_far.entries_left c.loop-i.kept free on so_far.behind so_far.free so_far.entries_done);
            entries_left = rw w.entries-is (entries_behind start now i d low so_far.entry_count so_far.entries_left c.loop-i.kept w.move_down-there.result so_far.behind);
            literals_done = rw (end_is, w.arena-is) (literals_moved start now i d low so_far.entry_count so_far.entries_left c.args.arena.now c.loop-i.arena w.move_down-there.new.arena free inside below so_far.literals_left w.move_down-there.ensures.arena on so_far.literals_done);
            literals_left = rw (end_is, w.arena-is) (literals_behind start now i d low so_far.entry_count so_far.entries_left c.args.arena.now c.loop-i.arena w.move_down-there.new.arena free inside below so_far.literals_left w.move_down-there.ensures.arena);
          }
      | else-entry w ↦
          let off = w.if-entry.false in
          let more = room_more start now i d low so_far.entry_count so_far.entries_left false off in
          record {
            behind = omega (arith, so_far.behind, w.kept-is);
            entry_count = ap length w.entries-is ∙ so_far.entry_count;
            literal_count = ap length w.arena-is ∙ so_far.literal_count;
            free = omega (arith, w.free-is, more, so_far.free);
            entries_done = rw (w.kept-is, w.entries-is) (entries_passed start now i d low so_far.entry_count so_far.entries_left c.loop-i.kept off so_far.entries_done);
            entries_left = rw w.entries-is (left_more start now i d low so_far.entry_count so_far.entries_left);
            literals_done = rw (w.free-is, w.arena-is) (literals_passed start now i d low so_far.entry_count so_far.entries_left c.args.arena.now c.loop-i.arena free off so_far.literals_done);
            literals_left = rw (w.free-is, w.arena-is) so_far.literals_left;
          }
    ]
