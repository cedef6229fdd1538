use Rattle.std.proofs.Common.{◌≡◌, ℕ, ◌+◌, ◌-◌, ◌≤◌, List, ◌∷◌, ◌++◌, Some, drop, slice_range, length-take, ap, sym, ◌∙◌, subst, arith}
use Rattle.memchr.specs.Find.{IsFirstByte, is_byte}
use Rattle.cert_lines.specs.Parts.{Piece, IsFeedless}
use Rattle.cert_lines.proofs.PieceCuts.{part_is, rest_is, feed_at, feedless_before}
use Rattle.cert_lines.proofs.pieces.Pieces.cut.Goals as goal

pub returns-in-Some-clause-feed : goal.returns-in-Some-clause-feed
returns-in-Some-clause-feed c = λ _.
    let items = c.self.inside.piece.items in
    let at = c.self.inside.at in
    let end = c.self.inside.end in
    let place = c.in-Some.place in
    let hay = slice_range items at end in
    let seen : c.unread.result.now ≡ hay = c.unread.ensures ∙ sym (ap (λ (p : Piece). p.unread) c.self.view_is) in
    let found : IsFirstByte (is_byte 10) hay (Some place) = subst (λ (xs : List ℕ). IsFirstByte (is_byte 10) xs (Some place)) seen c.in-Some.ensures in
    let within : at + place + 1 ≤ end = omega (arith, found.0.high, length-take (end - at) (drop at items)) in
    sym (ap (λ (p : Piece). p.unread) c.self.view_is)
    ∙ feed_at hay place found
    ∙ ap (λ (xs : List ℕ). xs ++ 10 ∷ drop (place + 1) hay) (sym (part_is items at end place within))
    ∙ ap (λ (xs : List ℕ). slice_range items at (at + place) ++ 10 ∷ xs) (sym (rest_is items at end place within))

pub returns-in-Some-clause-feedless : goal.returns-in-Some-clause-feedless
returns-in-Some-clause-feedless c =
    let items = c.self.inside.piece.items in
    let at = c.self.inside.at in
    let end = c.self.inside.end in
    let place = c.in-Some.place in
    let hay = slice_range items at end in
    let seen : c.unread.result.now ≡ hay = c.unread.ensures ∙ sym (ap (λ (p : Piece). p.unread) c.self.view_is) in
    let found : IsFirstByte (is_byte 10) hay (Some place) = subst (λ (xs : List ℕ). IsFirstByte (is_byte 10) xs (Some place)) seen c.in-Some.ensures in
    let within : at + place + 1 ≤ end = omega (arith, found.0.high, length-take (end - at) (drop at items)) in
    subst IsFeedless (sym (part_is items at end place within)) (feedless_before hay place found)
