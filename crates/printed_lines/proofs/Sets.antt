-- The printed lines of sets, set by set.
use Rattle.std.proofs.Common.{◌≡◌, ℕ, ◌+◌, ◌<◌, List, [], ◌∷◌, ◌++◌, take, length, get_or, codes, refl, sym, ap, ◌∙◌}
use Rattle.std.proofs.lemmas.List.{append_assoc, append-nil, take_more}
use Rattle.fbas_model.specs.Names.{Name}
use Rattle.fbas_model.specs.Nodes.{Table}
use Rattle.printed_lines.specs.Lines.{line, list, set_lines}

lines_append : (names : List Name) (xs ys : List Table) → set_lines names (xs ++ ys) ≡ set_lines names xs ++ set_lines names ys
lines_append names [] ys = refl
lines_append names (x ∷ xs) ys =
    ap (λ (t : List ℕ). line (list (codes "set") names x) ++ t) (lines_append names xs ys) ∙ sym (append_assoc (line (list (codes "set") names x)) (set_lines names xs) (set_lines names ys))

-- one set more
pub lines_more : (names : List Name) (sets : List Table) (i : ℕ) (s : Table) → i < length sets → s ≡ get_or sets i s → set_lines names (take (i + 1) sets) ≡ set_lines names (take i sets) ++ line (list (codes "set") names s)
lines_more names sets i s low at =
    ap (set_lines names) (take_more sets i s low ∙ ap (λ (x : Table). take i sets ++ x ∷ []) (sym at))
    ∙ lines_append names (take i sets) (s ∷ [])
    ∙ ap (λ (t : List ℕ). set_lines names (take i sets) ++ t) (append-nil (line (list (codes "set") names s)))
