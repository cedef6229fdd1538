-- Inputs in order do not depend on the order in which they were.
use Rattle.std.proofs.Common.{◌≡◌, ℕ, Bool, true, false, if◌then◌else◌, refl, ap, ◌∙◌, sym}
use Rattle.std.specs.declared.cmp.Ordering.{Ordering}
use Rattle.std.specs.declared.cmp.Ordering.TheVariants.{Less, Equal, Greater}
use Rattle.std.specs.Ordering.{ordering_reverse, is_gt}
use Rattle.std.proofs.lemmas.Cmp.{upto}
use Rattle.std.proofs.lemmas.Bool.{false≢true}
use Rattle.threshold_circuit.specs.Circuits.{Circuit, Inputs, end_of_gate, input}
use Rattle.threshold_circuit.specs.Gathering.{joined}
use Rattle.threshold_circuit.specs.Ordered.{compared, inserted, in_order, ordered, each_ordered}
use Rattle.threshold_circuit.proofs.OrderLaws.{is_total, equal_is, turned}

pub put_at : (c d : Circuit) (ds : Inputs) (after : Bool) → is_gt (compared c d) ≡ after → inserted c (input d ds) ≡ (if after then input d (inserted c ds) else input c (input d ds))
put_at c d ds after is = ap (λ (b : Bool). if b then input d (inserted c ds) else input c (input d ds)) is

not_both_by : (o p : Ordering) → o ≡ ordering_reverse p → is_gt o ≡ true → is_gt p ≡ true → ⊥
not_both_by o Less is g h = false≢true h
not_both_by o Equal is g h = false≢true h
not_both_by o Greater is g h = false≢true (sym (ap is_gt is) ∙ g)

neither_by : (o p : Ordering) → o ≡ ordering_reverse p → is_gt o ≡ false → is_gt p ≡ false → o ≡ Equal
neither_by o Less is g h = absurd (false≢true (sym g ∙ ap is_gt is))
neither_by o Equal is g h = is
neither_by o Greater is g h = absurd (false≢true (sym h))

between_by : (c d e : Circuit) (b : Bool) → is_gt (compared d c) ≡ b → is_gt (compared d e) ≡ true → is_gt (compared c e) ≡ false → is_gt (compared d c) ≡ true
between_by c d e true is g h = is
between_by c d e false is g h = absurd (false≢true (sym (upto is_total d c e is h) ∙ g))

-- above what the other is not above: above the other
between : (c d e : Circuit) → is_gt (compared d e) ≡ true → is_gt (compared c e) ≡ false → is_gt (compared d c) ≡ true
between c d e g h = between_by c d e (is_gt (compared d c)) refl g h

in_front_by : (c d : Circuit) (es : Inputs) (a b : Bool) → is_gt (compared c d) ≡ a → is_gt (compared d c) ≡ b →
    (if a then input d (input c es) else input c (input d es)) ≡ (if b then input c (input d es) else input d (input c es))
in_front_by c d es true true g h = absurd (not_both_by (compared c d) (compared d c) (turned c d) g h)
in_front_by c d es true false g h = refl
in_front_by c d es false true g h = refl
in_front_by c d es false false g h =
    let same : c ≡ d = equal_is c d (neither_by (compared c d) (compared d c) (turned c d) g h) in
    ap (λ (x : Circuit). input x (input d es)) same ∙ ap (λ (x : Circuit). input d (input x es)) (sym same)

-- c behind the first input e, d not
one_behind : (c d e : Circuit) (es : Inputs) → is_gt (compared c e) ≡ true → is_gt (compared d e) ≡ false → inserted c (inserted d (input e es)) ≡ inserted d (inserted c (input e es))
one_behind c d e es g h =
    ap (inserted c) (put_at d e es false h)
    ∙ put_at c d (input e es) true (between d c e g h)
    ∙ ap (input d) (put_at c e es true g)
    ∙ sym (put_at d e (inserted c es) false h)
    ∙ ap (inserted d) (sym (put_at c e es true g))

step_by : (c d e : Circuit) (es : Inputs) (a b : Bool) → is_gt (compared c e) ≡ a → is_gt (compared d e) ≡ b → inserted c (inserted d es) ≡ inserted d (inserted c es) → inserted c (inserted d (input e es)) ≡ inserted d (inserted c (input e es))
step_by c d e es true true g h before =
    ap (inserted c) (put_at d e es true h)
    ∙ put_at c e (inserted d es) true g
    ∙ ap (input e) before
    ∙ sym (put_at d e (inserted c es) true h)
    ∙ ap (inserted d) (sym (put_at c e es true g))
step_by c d e es true false g h before = one_behind c d e es g h
step_by c d e es false true g h before = sym (one_behind d c e es h g)
step_by c d e es false false g h before =
    ap (inserted c) (put_at d e es false h)
    ∙ ap (λ (xs : Inputs). if is_gt (compared c d) then input d xs else input c (input d (input e es))) (put_at c e es false g)
    ∙ in_front_by c d (input e es) (is_gt (compared c d)) (is_gt (compared d c)) refl refl
    ∙ ap (λ (xs : Inputs). if is_gt (compared d c) then input c xs else input d (input c (input e es))) (sym (put_at d e es false h))
    ∙ ap (inserted d) (sym (put_at c e es false g))

pub inserted_both : (c d : Circuit) (es : Inputs) → inserted c (inserted d es) ≡ inserted d (inserted c es)
inserted_both c d end_of_gate = in_front_by c d end_of_gate (is_gt (compared c d)) (is_gt (compared d c)) refl refl
inserted_both c d (input e es) = step_by c d e es (is_gt (compared c e)) (is_gt (compared d e)) refl refl (inserted_both c d es)

-- two neighbours that change places among the inputs
pub swapped : (k : ℕ) (before : Inputs) (c d : Circuit) (after : Inputs) → in_order (each_ordered (joined before (input c (input d after)))) ≡ in_order (each_ordered (joined before (input d (input c after))))
swapped k end_of_gate c d after = inserted_both (ordered c) (ordered d) (in_order (each_ordered after))
swapped k (input b bs) c d after = ap (inserted (ordered b)) (swapped k bs c d after)

-- one that becomes the same
pub deeper : (before : Inputs) (c d : Circuit) (after : Inputs) → ordered c ≡ ordered d → in_order (each_ordered (joined before (input c after))) ≡ in_order (each_ordered (joined before (input d after)))
deeper end_of_gate c d after same = ap (λ (x : Circuit). inserted x (in_order (each_ordered after))) same
deeper (input b bs) c d after same = ap (inserted (ordered b)) (deeper bs c d after same)
