-- Texts written one after another.
use Rattle.std.proofs.Common.{◌≡◌, ℕ, ◌+◌, ◌<◌, ◌≤◌, take, drop, take-append-drop, length-drop, Bool, true, false, List, [], ◌++◌, length, IsTrue, MatchBool, inl, inr, refl, sym, ◌∙◌, ap, subst, arith, append_assoc, length-append}
use Rattle.std.proofs.lemmas.List.{append-nil}
use Rattle.desk_io.specs.State.{DeskState, written, CannotPut}
use Rattle.desk_io.specs.Faults.{Faults, Rose}
use Rattle.desk_io.specs.declared.desk.To.TheVariants.{Cert}
use Rattle.desk_io.proofs.Written.{written-nil, written-append, CannotPut-written}
use Rattle.cert_writer.specs.Writing.{Pending, WroteAll, WrotePart, Wrote, CountsFailing, Writes}
use Rattle.cert_writer.specs.declared.writer.TheConstants.{BUFFER}

wrote_all : (t u a b c : List ℕ) (r s v : DeskState) → WroteAll t a r b s → WroteAll u b s c v → WroteAll (t ++ u) a r c v
wrote_all t u a b c r s v x y = record {
  out = x.out ++ y.out;
  put = y.put ∙ ap (written Cert y.out) x.put ∙ written-append Cert x.out y.out r;
  whole = append_assoc x.out y.out c ∙ ap (λ (z : List ℕ). x.out ++ z) y.whole ∙ sym (append_assoc x.out b u) ∙ ap (λ (z : List ℕ). z ++ u) x.whole ∙ append_assoc a t u;
}

plain_written : (out : List ℕ) (s : DeskState) → (written Cert out s).plain ≡ s.plain
plain_written out s = refl

wrote_then_part : (t u a b : List ℕ) (r s v : DeskState) → WroteAll t a r b s → WrotePart u b s v → WrotePart (t ++ u) a r v
wrote_then_part t u a b r s v x y = record {
  out = x.out ++ y.out;
  rest = y.rest;
  put = y.put ∙ ap (written Cert y.out) x.put ∙ written-append Cert x.out y.out r;
  whole = append_assoc x.out y.out y.rest ∙ ap (λ (z : List ℕ). x.out ++ z) y.whole ∙ sym (append_assoc x.out b u) ∙ ap (λ (z : List ℕ). z ++ u) x.whole ∙ append_assoc a t u;
  more = y.more;
  lacks = λ plain.
      let there : IsTrue s.plain = subst (λ (z : DeskState). IsTrue z.plain) (sym x.put) plain in
      let lack = subst (λ (z : DeskState). CannotPut Cert (length y.out + BUFFER) z) x.put (y.lacks there) in
      let more = CannotPut-written Cert x.out (length y.out + BUFFER) r lack in
      let same : length x.out + (length y.out + BUFFER) ≡ length (x.out ++ y.out) + BUFFER = omega (arith, length-append x.out y.out) in
      subst (λ (n : ℕ). CannotPut Cert n r) same more;
}

part_more : (t u a : List ℕ) (r s : DeskState) → WrotePart t a r s → WrotePart (t ++ u) a r s
part_more t u a r s x = record {
  out = x.out;
  rest = x.rest ++ u;
  put = x.put;
  whole = sym (append_assoc x.out x.rest u) ∙ ap (λ (z : List ℕ). z ++ u) x.whole ∙ append_assoc a t u;
  more = let m = x.more in omega (arith, length-append x.rest u);
  lacks = x.lacks;
}

wrote_by : (t u : List ℕ) (a b c : List ℕ) (i j k : Bool) (r s v : DeskState)
    → Wrote t (record { held = a; failed = i }) r (record { held = b; failed = j }) s → Wrote u (record { held = b; failed = j }) s (record { held = c; failed = k }) v
    → Wrote (t ++ u) (record { held = a; failed = i }) r (record { held = c; failed = k }) v
wrote_by t u a b c true true k r s v x y = (y.0 ∙ x.0, y.1 ∙ x.1)
wrote_by t u a b c true false k r s v x y = absurd (let e = ap (λ (p : Pending). p.failed) x.0 in cc)
wrote_by t u a b c false true true r s v x y = subst (WrotePart (t ++ u) a r) (sym y.1) (part_more t u a r s x)
wrote_by t u a b c false true false r s v x y = absurd (let e = ap (λ (p : Pending). p.failed) y.0 in cc)
wrote_by t u a b c false false true r s v x y = wrote_then_part t u a b r s v x y
wrote_by t u a b c false false false r s v x y = wrote_all t u a b c r s v x y

rose_more : (a b c : ℕ) → Rose a b → b ≤ c → Rose a c
rose_more a b c h le = omega (arith, h)

counts_by : (i j k : Bool) (e f g : Faults) → CountsFailing i j e f → CountsFailing j k f g → CountsFailing i k e g
counts_by i j k e f g x y = record { later = omega (arith, x.later, y.later); reads = y.reads ∙ x.reads; once = both i j k x.once y.once x.later y.later }
  where
    both : (i j k : Bool)
        → MatchBool i ((j ≡ true) × (f.writes ≡ e.writes)) (MatchBool j (Rose e.writes f.writes) (f.writes ≡ e.writes))
        → MatchBool j ((k ≡ true) × (g.writes ≡ f.writes)) (MatchBool k (Rose f.writes g.writes) (g.writes ≡ f.writes))
        → e.writes ≤ f.writes → f.writes ≤ g.writes
        → MatchBool i ((k ≡ true) × (g.writes ≡ e.writes)) (MatchBool k (Rose e.writes g.writes) (g.writes ≡ e.writes))
    both true true k a b p q = (b.0, b.1 ∙ a.1)
    both true false k a b p q = absurd (let z = a.0 in cc)
    both false true true a b p q = rose_more e.writes f.writes g.writes a q
    both false true false a b p q = absurd (let z = b.0 in cc)
    both false false true a b p q = subst (λ (n : ℕ). Rose n g.writes) a b
    both false false false a b p q = b ∙ a

-- one text after another
pub writes_more : (tells : Bool) (t u : List ℕ) (a b c : Pending) (r s v : DeskState) (e f g : Faults) → Writes tells t a r e b s f → Writes tells u b s f c v g → Writes tells (t ++ u) a r e c v g
writes_more tells t u a b c r s v e f g x y = record {
  wrote = λ yes. wrote_by t u a.held b.held c.held a.failed b.failed c.failed r s v (x.wrote yes) (y.wrote yes);
  counts = counts_by a.failed b.failed c.failed e f g x.counts y.counts;
}

-- no text
nothing : (a : List ℕ) (i : Bool) (s : DeskState) → Wrote [] (record { held = a; failed = i }) s (record { held = a; failed = i }) s
nothing a true s = (refl, refl)
nothing a false s = record { out = []; put = sym (written-nil Cert s); whole = sym (append-nil a) }

nothing_counted : (i : Bool) (f : Faults) → CountsFailing i i f f
nothing_counted true f = record { later = omega arith; reads = refl; once = (refl, refl) }
nothing_counted false f = record { later = omega arith; reads = refl; once = refl }

pub writes_nothing : (tells : Bool) (a : Pending) (s : DeskState) (f : Faults) → Writes tells [] a s f a s f
writes_nothing tells a s f = record { wrote = λ yes. nothing a.held a.failed s; counts = nothing_counted a.failed f }

-- a put of all that is held fails
put_failed_all : (tells : Bool) (held now : List ℕ) (s v : DeskState) (f g : Faults)
    → (IsTrue tells → (n : ℕ) × (n < length held) × (v ≡ written Cert (take n held) s)) → (IsTrue tells → IsTrue s.plain → CannotPut Cert (length held) s) → length held ≤ BUFFER
    → f.writes ≤ g.writes → g.reads ≡ f.reads → Rose f.writes g.writes → Writes tells [] (record { held = held; failed = false }) s f (record { held = now; failed = true }) v g
put_failed_all tells held now s v f g part plain few later reads rose = record {
  wrote = λ yes.
      let n = part yes in
      record {
        out = take n.0 held;
        rest = drop n.0 held;
        put = n.2;
        whole = take-append-drop n.0 held ∙ sym (append-nil held);
        more = omega (arith, length-drop n.0 held, n.1);
        lacks = λ is. cannot_more (length held) (length (take n.0 held) + BUFFER) s (omega arith) (plain yes is);
      };
  counts = record { later = later; reads = reads; once = rose };
}
  where
    cannot_more : (n m : ℕ) (s : DeskState) → n ≤ m → CannotPut Cert n s → CannotPut Cert m s
    cannot_more n m s le (inl none) = inl none
    cannot_more n m s le (inr small) = inr (omega (arith, small))

pub put_failed : (tells : Bool) (a : Pending) (held now : List ℕ) (s v : DeskState) (f g : Faults) → record { held = held; failed = false } ≡ a
    → (IsTrue tells → (n : ℕ) × (n < length held) × (v ≡ written Cert (take n held) s)) → (IsTrue tells → IsTrue s.plain → CannotPut Cert (length held) s) → length held ≤ BUFFER
    → f.writes ≤ g.writes → g.reads ≡ f.reads → Rose f.writes g.writes → Writes tells [] a s f (record { held = now; failed = true }) v g
put_failed tells a held now s v f g is part plain few later reads rose =
    subst (λ (p : Pending). Writes tells [] p s f (record { held = now; failed = true }) v g) is (put_failed_all tells held now s v f g part plain few later reads rose)

-- after a put failed, whatever follows is written too
failed_rest : (t u : List ℕ) (a b : Pending) (r s : DeskState) → b.failed ≡ true → Wrote t a r b s → Wrote (t ++ u) a r b s
failed_rest t u a b r s is x = wrote_by t u a.held b.held b.held a.failed b.failed b.failed r s s x (subst (λ (k : Bool). MatchBool k ((b ≡ b) × (s ≡ s)) (MatchBool b.failed (WrotePart u b.held s s) (WroteAll u b.held s b.held s))) (sym is) (refl, refl))

pub writes_failed : (tells : Bool) (t u : List ℕ) (a b : Pending) (r s : DeskState) (e f : Faults) → b.failed ≡ true → Writes tells t a r e b s f → Writes tells (t ++ u) a r e b s f
writes_failed tells t u a b r s e f is x = record { wrote = λ yes. failed_rest t u a b r s is (x.wrote yes); counts = x.counts }

-- the same text
pub writes_same : (tells : Bool) (t u : List ℕ) (a b : Pending) (r s : DeskState) (e f : Faults) → t ≡ u → Writes tells t a r e b s f → Writes tells u a r e b s f
writes_same tells t u a b r s e f same x = subst (λ (z : List ℕ). Writes tells z a r e b s f) same x
