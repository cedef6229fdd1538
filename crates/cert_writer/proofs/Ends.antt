-- What is out where all was written, or a part.
use Rattle.std.proofs.Common.{◌≡◌, ◌↔◌, ℕ, Bool, true, false, List, [], ◌∷◌, ◌++◌, length, take, IsTrue, MatchBool, Result, Ok, Err, OnOk, OnErr, IsErr, refl, sym, ◌∙◌, ap, subst, arith, length-append, append_assoc, codes}
use Rattle.std.proofs.lemmas.List.{append-nil}
use Rattle.std.proofs.Math.Seq.{take-append_seam}
use Rattle.desk_io.specs.State.{DeskState, written}
use Rattle.desk_io.specs.Faults.{Faults, Rose, WriteFails}
use Rattle.desk_io.specs.declared.desk.To.TheVariants.{Cert}
use Rattle.fbas_model.specs.Systems.{System}
use Rattle.enumeration_journal.specs.Journals.{JournalLine}
use Rattle.enumeration_journal.specs.declared.kinds.ListKind.{ListKind}
use Rattle.cert_writer.specs.Texts.{Text, joined}
use Rattle.cert_writer.specs.Promises.{PutsPart, PutsCertificate}
use Rattle.cert_writer.specs.Writing.{Pending, IsFresh, WroteAll, WrotePart, Wrote, CountsFailing, Writes}
use Rattle.cert_writer.proofs.WritingLaws.{writes_more, writes_same}
use Rattle.cert_writer.proofs.TextSteps.{joined-append}

ends_text : (xs ys : List Text) → joined (xs ++ ys) ++ codes "end\n" ≡ joined (xs ++ (ys ++ codes "end" ∷ []))
ends_text xs ys = sym (joined-append (xs ++ ys) (codes "end" ∷ [])) ∙ ap joined (append_assoc xs ys (codes "end" ∷ []))

wrote_whole : (text held : List ℕ) (s v : DeskState) → held ≡ [] → WroteAll text [] s held v → v ≡ written Cert text s
wrote_whole text held s v none x =
    x.put ∙ ap (λ (t : List ℕ). written Cert t s) (sym (append-nil x.out) ∙ ap (λ (h : List ℕ). x.out ++ h) (sym none) ∙ x.whole)

wrote_some : (text : List ℕ) (s v : DeskState) → WrotePart text [] s v → PutsPart text s v
wrote_some text s v x = record {
  count = length x.out;
  short = let m = x.more in let e = ap length x.whole in omega (arith, e, length-append x.out x.rest);
  put = x.put ∙ ap (λ (t : List ℕ). written Cert t s) (sym (take-append_seam x.out x.rest) ∙ ap (take (length x.out)) x.whole);
  lacks = x.lacks;
}

module _ (tells : Bool) (text : List ℕ) (old : Pending) (s : DeskState) (f : Faults) (new : IsFresh old) where
  puts_all : {T E : Type 0} (held : List ℕ) (failed : Bool) (v : DeskState) (g : Faults) (r : Result T E) → (IsTrue failed ↔ IsErr r) → OnOk r (held ≡ []) → Writes tells text old s f (record { held = held; failed = failed }) v g → OnOk r (IsTrue tells → v ≡ written Cert text s)
  puts_all held failed v g (Err e) same none w = tt
  puts_all held true v g (Ok u) same none w = absurd (let k = same.0 refl in cc)
  puts_all held false v g (Ok u) same none w = λ tell. wrote_whole text held s v none (subst (λ (p : Pending). Wrote text p s (record { held = held; failed = false }) v) new (w.wrote tell))

  puts_part : {T E : Type 0} (held : List ℕ) (failed : Bool) (v : DeskState) (g : Faults) (r : Result T E) → (IsTrue failed ↔ IsErr r) → Writes tells text old s f (record { held = held; failed = failed }) v g → OnErr r (IsTrue tells → PutsPart text s v)
  puts_part held failed v g (Ok u) same w = tt
  puts_part held false v g (Err e) same w = absurd (let k = same.1 refl in cc)
  puts_part held true v g (Err e) same w = λ tell. wrote_some text s v (subst (λ (p : Pending). Wrote text p s (record { held = held; failed = true }) v) new (w.wrote tell))

  puts_faults : {T E : Type 0} (held : List ℕ) (failed : Bool) (v : DeskState) (g : Faults) (r : Result T E) → (IsTrue failed ↔ IsErr r) → Writes tells text old s f (record { held = held; failed = failed }) v g → WriteFails f g (IsErr r)
  puts_faults held failed v g r same w =
      let counts = subst (λ (p : Pending). CountsFailing p.failed failed f g) new w.counts in
      record {
        later = counts.later;
        reads = counts.reads;
        rose = λ err. subst (λ (b : Bool). MatchBool b (Rose f.writes g.writes) (g.writes ≡ f.writes)) (same.1 err) counts.once;
        none = λ ok. off failed (λ is. ok (same.0 is)) counts.once;
      }
    where
      off : (b : Bool) → (b ≡ true → ⊥) → MatchBool b (Rose f.writes g.writes) (g.writes ≡ f.writes) → g.writes ≡ f.writes
      off true not_it m = absurd (not_it refl)
      off false not_it m = m

  puts_certificate : {T E : Type 0} (now : Pending) (v : DeskState) (g : Faults) (r : Result T E) → (IsTrue now.failed ↔ IsErr r) → OnOk r (now.held ≡ []) → Writes tells text old s f now v g → PutsCertificate tells text r s f v g
  puts_certificate now v g r same none w = record {
    all = puts_all now.held now.failed v g r same none w;
    part = puts_part now.held now.failed v g r same w;
    faults = puts_faults now.held now.failed v g r same w;
  }

-- the first lines and those of the evidence were written, and then the last one
pub ends_certificate : {T E : Type 0} (tells : Bool) (head front : List Text) (a b c : Pending) (s v z : DeskState) (e f g : Faults) (r : Result T E) → IsFresh a
    → Writes tells (joined (head ++ front)) a s e b v f → Writes tells (codes "end\n") b v f c z g → (IsTrue c.failed ↔ IsErr r) → OnOk r (c.held ≡ []) → PutsCertificate tells (joined (head ++ (front ++ codes "end" ∷ []))) r s e z g
ends_certificate tells head front a b c s v z e f g r new x y same none =
    puts_certificate tells (joined (head ++ (front ++ codes "end" ∷ []))) a s e new c z g r same none (writes_same _ _ _ _ _ _ _ _ _ (ends_text head front) (writes_more _ _ _ _ _ _ _ _ _ _ _ _ x y))

-- the same text
pub puts_same : {T E : Type 0} (tells : Bool) (t u : List ℕ) (r : Result T E) (s : DeskState) (e : Faults) (v : DeskState) (f : Faults) → t ≡ u → PutsCertificate tells t r s e v f → PutsCertificate tells u r s e v f
puts_same tells t u r s e v f same x = subst (λ (z : List ℕ). PutsCertificate tells z r s e v f) same x

-- the text of a journal, where the part, the kind and the journal are the same
pub puts_journal : {T E : Type 0} (tells : Bool) (text : System → ListKind → List JournalLine → Text) (p q : System) (k l : ListKind) (js ks : List JournalLine) (r : Result T E) (s : DeskState) (e : Faults) (v : DeskState) (f : Faults) → p ≡ q → k ≡ l → js ≡ ks
    → PutsCertificate tells (text p k js) r s e v f → PutsCertificate tells (text q l ks) r s e v f
puts_journal tells text p q k l js ks r s e v f part kind journal x =
    puts_same tells (text p k js) (text q l ks) r s e v f (ap (λ (y : System). text y k js) part ∙ ap (λ (y : ListKind). text q y js) kind ∙ ap (text q l) journal) x
