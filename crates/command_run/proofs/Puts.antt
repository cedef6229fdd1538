-- What is on the desk after a certificate and a text were put, whole or in part.
use Rattle.std.proofs.Common.{◌≡◌, ℕ, ◌+◌, ◌<◌, arith, List, [], length, take, Some, Result, Ok, Err, OnErr, IsTrue, inl, inr, refl, ◌∙◌, ap, subst}
use Rattle.std.specs.Str.{bytes_eq}
use Rattle.std.proofs.lemmas.Bool.{cases_Bool}
use mathlib.Core.Path.{fun_ext}
use Rattle.desk_io.specs.State.{Files, DeskState, with_file, with_certificate, appended, written, CannotPut}
use Rattle.desk_io.specs.declared.desk.To.TheVariants.{Out, Cert}
use Rattle.cert_writer.specs.Promises.{PutsPart}
use Rattle.cert_writer.specs.declared.writer.TheConstants.{BUFFER}
use Rattle.printed_lines.specs.Lines.{Text}
use Rattle.request_reading.specs.declared.reply.Reply.{Reply as Answer}
use Rattle.command_run.specs.Putting.{LacksBuffer, LacksText, put_whole, PutsSome, unmade, cert_part, text_part, PutsBoth, CameTo, uncreated, in_cert, in_text}

appended-created : (path bytes : List ℕ) (files : Files) → appended (Some path) bytes (with_file path [] files) ≡ with_file path bytes files
appended-created path bytes files = fun_ext (λ (n : List ℕ). elim (cases_Bool (bytes_eq n path)) [
  | inl e ↦ rw e refl
  | inr e ↦ rw e refl
])

pub puts_both : (path : List ℕ) (cert : Text) (a : Answer) (old new : DeskState) → new ≡ put_whole path cert a.text old → PutsBoth path cert a old new a.status
puts_both path cert a old new e = record {
  status_is = refl;
  out = ap (λ (s : DeskState). s.out) e;
  files = ap (λ (s : DeskState). s.files) e ∙ appended-created path cert old.files;
}

pub came_to : (path : List ℕ) (cert text : Text) (old new : DeskState) → PutsSome path cert text old new → CameTo path cert text old new
came_to path cert text old new (unmade e why) = uncreated (ap (λ (s : DeskState). s.files) e) (ap (λ (s : DeskState). s.out) e) why
came_to path cert text old new (cert_part n short e why) = in_cert n short (ap (λ (s : DeskState). s.files) e ∙ appended-created path (take n cert) old.files) (ap (λ (s : DeskState). s.out) e) why
came_to path cert text old new (text_part n short e why) = in_text n short (ap (λ (s : DeskState). s.files) e ∙ appended-created path cert old.files) (ap (λ (s : DeskState). s.out) e) why

-- ---- after a write fault

pub any_err : {T E : Type 0} (r : Result T E) (P : Type 0) → P → OnErr r P
any_err (Ok x) P p = tt
any_err (Err e) P p = p

pub err_both : {T E : Type 0} (r : Result T E) (P Q S : Type 0) → (P → Q → S) → OnErr r P → OnErr r Q → OnErr r S
err_both (Ok x) P Q S f p q = tt
err_both (Err e) P Q S f p q = f p q

lacks_buffer : (path : List ℕ) (old middle : DeskState) (count : ℕ) → middle ≡ with_certificate path old → (IsTrue middle.plain → CannotPut Cert (count + BUFFER) middle) → IsTrue old.plain → LacksBuffer count old
lacks_buffer path old middle count created lacks plain =
    let there = subst (λ (s : DeskState). IsTrue s.plain → CannotPut Cert (count + BUFFER) s) created lacks in
    elim (there plain) [
      | inl none ↦ absurd (let k = none in cc)
      | inr small ↦ small
    ]

pub some_cert : (path : List ℕ) (cert text : Text) (old middle new : DeskState) → middle ≡ with_certificate path old → PutsPart cert middle new → PutsSome path cert text old new
some_cert path cert text old middle new created p =
    cert_part p.count p.short (p.put ∙ ap (written Cert (take p.count cert)) created) (lacks_buffer path old middle p.count created p.lacks)

lacks_text : (path : List ℕ) (cert text : Text) (old more : DeskState) → more ≡ written Cert cert (with_certificate path old) → (IsTrue more.plain → CannotPut Out (length text) more) → IsTrue old.plain → LacksText cert text old
lacks_text path cert text old more whole lacks plain =
    let there = subst (λ (s : DeskState). IsTrue s.plain → CannotPut Out (length text) s) whole lacks in
    let less = there plain in
    omega arith

pub some_text : (path : List ℕ) (cert text : Text) (old middle more new : DeskState) → middle ≡ with_certificate path old → more ≡ written Cert cert middle → (n : ℕ) × (n < length text) × (new ≡ written Out (take n text) more)
    → (IsTrue more.plain → CannotPut Out (length text) more) → PutsSome path cert text old new
some_text path cert text old middle more new created whole n lacks =
    let both = whole ∙ ap (written Cert cert) created in
    text_part n.0 n.1 (n.2 ∙ ap (written Out (take n.0 text)) both) (lacks_text path cert text old more both lacks)
