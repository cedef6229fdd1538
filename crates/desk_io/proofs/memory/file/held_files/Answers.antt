use Rattle.std.proofs.Common.{◌≡◌, ◌<◌, ◌≤◌, ℕ, suc, List, [], ◌∷◌, ◌++◌, length, get_or, remove, ap, sym, ◌∙◌, subst, arith, append_assoc, String, Vec, string_bytes, Some}
use Rattle.std.specs.Prelude.{All, map}
use Rattle.std.specs.declared.alloc.Global.{Global}
use Rattle.desk_io.specs.Entries.{Entry, entry_of}
use Rattle.desk_io.proofs.memory.file.held_files.Goals as goal

split_first : {A : Type 0} (xs : List A) (x : A) (ys : List A) → 0 < length xs → x ≡ get_or xs 0 x → ys ≡ remove xs 0 → xs ≡ x ∷ ys
split_first [] x ys some is rest = absurd (omega arith)
split_first (a ∷ xs) x ys some is rest = λ i. sym is i ∷ sym rest i

pub files-preserved : goal.files-preserved
files-preserved c =
    let size = c.args.size in
    let before = c.files.files.items in
    let rest = c.remove-name.new.self.items in
    let file = c.remove-name.result in
    let whole : before ≡ file ∷ rest = split_first before file rest (omega (arith, c.remove-name.ensures.len, c.files.files.ok)) c.remove-name.ensures.value c.remove-name.ensures.items in
    let fits : All (λ (f : String Global × Vec ℕ Global). length f.1.items ≤ size) (file ∷ rest) = subst (λ (fs : List (String Global × Vec ℕ Global)). All (λ f. length f.1.items ≤ size) fs) whole c.files.invariant.fits in
    record {
      fits = λ k d less. fits (suc k) d (omega arith);
      made =
          let entry : c.in_ok-holding.field-0 ≡ entry_of size file = c.in_ok-holding.ensures ∙ ap (λ (bytes : List ℕ). record { name = string_bytes file.0; size = size; held = Some bytes }) c.deref.ensures.value in
          ap (λ (es : List Entry). es ++ map (entry_of size) rest) (c.in_ok-push.ensures.items ∙ ap (λ (e : Entry). c.files.made.items ++ e ∷ []) entry)
          ∙ append_assoc c.files.made.items (entry_of size file ∷ []) (map (entry_of size) rest)
          ∙ ap (λ (fs : List (String Global × Vec ℕ Global)). c.files.made.items ++ map (entry_of size) fs) (sym whole)
          ∙ c.files.invariant.made;
    }
