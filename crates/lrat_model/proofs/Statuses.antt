-- What the literals that are left of a clause make its status.
use Rattle.std.proofs.Common.{◌≡◌, ℕ, true, List, [], ◌∷◌, sym, ap, refl, ◌∙◌, subst, cond, Some, pos}
use Rattle.std.specs.List.{list_all}
use Rattle.std.proofs.lemmas.Bool.{false≢true}
use Rattle.lrat_model.specs.Literal.{Literal, same, has}
use Rattle.lrat_model.specs.Clauses.{Held, clause_at}
use Rattle.lrat_model.specs.Propagation.{status_of, status, after_status, after_finding, take_hint}
use Rattle.lrat_model.specs.declared.step.ClauseStatus.{ClauseStatus}
use Rattle.lrat_model.specs.declared.step.ClauseStatus.TheVariants.{Falsified, Forces, Unresolved}
use Rattle.lrat_model.proofs.Literals.{same-itself, has-first, has-rest, list_all-from_has}

-- none is left
pub status_of-falsified : (ls : List Literal) → ((m : Literal) → has ls m ≡ true → ⊥) → status_of ls ≡ Falsified
status_of-falsified [] none = refl
status_of-falsified (l ∷ ls) none = absurd (none l (has-first l ls))

-- one is left
pub status_of-forces : (l : Literal) (ls : List Literal) → has ls l ≡ true → ((m : Literal) → has ls m ≡ true → m ≡ l) → status_of ls ≡ Forces l
status_of-forces l [] here only = absurd (false≢true here)
status_of-forces l (x ∷ xs) here only =
    let x_is : x ≡ l = only x (has-first x xs) in
    let alike : list_all (same x) xs ≡ true = list_all-from_has (same x) xs (λ y h. subst (λ k. same x k ≡ true) (x_is ∙ sym (only y (has-rest x y xs h))) (same-itself x)) in
    ap (λ b. cond b (Forces x) Unresolved) alike ∙ ap Forces x_is

-- one hint, where the status of its clause is known
pub take_hint-status : (held : Held) (trues : List Literal) (place id : ℕ) (clause : List Literal) (says : ClauseStatus) → clause_at held id ≡ Some clause → status trues clause ≡ says → take_hint held trues place (pos id) ≡ after_status trues place says
take_hint-status held trues place id clause says at reads = ap (after_finding trues place id) at ∙ ap (after_status trues place) reads
