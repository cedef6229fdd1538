-- How the process ends, whether there was memory for its words or not.
use Rattle.std.proofs.Common.{◌≡◌, ℕ, false, true, List, Option, Some, None, Result, Ok, Err, String, Vec, IfOk, IfSome, IsErr, IsNone, IsTrue, inr, arith, refl, sym, subst}
use Rattle.std.specs.declared.alloc.AllocError.{AllocError}
use Rattle.std.specs.declared.alloc.Global.{Global}
use Rattle.desk_io.specs.State.{DeskState}
use Rattle.desk_io.specs.Faults.{Faults, CountedWhere}
use Rattle.request_reading.specs.declared.status.Status.{Status}
use Rattle.request_reading.specs.declared.status.Status.TheVariants.{ReadFault, WriteFault, Memory}
use Rattle.request_reading.specs.Status.{is_answer}
use Rattle.request_reading.specs.Answers.{words_of}
use Rattle.command_run.specs.Running.{Runs, RunsOnAny}

no_answer : IsTrue (is_answer Memory) → ⊥
no_answer is = let k : false ≡ true = is in cc

no_write_fault : Memory ≡ WriteFault → ⊥
no_write_fault e = cc

no_read_fault : Memory ≡ ReadFault → ⊥
no_read_fault e = cc

-- want of memory at the start, where nothing was done, is an end of a run of any words
at_once : (words : List (List ℕ)) (state : DeskState) → Runs words state state Memory
at_once words state = record {
  answered = λ is. absurd (no_answer is);
  headline = λ is. absurd (no_answer is);
  too_large = λ is. absurd (no_answer is);
  part = λ e. absurd (no_write_fault e);
  silent = λ e. refl;
  untouched = λ e. refl;
  files = λ path other. refl;
  unread = λ err. refl;
  plain_read = λ plain e. absurd (no_read_fault e);
}

not_counted : (n : ℕ) (failed : Type 0) → (failed → ⊥) → CountedWhere n n failed
not_counted n failed not = record { later = omega arith; rose = λ f. absurd (not f); none = λ k. refl }

at_once_on_any : (words : List (List ℕ)) (faults : Faults) → RunsOnAny words faults faults Memory
at_once_on_any words faults = record {
  refused = λ err is. absurd (no_answer is);
  taken = λ e. absurd (no_read_fault e);
  read_faults = not_counted faults.reads _ no_read_fault;
  write_faults = not_counted faults.writes _ no_write_fault;
  complete = λ reads writes. inr refl;
}

pub wanting : (words : List (List ℕ)) (old new : DeskState) (status : Status) → status ≡ Memory → new ≡ old → Runs words old new status
wanting words old new status is same = subst (λ (s : Status). Runs words old new s) (sym is) (subst (λ (d : DeskState). Runs words old d Memory) (sym same) (at_once words old))

pub wanting_on_any : (words : List (List ℕ)) (old new : Faults) (status : Status) → status ≡ Memory → new ≡ old → RunsOnAny words old new status
wanting_on_any words old new status is same = subst (λ (s : Status). RunsOnAny words old new s) (sym is) (subst (λ (f : Faults). RunsOnAny words old f Memory) (sym same) (at_once_on_any words old))

-- a run of the words that were held, or of any words where none were
pub ends : (given : Option (List (List ℕ))) (held : Result (Vec (String Global) Global) AllocError) (Ran : List (List ℕ) → Type 0) → IfOk held (λ words. given ≡ Some (words_of words.items)) → IfOk held (λ words. Ran (words_of words.items))
    → (IsErr held → (words : List (List ℕ)) → Ran words) → IfSome given Ran
ends None held Ran are ran none = tt
ends (Some words) (Ok v) Ran are ran none =
    let same : words_of v.items ≡ words = cc in
    subst Ran same ran
ends (Some words) (Err e) Ran are ran none = none refl words

-- where no words were given none were held
pub none_held : (given : Option (List (List ℕ))) (held : Result (Vec (String Global) Global) AllocError) → IfOk held (λ words. given ≡ Some (words_of words.items)) → IsNone given → IsErr held
none_held given (Ok v) are none = absurd (let k : given ≡ Some (words_of v.items) = are in cc)
none_held given (Err e) are none = refl

-- a run of the list that the words are held in is a run of the words that are held
pub of_held : (held : Result (Vec (String Global) Global) AllocError) (v : Vec (String Global) Global) (list : List (String Global)) (Ran : List (List ℕ) → Type 0)
    → held ≡ Ok v → list ≡ v.items → Ran (words_of list) → IfOk held (λ words. Ran (words_of words.items))
of_held held v list Ran is same ran =
    subst (λ (r : Result (Vec (String Global) Global) AllocError). IfOk r (λ words. Ran (words_of words.items))) (sym is) (subst (λ (l : List (String Global)). Ran (words_of l)) same ran)
