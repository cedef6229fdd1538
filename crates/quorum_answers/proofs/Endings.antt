-- What is answered after a run, and if memory is wanting before it.
use Rattle.std.proofs.Common.{◌≡◌, inl, inr, ℕ, ◌+◌, ◌-◌, ◌^◌, ◌⊎◌, ◌<◌, ◌≤◌, true, false, IsTrue, List, [], ◌∷◌, ◌++◌, ◌∙◌, refl, sym, subst, length, ap, arith}
use Rattle.desk_io.specs.State.{DeskState, Files, certificate_of}
use Rattle.lent_desk.specs.LentDesk.{at_start}
use Rattle.request_reading.specs.declared.status.Status.{Status}
use Rattle.request_reading.specs.declared.status.Status.TheVariants.{Yes, No, Unknown, Usage, ConfigRefused, CertRefused, ReadFault, WriteFault, Memory, TooLarge, ScriptRefused}
use Rattle.request_reading.specs.Status.{is_answer, code_of}
use Rattle.command_run.specs.Running.{Runs}
use Rattle.quorum_answers.specs.declared.answer.QuorumEnd.{QuorumEnd}
use Rattle.lent_desk.specs.EndlessDesk.{endless}
use Rattle.lent_desk.specs.Room.{MOST_ROOM}
use Rattle.quorum_answers.specs.Answering.{Answers, Attempts, EndsShort, Holds, IsNothing}
use Rattle.quorum_answers.proofs.Grows.{run_grows}

first_same : (x y : ℕ) (xs ys : List ℕ) → x ∷ xs ≡ y ∷ ys → x ≡ y
first_same x y xs ys is = cc

-- a run that had no memory has changed nothing
pub runs_without_memory : (words : List (List ℕ)) (s : DeskState) → Runs words s s Memory
runs_without_memory words s = record {
  answered = λ no. absurd (let k : false ≡ true = no in cc);
  headline = λ no. absurd (let k : false ≡ true = no in cc);
  too_large = λ no. absurd (let k : false ≡ true = no in cc);
  part = λ no. absurd (let k : Memory ≡ WriteFault = no in cc);
  silent = λ yes. refl;
  untouched = λ yes. refl;
  files = λ path apart. refl;
  unread = λ refused. refl;
  plain_read = λ plain no. absurd (let k : Memory ≡ ReadFault = no in cc);
}

pub memory_wanting : (words : List (List ℕ)) (files : Files) (room : List ℕ) (end : QuorumEnd) → end.status ≡ 8 → IsNothing end → end.wanting ≡ 0 → Answers words files room end
memory_wanting words files room end is nothing none = record {
  status = Memory;
  before = [];
  new = at_start files [] (length room);
  status_is = is;
  ran = runs_without_memory words (at_start files [] (length room));
  holds = λ no. absurd (let k : false ≡ true = no in cc);
  within = omega (arith, nothing);
  nothing = λ no. nothing;
  wanting = λ no. absurd (let k : Memory ≡ WriteFault = no in cc);
  enough = λ other. none;
}

-- the room is still the one whose name stood on the output
pub same_mark : (words : List (List ℕ)) (old new : DeskState) (status : Status) → Runs words old new status → (x y : ℕ) (said : List ℕ) → old.out ≡ x ∷ [] → new.out ≡ y ∷ said → y ≡ x
same_mark words old new status ran x y said before after =
    let grown = run_grows words old new status ran in
    first_same y x said grown.0 (sym after ∙ grown.1 ∙ ap (λ (l : List ℕ). l ++ grown.0) before)

-- a run that ended so, with its certificate and its text in the room
pub attempts_of : (words : List (List ℕ)) (files : Files) (before was room : List ℕ) (old new : DeskState) (status : Status) (end : QuorumEnd) → old ≡ at_start files before (length was) → length room ≡ length was → Runs words old new status
    → end.status ≡ code_of status → (IsTrue (is_answer status) → Holds room before end new) → end.cert + end.text ≤ length room → (is_answer status ≡ false → IsNothing end) → end.wanting ≡ 0 → Attempts words files room end
attempts_of words files before was room old new status end start len ran is holds within nothing none = record {
  status = status;
  before = before;
  new = new;
  status_is = is;
  ran = subst (λ n. Runs words (at_start files before n) new status) (sym len) (subst (λ (s : DeskState). Runs words s new status) start ran);
  holds = holds;
  within = within;
  nothing = nothing;
  none = none;
}

-- the same, over the room that was given, whose name is x: y and z are those of the desk's room after the run and at the end
pub attempted_as : (words : List (List ℕ)) (files : Files) (x y z : ℕ) (was final at_run at_end said : List ℕ) (old new : DeskState) (status : Status) (end : QuorumEnd) → old ≡ at_start files (x ∷ []) (length was) → Runs words old new status → new.out ≡ y ∷ said → z ≡ y
    → (x ≡ z → final ≡ at_end) → length final ≡ length was → length at_end ≡ length at_run → end.status ≡ code_of status → (IsTrue (is_answer status) → Holds at_end (y ∷ []) end new) → end.cert + end.text ≤ length at_end → (is_answer status ≡ false → IsNothing end) → end.wanting ≡ 0 → Attempts words files final end
attempted_as words files x y z was final at_run at_end said old new status end start ran out kept back len end_len is holds within nothing none =
    let same : y ≡ x = same_mark words old new status ran x y said (ap (λ (s : DeskState). s.out) start) out in
    let final_is : final ≡ at_end = back (sym (kept ∙ same)) in
    attempts_of words files (x ∷ []) was final old new status end start len ran is
    (λ yes. subst (λ (l : List ℕ). Holds l (x ∷ []) end new) (sym final_is) (subst (λ n. Holds at_end (n ∷ []) end new) same (holds yes)))
    (subst (λ (l : List ℕ). end.cert + end.text ≤ length l) (sym final_is) within)
    nothing
    none

-- only a write fault has its number
pub fault_of : (s : Status) → code_of s ≡ 7 → s ≡ WriteFault
fault_of Yes is = absurd (omega (arith, is))
fault_of No is = absurd (omega (arith, is))
fault_of Unknown is = absurd (omega (arith, is))
fault_of Usage is = absurd (omega (arith, is))
fault_of ConfigRefused is = absurd (omega (arith, is))
fault_of CertRefused is = absurd (omega (arith, is))
fault_of ReadFault is = absurd (omega (arith, is))
fault_of WriteFault is = refl
fault_of Memory is = absurd (omega (arith, is))
fault_of TooLarge is = absurd (omega (arith, is))
fault_of ScriptRefused is = absurd (omega (arith, is))

-- what fitted, or could not be read, is the answer
pub answers_first : (words : List (List ℕ)) (files : Files) (room : List ℕ) (first : QuorumEnd) → Attempts words files room first → (first.status ≡ 7 → ⊥) → Answers words files room first
answers_first words files room first a other = record {
  status = a.status;
  before = a.before;
  new = a.new;
  status_is = a.status_is;
  ran = a.ran;
  holds = a.holds;
  within = a.within;
  nothing = a.nothing;
  wanting = λ is. absurd (other (a.status_is ∙ ap code_of is));
  enough = λ no. a.none;
}

-- what did not fit is measured
pub answers_short : (words : List (List ℕ)) (files : Files) (room : List ℕ) (first end : QuorumEnd) → Attempts words files room first → first.status ≡ 7 → EndsShort words files (length room) end → Answers words files room end
answers_short words files room first end a seven s = elim s.status [
  | inl eight ↦ memory_wanting words files room end eight s.nothing (s.memory eight)
  | inr is ↦
      let fault : a.status ≡ WriteFault = fault_of a.status (sym a.status_is ∙ seven) in
      record {
        status = a.status;
        before = a.before;
        new = a.new;
        status_is = is ∙ sym seven ∙ a.status_is;
        ran = a.ran;
        holds = λ yes. absurd (let k : false ≡ true = subst (λ (t : Status). IsTrue (is_answer t)) fault yes in cc);
        within = omega (arith, s.nothing);
        nothing = λ no. s.nothing;
        wanting = λ yes. s.wants is;
        enough = λ no. absurd (no fault);
      }
]

-- a run on the endless desk that ended so
pub ends_short : (words : List (List ℕ)) (files : Files) (room : ℕ) (old new : DeskState) (status : Status) (total : ℕ) (end : QuorumEnd) → old ≡ endless files → Runs words old new status → total ≡ length (certificate_of new) + length new.out → total ≤ MOST_ROOM
    → IsNothing end → (end.status ≡ 8) ⊎ (end.status ≡ 7) → (end.status ≡ 8 → end.wanting ≡ 0) → (end.status ≡ 7 → room < end.wanting) → (end.status ≡ 7 → IsTrue (is_answer status) → end.wanting ≡ total) → (end.status ≡ 7 → is_answer status ≡ false → status ≡ WriteFault)
    → (end.status ≡ 7 → is_answer status ≡ false → end.wanting ≡ 2 ^ 64 - 1) → EndsShort words files room end
ends_short words files room old new status total end start ran value within nothing cases memory more answer fault never = record {
  nothing = nothing;
  status = cases;
  memory = memory;
  wants = λ is. record {
    status = status;
    new = new;
    ran = subst (λ (s : DeskState). Runs words s new status) start ran;
    answer = λ yes. answer is yes ∙ value;
    below = λ yes. subst (λ n. n ≤ MOST_ROOM) (sym (answer is yes)) within;
    fault = fault is;
    never = never is;
    more = more is;
  };
}
