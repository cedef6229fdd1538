-- What is so of the part that a search is over, and how the search ends.
use Rattle.std.proofs.Common.{◌≡◌, ◌⊎◌, ℕ, arith, Bool, false, true, IsTrue, length, inl, inr, refl, sym, ◌∙◌, ap, subst}
use Rattle.fbas_model.specs.Nodes.{Table}
use Rattle.fbas_model.specs.Systems.{System}
use Rattle.quorum_questions.specs.Evidence.{Shows}
use Rattle.quorum_questions.specs.declared.answers.Answer.{Answer as Shown}
use Rattle.cert_writer.specs.Finding.{CanBeWritten}
use Rattle.desk_io.specs.State.{DeskState}
use Rattle.desk_io.specs.Faults.{Faults, WriteFails}
use Rattle.cli_words.specs.declared.orders.Goal.{Goal}
use Rattle.request_reading.specs.declared.searches.Search.{Search}
use Rattle.request_reading.specs.declared.reply.Reply.{Reply as Answer}
use Rattle.request_reading.specs.declared.status.Status.{Status}
use Rattle.request_reading.specs.declared.status.Status.TheVariants.{TooLarge, WriteFault, Memory}
use Rattle.request_reading.specs.Status.{is_answer}
use Rattle.command_run.specs.declared.searched.SearchedPart.{SearchedPart}
use Rattle.command_run.specs.Sought.{part, deleted, request, FitsPart}
use Rattle.command_run.specs.Meanings.{AreTooMany, IsCertified, meaning_of}
use Rattle.command_run.specs.Printing.{FindsReply, PrintsAnswer, PrintsAnswerPart}
use Rattle.command_run.specs.Replies.{too_large_answer}
use Rattle.command_run.specs.Searching.{SearchEnds}
use Rattle.command_run.proofs.Replied.{answer_sized}

-- what is so of the part is so of the one that is asked for, and the other way round
pub asked_there : (over : SearchedPart) (P : System → Table → Type 0) → FitsPart over → P over.part.now over.faulty.now → P (part over.search.now) (deleted over.search.now)
asked_there over P is p = subst (λ (f : System). P f (deleted over.search.now)) is.part_is (subst (P over.part.now) is.deleted_are p)

pub there_asked : (over : SearchedPart) (P : System → Table → Type 0) → FitsPart over → P (part over.search.now) (deleted over.search.now) → P over.part.now over.faulty.now
there_asked over P is p = subst (λ (f : System). P f over.faulty.now) (sym is.part_is) (subst (P (part over.search.now)) (sym is.deleted_are) p)

-- what an answer shows of the part that is asked for can be written of the part
pub answer_there : (over : SearchedPart) (found : Shown) → FitsPart over → Shows (part over.search.now).sets (deleted over.search.now) over.search.now.budget found → CanBeWritten (length over.part.now.sets) found
answer_there over found is shows = there_asked over (λ f b. CanBeWritten (length f.sets) found) is (answer_sized (part over.search.now).sets (deleted over.search.now) over.search.now.budget found shows)

-- by the goal of the search, and by the one that a command seeks
pub by_goal : (goal : Goal) (over : SearchedPart) (n : ℕ) → FitsPart over → over.search.now.goal ≡ goal → AreTooMany (meaning_of goal).vars over.part.now over.faulty.now n
    → AreTooMany (meaning_of over.search.now.goal).vars (part over.search.now) (deleted over.search.now) n
by_goal goal over n is asked many =
    subst (λ (g : Goal). AreTooMany (meaning_of g).vars (part over.search.now) (deleted over.search.now) n) (sym asked) (asked_there over (λ f b. AreTooMany (meaning_of goal).vars f b n) is many)

pub small_by : (goal : Goal) (over : SearchedPart) → FitsPart over → ((n : ℕ) → AreTooMany (meaning_of goal).vars over.part.now over.faulty.now n → ⊥) → (n : ℕ) → AreTooMany (meaning_of goal).vars (part over.search.now) (deleted over.search.now) n → ⊥
small_by goal over is small n many = small n (there_asked over (λ f b. AreTooMany (meaning_of goal).vars f b n) is many)

-- what was found, with its reply
abbrev pub finds_reply : (goal : Goal) (over : SearchedPart) (found : (meaning_of goal).Finding) (a : Answer) → FitsPart over → ((n : ℕ) → AreTooMany (meaning_of goal).vars over.part.now over.faulty.now n → ⊥) → IsCertified (meaning_of goal) (request over.search.now) found
    → (meaning_of goal).Replies over.part.now over.faulty.now over.search.now.budget found a → FindsReply (meaning_of goal) over.search.now
finds_reply goal over found a is small finds replies = record {
  small = small_by goal over is small;
  found = found;
  finds = finds;
  answer = a;
  is = asked_there over (λ f b. (meaning_of goal).Replies f b over.search.now.budget found a) is replies;
}

-- ---- how a search ends

no_answer : IsTrue (is_answer Memory) → ⊥
no_answer is = let k : false ≡ true = is in cc

no_fault : Memory ≡ WriteFault → ⊥
no_fault e = cc

-- for want of memory, where nothing was done
pub wanting_ends : (tells : Bool) (s : Search) (state : DeskState) (faults : Faults) → SearchEnds tells s state faults state faults Memory
wanting_ends tells s state faults = record {
  answered = λ tell is. absurd (no_answer is);
  part = λ tell e. absurd (no_fault e);
  silent = λ tell e. refl;
  ends = inr (inr refl);
  faults = record {
    later = omega arith;
    reads = refl;
    rose = λ e. absurd (no_fault e);
    none = λ not. refl;
  };
}

-- writes failed where one says so and where another does
pub fails_as : (before after : Faults) (P Q : Type 0) → (Q → P) → (P → Q) → WriteFails before after P → WriteFails before after Q
fails_as before after P Q to from w = record {
  later = w.later;
  reads = w.reads;
  rose = λ q. w.rose (to q);
  none = λ not. w.none (λ p. not (from p));
}

-- where this many variables are too many, which is told
pub printed_ends : (tells : Bool) (s : Search) (n : ℕ) (a : Answer) (old new : DeskState) (before after : Faults) (status : Status) → a ≡ too_large_answer n → AreTooMany (meaning_of s.goal).vars (part s) (deleted s) n
    → (IsTrue tells → IsTrue (is_answer status) → PrintsAnswer a old new status) → (IsTrue tells → status ≡ WriteFault → PrintsAnswerPart a old new) → (status ≡ a.status) ⊎ (status ≡ WriteFault) → WriteFails before after (status ≡ WriteFault)
    → SearchEnds tells s old before new after status
printed_ends tells s n a old new before after status is many printed part_printed ends faults =
    let at : a.status ≡ TooLarge = ap (λ (x : Answer). x.status) is in
    record {
      answered = λ tell answer. inr (record { vars = n; many = many; printed = subst (λ (x : Answer). PrintsAnswer x old new status) is (printed tell answer) });
      part = λ tell failed. inr (record { vars = n; many = many; printed = subst (λ (x : Answer). PrintsAnswerPart x old new) is (part_printed tell failed) });
      silent = λ tell wanting. absurd (elim ends [
        | inl e ↦ (let k : TooLarge ≡ Memory = sym (e ∙ at) ∙ wanting in cc)
        | inr e ↦ (let k : WriteFault ≡ Memory = sym e ∙ wanting in cc)
      ]);
      ends = elim ends [
        | inl e ↦ inl (subst (λ (x : Status). IsTrue (is_answer x)) (sym (e ∙ at)) refl)
        | inr e ↦ inr (inl e)
      ];
      faults = faults;
    }
