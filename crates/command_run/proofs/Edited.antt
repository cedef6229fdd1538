-- What is said of edits is so, and how it ends.
use Rattle.std.proofs.Common.{◌≡◌, ◌∙◌, ℕ, ◌+◌, ◌++◌, List, [], ◌∷◌, length, IsTrue, Result, Ok, Err, refl, sym, ap, subst}
use Rattle.std.proofs.lemmas.Bool.{false≢true}
use Rattle.std.proofs.lemmas.List.{append_assoc, append-nil}
use Rattle.fbas_model.specs.Nodes.{Nodes, members, ∅}
use Rattle.fbas_model.specs.Fbas.{IsGreatestQuorum, all_nodes}
use Rattle.fbas_model.specs.Systems.{System}
use Rattle.fbas_model.proofs.Tables.{length-table_from}
use Rattle.greatest_quorum.specs.Unmet.{is_available}
use Rattle.greatest_quorum.proofs.GreatestLaws.{greatest_is, table_of}
use Rattle.greatest_quorum.proofs.UnmetLaws.{unmet_is, available_counted, length-unmet_of}
use Rattle.whatif_session.specs.Scripts.{after_line, states_from, with_state, states_of}
use Rattle.whatif_session.specs.Sessions.{nobody, greatest_in, set_in, unmet_in}
use Rattle.whatif_session.specs.declared.faults.ScriptFault.{ScriptFault}
use Rattle.whatif_session.specs.declared.faults.EditFault.{EditFault}
use Rattle.desk_io.specs.State.{DeskState}
use Rattle.printed_lines.specs.Lines.{Text}
use Rattle.request_reading.specs.Status.{is_answer}
use Rattle.request_reading.specs.declared.edits.Edits.{Edits}
use Rattle.request_reading.specs.declared.reply.Reply.{Reply as Answer}
use Rattle.request_reading.specs.declared.status.Status.{Status}
use Rattle.request_reading.specs.declared.status.Status.TheVariants.{Yes, ScriptRefused}
use Rattle.command_run.specs.Printing.{PrintsAnswer}
use Rattle.command_run.specs.Edits.{state_lines, all_lines, states_answer, edits_answer, fault_line, SaysState, SaysStates, EditsShow}

-- ---- what is said is so

nobody_is : (s : System) → members (nobody s) ≡ ∅
nobody_is s = table_of s.sets ∅ (λ v never. absurd (false≢true never))

state_said : (set : Text) (i : ℕ) (s : System) → SaysState s (set_in set s) i (state_lines set i s)
state_said set i s = record {
  quorum = greatest_in s;
  is = subst (λ (b : Nodes). IsGreatestQuorum s.sets b (all_nodes s.sets) (members (greatest_in s))) (nobody_is s) (greatest_is s.sets (nobody s) (length-table_from 0 (length s.sets) ∅));
  available = is_available s.sets (set_in set s);
  unmet = unmet_in set s;
  availability = record {
    is = available_counted s.sets (set_in set s);
    places = length-unmet_of s.sets (set_in set s);
    are = unmet_is s.sets (set_in set s);
  };
  said = refl;
}

states_said : (set : Text) (i : ℕ) (states : List System) → SaysStates set i states (all_lines set i states)
states_said set i [] = refl
states_said set i (s ∷ states) = (state_lines set i s, all_lines set (i + 1) states, state_said set i s, states_said set (i + 1) states, refl)

shown_by : (set : Text) (r : Result (List System) ScriptFault) (old new : DeskState) (status : Status) → PrintsAnswer (states_answer set r) old new status → EditsShow set r old new status
shown_by set (Ok states) old new status p = (p.status_is, all_lines set 0 states, states_said set 0 states, p.out)
shown_by set (Err fault) old new status p = (p.status_is, p.out)

pub edits_show : (e : Edits) (old new : DeskState) (status : Status) → PrintsAnswer (edits_answer e) old new status → EditsShow e.set (states_of e.system e.script) old new status
edits_show e old new status p = shown_by e.set (states_of e.system e.script) old new status p

-- ---- how it ends

pub states_answered : (set : Text) (r : Result (List System) ScriptFault) → IsTrue (is_answer (states_answer set r).status)
states_answered set (Ok states) = refl
states_answered set (Err fault) = refl

-- the same by equal names, scripts and systems
pub edits_said : (e : Edits) (names script : List ℕ) (s : System) (a : Answer) → names ≡ e.set → script ≡ e.script → s ≡ e.system → a ≡ states_answer names (states_of s script) → a ≡ edits_answer e
edits_said e names script s a same_names same_script same_system is = is ∙ (λ i. states_answer (same_names i) (states_of (same_system i) (same_script i)))

-- a fault is one of the script
pub fault_said : (names script : List ℕ) (s : System) (fault : ScriptFault) (a : Answer) → states_of s script ≡ Err fault → a ≡ record { status = ScriptRefused; text = fault_line fault } → a ≡ states_answer names (states_of s script)
fault_said names script s fault a is said = said ∙ sym (ap (states_answer names) is)

-- ---- line by line

-- a text before what is said of systems, if there is no fault
abbrev pub said_after : Text → Text → ℕ → Result (List System) ScriptFault → Result Text ScriptFault
said_after before set i (Ok states) = Ok (before ++ all_lines set i states)
said_after before set i (Err fault) = Err fault

-- the first of the systems is said
pub said_first : (before set : Text) (i : ℕ) (s : System) (r : Result (List System) ScriptFault) → said_after before set i (with_state s r) ≡ said_after (before ++ state_lines set i s) set (i + 1) r
said_first before set i s (Ok states) = ap {B = Result Text ScriptFault} (λ (t : Text). Ok t) (sym (append_assoc before (state_lines set i s) (all_lines set (i + 1) states)))
said_first before set i s (Err fault) = refl

-- a line's edit is made
pub said_step : (before set : Text) (i : ℕ) (s t : System) (line : List ℕ) (rest : List (List ℕ)) → after_line s line ≡ Ok t
    → said_after before set i (states_from (i + 1) s (line ∷ rest)) ≡ said_after (before ++ state_lines set i s) set (i + 1) (states_from (i + 1 + 1) t rest)
said_step before set i s t line rest made = rw made (said_first before set i s (states_from (i + 1 + 1) t rest))

-- a line has a fault
pub said_faulty : (before set : Text) (i : ℕ) (s : System) (fault : EditFault) (line : List ℕ) (rest : List (List ℕ)) → after_line s line ≡ Err fault
    → said_after before set i (states_from (i + 1) s (line ∷ rest)) ≡ Err (record { line = i + 1; fault = fault })
said_faulty before set i s fault line rest refused = rw refused refl

-- no line is left
pub said_last : (before set : Text) (i : ℕ) (s : System) → said_after before set i (states_from (i + 1) s []) ≡ Ok (before ++ state_lines set i s)
said_last before set i s = ap {B = Result Text ScriptFault} (λ (t : Text). Ok (before ++ t)) (append-nil (state_lines set i s))

-- the whole is said
pub said_whole : (set text : Text) (r : Result (List System) ScriptFault) → said_after [] set 0 r ≡ Ok text → states_answer set r ≡ record { status = Yes; text = text }
said_whole set text (Ok states) e = let same : all_lines set 0 states ≡ text = cc in ap {B = Answer} (λ (t : Text). record { status = Yes; text = t }) same
said_whole set text (Err fault) e = absurd cc

-- a fault is one of the script
pub said_fault : (set : Text) (fault : ScriptFault) (r : Result (List System) ScriptFault) → said_after [] set 0 r ≡ Err fault → r ≡ Err fault
said_fault set fault (Ok states) e = absurd cc
said_fault set fault (Err other) e = cc
