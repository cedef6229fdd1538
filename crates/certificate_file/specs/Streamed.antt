-- What a step line comes to that is read as a stream, by the outline of its step.
use Rattle.std.specs.Prelude.{◌≡◌, ℕ, ◌+◌, List, [], ◌∷◌, length, All, Bool, true, false, not, ◌&&◌, Option, None, Some, Result, Ok, Err, if◌then◌else◌}
use Rattle.std.specs.Global.{Vec}
use Rattle.fbas_model.specs.Systems.{System}
use Rattle.lrat_model.specs.Clauses.{Held, with_clause, without}
use Rattle.lrat_model.specs.Steps.{Database, deletion_fault, progress_at}
use Rattle.lrat_model.specs.declared.step.Rule.{Rule}
use Rattle.lrat_model.specs.declared.step.StepFault.{StepFault}
use Rattle.lrat_model.specs.declared.step.Progress.{Progress}
use Rattle.lrat_model.specs.declared.step.Progress.TheVariants.{Going as going, Refuted}
use Rattle.lrat_checker.specs.Checking.{Checking, Stepping}
use Rattle.lrat_stream.specs.Outline.{StepOutline, Adds, Deletes}
use Rattle.enumeration_journal.specs.Order.{ordered}
use Rattle.cert_lines.specs.Limits.{unless}
use Rattle.reach_kinds.specs.Bodies.{and_then, is_covered, asks_steps}
use Rattle.certificate_file.specs.Acceptance.{extent, take_line}
use Rattle.certificate_file.specs.declared.given.Given.{Given}
use Rattle.certificate_file.specs.declared.places.Conclusion.TheVariants.{Refutation}
use Rattle.reach_kinds.specs.declared.places.ReachPlace.TheVariants.{AtList, AtGroups, AtEnd as Ended}
use Rattle.reach_kinds.specs.declared.places.Reached.TheVariants as reached
use Rattle.reach_kinds.specs.Bodies.{in_shown_order, whole_of}
use Rattle.certificate_file.specs.declared.places.Place.{Place}
use Rattle.certificate_file.specs.declared.places.Place.TheVariants.{AtSteps, AtReach, AtEnd}
use Rattle.certificate_file.specs.declared.places.State.{State}
use Rattle.certificate_file.specs.declared.places.State.TheVariants.{Going}
use Rattle.certificate_file.specs.declared.places.Proof.{Proof}
use Rattle.certificate_file.specs.declared.places.Proof.TheVariants as proof
use Rattle.cert_lines.specs.declared.faults.CertError.{CertError}
use Rattle.cert_lines.specs.declared.faults.CertError.TheVariants.{BadLine, NotNew, Step}

-- what a checker holds, and where a step led
abbrev pub Finished : Type 0
Finished = Checking × Progress

abbrev pub after_deletion : ℕ → Rule → ℕ → Database → List ℕ → Option StepFault → Result Finished CertError
after_deletion l rule vars database ids (Some fault) = Err (Step l fault)
after_deletion l rule vars database ids None = Ok (record { rule = rule; vars = vars; database = record { held = without database.held ids; last = database.last } }, going)

-- the step of line l taken, where the line has one
abbrev pub finished : ℕ → Rule → ℕ → Database → Option StepOutline → Result Finished CertError
finished l rule vars database None = Err (BadLine l)
finished l rule vars database (Some (Adds id lits (Some fault))) = Err (Step l fault)
finished l rule vars database (Some (Adds id lits None)) = Ok (record { rule = rule; vars = vars; database = record { held = with_clause database.held id lits; last = id } }, progress_at lits)
finished l rule vars database (Some (Deletes id ids)) = after_deletion l rule vars database ids (deletion_fault database.held [] ids)

-- it adds the empty lemma
abbrev pub is_empty_lemma : Option StepOutline → Bool
is_empty_lemma None = false
is_empty_lemma (Some (Adds id [] fault)) = true
is_empty_lemma (Some (Adds id (x ∷ xs) fault)) = false
is_empty_lemma (Some (Deletes id ids)) = false

-- it adds a clause that is not new
abbrev pub covers_read : Held → Option StepOutline → Bool
covers_read held None = false
covers_read held (Some (Adds id lits fault)) = is_covered held id lits
covers_read held (Some (Deletes id ids)) = false

-- the units after it
abbrev pub counted_read : ℕ → Option StepOutline → ℕ
counted_read n None = n
counted_read n (Some (Adds id lits fault)) = n + 1
counted_read n (Some (Deletes id ids)) = n

-- the step of line l taken, and the units after it. In a part of a proof the empty lemma may not stand, and each lemma has to
-- be new
abbrev pub read : ℕ → Bool → Rule → ℕ → Database → ℕ → Option StepOutline → Result (Finished × ℕ) CertError
read l part rule vars database n o =
    if part && is_empty_lemma o then Err (BadLine l)
    else and_then (λ t. unless (NotNew l) (not (part && covers_read database.held o)) (Ok (t, counted_read n o))) (finished l rule vars database o)

-- what a checker holds between two steps
abbrev pub checking_of : Stepping → Checking
checking_of c = record { rule = c.rule; vars = c.vars; database = c.database }

-- ---- proofs by steps

-- whether it is a part of a proof
abbrev pub is_part : Proof → Bool
is_part (proof.Steps to h) = asks_steps (extent to)
is_part (proof.List s sought kind part sets) = asks_steps kind
is_part (proof.Groups s kind over sets) = asks_steps kind

-- the place of its next line, where this is held and there are this many units
abbrev pub place_of : Proof → Checking → ℕ → Place
place_of (proof.Steps to h) c n = AtSteps to h c n
place_of (proof.List s sought kind part sets) c n = AtReach s (AtList (record { sought = sought; kind = kind; part = part; checker = c; sets = sets; units = n }))
place_of (proof.Groups s kind over sets) c n = AtReach s (AtGroups (record { kind = kind; over = over; checker = c; sets = sets; units = n }))

-- the place after the empty lemma
abbrev pub end_of : Proof → Place
end_of (proof.Steps to h) = AtEnd (record { header = h; answer = Refutation })
end_of (proof.List s sought kind part sets) = AtReach s (Ended (whole_of sought (in_shown_order sought sets)))
end_of (proof.Groups s kind over sets) = AtReach s (Ended (reached.OrgBlocking over.groups (ordered sets)))

-- what is so after a step, by where it led
abbrev pub after_step_of : Proof → Checking → ℕ → Progress → State
after_step_of p c n going = Going (place_of p c n)
after_step_of p c n Refuted = Going (end_of p)

-- the place that is awaited after steps: that of the line that was read after them, or, if none was, the one after the empty lemma
abbrev pub next_place : Proof → Checking → ℕ → Option (ℕ × Vec ℕ) → Place
next_place p c n (Some t) = place_of p c n
next_place p c n None = end_of p

-- what is so once that line is taken as well
abbrev pub next_taken : System → Given → Proof → Checking → ℕ → Option (ℕ × Vec ℕ) → Result State CertError
next_taken f given p c n (Some t) = take_line f given (place_of p c n) t.0 t.1.items
next_taken f given p c n None = Ok (Going (end_of p))

-- the sets of a list have places for one number of nodes
abbrev pub HasSizedSets : Proof → Type 0
HasSizedSets (proof.Steps to h) = Unit {0}
HasSizedSets (proof.List s sought kind part sets) = (n : ℕ) × All (λ t. length t ≡ n) sets
HasSizedSets (proof.Groups s kind over sets) = (n : ℕ) × All (λ t. length t ≡ n) sets
