-- Steps that are read as a stream come to what their lines do.
use Rattle.std.proofs.Common.{◌≡◌, ℕ, ◌+◌, List, [], ◌∷◌, length, Bool, not, true, false, ◌||◌, ◌==◌, refl, ap, ◌∙◌, sym, cond, Option, None, Some, Result, Ok, Err, codes}
use Rattle.std.specs.Str.{bytes_eq}
use Rattle.std.proofs.lemmas.Bool.{or_parts}
use Rattle.fbas_model.specs.Nodes.{Table}
use Rattle.fbas_model.specs.Systems.{System}
use Rattle.lrat_model.specs.Clauses.{with_clause}
use Rattle.lrat_model.specs.Steps.{ProofStep, Addition, Deletion, Database, deletion_fault, progress_at}
use Rattle.lrat_model.specs.Rules.{addition_fault_by}
use Rattle.lrat_model.specs.declared.step.Rule.{Rule}
use Rattle.lrat_model.specs.declared.step.Progress.{Progress}
use Rattle.lrat_model.specs.declared.step.Progress.TheVariants.{Going as going, Refuted}
use Rattle.lrat_checker.specs.Checking.{Checking, Stepping}
use Rattle.lrat_text.specs.Lines.{step_in}
use Rattle.lrat_text.specs.declared.faults.LineFault.{LineFault}
use Rattle.lrat_stream.specs.Outline.{Adds, outline_in}
use Rattle.lrat_stream.specs.Ahead.{ahead}
use Rattle.lrat_stream.specs.declared.words.StepWords.{StepWords}
use Rattle.enumeration_journal.specs.declared.kinds.ListKind.{ListKind}
use Rattle.enumeration_journal.specs.declared.kinds.ListKind.TheVariants.{Whole, Partial as Part}
use Rattle.cert_lines.specs.Steps.{is_other}
use Rattle.cert_lines.specs.Words.{Word, words_of, onto_first}
use Rattle.cert_lines.specs.Saying.{or_bad_line}
use Rattle.cert_lines.specs.declared.faults.CertError.{CertError}
use Rattle.cert_lines.specs.Limits.{unless}
use Rattle.cert_lines.specs.declared.faults.CertError.TheVariants.{NotNew}
use Rattle.certificate_file.specs.declared.given.Given.{Given}
use Rattle.certificate_file.specs.Acceptance.{in_reach, extent, step_unless, take_step, step_line, after_progress, take_line}
use Rattle.reach_kinds.specs.Bodies.{and_then, is_covered, asks_steps, listed_by, literal_in, list_step_unless, list_step, list_line, list_text, after_list_step}
use Rattle.certificate_file.specs.Known.{IsKnown, IsKnownState}
use Rattle.certificate_file.proofs.Meaning.{known_step, known_reach}
use Rattle.certificate_file.specs.Streamed.{Finished, after_deletion, read, is_part, place_of, after_step_of, checking_of, HasSizedSets}
use Rattle.certificate_file.specs.declared.places.Proof.{Proof}
use Rattle.certificate_file.specs.declared.places.Proof.TheVariants as proof
use Rattle.certificate_file.specs.declared.places.Aim.{Aim}
use Rattle.certificate_file.specs.declared.places.Aim.TheVariants as aim
use Rattle.certificate_file.specs.declared.places.Header.{Header}
use Rattle.certificate_file.specs.declared.places.Subject.{Subject}
use Rattle.reach_kinds.specs.GroupBodies.{group_step_unless, group_step, group_line, group_text, after_group_step}
use Rattle.reach_kinds.specs.declared.places.ListPart.{ListPart}
use Rattle.reach_kinds.specs.declared.places.GroupPart.{GroupPart}
use Rattle.reach_kinds.specs.declared.places.GroupListing.{GroupListing}
use Rattle.reach_kinds.specs.declared.places.Listing.{Listing}
use Rattle.certificate_file.specs.declared.places.Place.TheVariants.{AtSteps, AtReach}
use Rattle.reach_kinds.specs.declared.places.ReachPlace.TheVariants.{AtList, AtGroups}
use Rattle.reach_kinds.specs.declared.places.ReachState.{ReachState}
use Rattle.enumeration_journal.specs.declared.kinds.Listed.{Listed}
use Rattle.enumeration_journal.specs.declared.kinds.Listed.TheVariants as listed
use Rattle.certificate_file.specs.declared.places.State.{State}

not_end : (text : List ℕ) → is_other text ≡ false → bytes_eq text (codes "end") ≡ false
not_end [] is = refl
not_end (b ∷ bytes) is = rw (or_parts (b == 101) ((b == 113) || ((b == 98) || (b == 115))) is).0 refl

first_word : (sought : Listed) (b : ℕ) (ws : List Word) → (b == 113) ≡ false → (b == 98) ≡ false → (b == 115) ≡ false → listed_by sought (onto_first b ws) ≡ None
first_word listed.Quorum b [] q k s = rw (q, k) refl
first_word listed.Quorum b (w ∷ ws) q k s = rw (q, k) refl
first_word listed.Blocking b [] q k s = rw (q, k) refl
first_word listed.Blocking b (w ∷ ws) q k s = rw (q, k) refl
first_word listed.Smaller b [] q k s = rw (s, k) refl
first_word listed.Smaller b (w ∷ ws) q k s = rw (s, k) refl

no_word : (sought : Listed) (ws : List Word) → listed_by sought ([] ∷ ws) ≡ None
no_word listed.Quorum ws = refl
no_word listed.Blocking ws = refl
no_word listed.Smaller ws = refl

not_listed : (sought : Listed) (text : List ℕ) → is_other text ≡ false → listed_by sought (words_of text) ≡ None
not_listed sought [] is = no_word sought []
not_listed sought (b ∷ bytes) is =
    let later = or_parts (b == 113) ((b == 98) || (b == 115)) (or_parts (b == 101) ((b == 113) || ((b == 98) || (b == 115))) is).1 in
    let last = or_parts (b == 98) (b == 115) later.1 in
    elim (b == 32) as (λ t. listed_by sought (cond t ([] ∷ words_of bytes) (onto_first b (words_of bytes))) ≡ None) [
      | true ↦ no_word sought (words_of bytes)
      | false ↦ first_word sought b (words_of bytes) later.0 last.0 last.1
    ]

-- the places of steps, where lines are taken so
pub at_steps : (f : System) (given : Given) (to : Aim) (h : Header) (c : Checking) (n l : ℕ) (text : List ℕ) → take_line f given (AtSteps to h c n) l text ≡ step_line to h c n l text
unfolding take_line
at_steps f given to h c n l text = refl

pub at_list : (f : System) (given : Given) (s : Subject) (k : Listing) (l : ℕ) (text : List ℕ) → take_line f given (AtReach s (AtList k)) l text ≡ and_then (λ r. Ok (in_reach s r)) (list_line f s.nodes k l text)
unfolding take_line
at_list f given s k l text = refl

pub at_groups : (f : System) (given : Given) (s : Subject) (k : GroupListing) (l : ℕ) (text : List ℕ) → take_line f given (AtReach s (AtGroups k)) l text ≡ and_then (λ r. Ok (in_reach s r)) (group_line f s.nodes k l text)
unfolding take_line
at_groups f given s k l text = refl

-- ---- steps that were read

-- the state after a step that was read
abbrev next_of : Proof → Finished × ℕ → Result State CertError
next_of p r = Ok (after_step_of p r.0.0 r.1 r.0.1)

unless_then : {A B : Type 0} (g : A → Result B CertError) (e : CertError) (t : Bool) (r : Result A CertError) → unless e t (and_then g r) ≡ and_then g (unless e t r)
unless_then g e true r = refl
unless_then g e false r = refl

unless_both : {A B C : Type 0} (w : A → Result C CertError) (g : B → Result C CertError) (e : CertError) (t : Bool) (a : A) (b : B) → w a ≡ g b → and_then w (unless e t (Ok a)) ≡ and_then g (unless e t (Ok b))
unless_both w g e true a b same = same
unless_both w g e false a b same = refl

progress_so : (to : Aim) (h : Header) (c : Checking) (n : ℕ) (p : Progress) → after_progress to h c n p ≡ after_step_of (proof.Steps to h) c n p
progress_so to h c n going = refl
progress_so to h c n Refuted = refl

list_progress_so : (s : Subject) (sought : Listed) (kind : ListKind) (part : ListPart) (sets : List Table) (c : Checking) (n : ℕ) (p : Progress) → in_reach s (after_list_step (record { sought = sought; kind = kind; part = part; checker = c; sets = sets; units = n }) p) ≡ after_step_of (proof.List s sought kind part sets) c n p
list_progress_so s sought kind part sets c n going = refl
list_progress_so s listed.Quorum kind part sets c n Refuted = refl
list_progress_so s listed.Blocking kind part sets c n Refuted = refl
list_progress_so s listed.Smaller kind part sets c n Refuted = refl

group_progress_so : (s : Subject) (kind : ListKind) (over : GroupPart) (sets : List Table) (c : Checking) (n : ℕ) (p : Progress) → in_reach s (after_group_step (record { kind = kind; over = over; checker = c; sets = sets; units = n }) p) ≡ after_step_of (proof.Groups s kind over sets) c n p
group_progress_so s kind over sets c n going = refl
group_progress_so s kind over sets c n Refuted = refl

module _ (l : ℕ) (h : Header) (c : Checking) (n : ℕ) where
  step_taken : (to : Aim) (r : Result ProofStep LineFault) → and_then (take_step l to h c n) (and_then (literal_in (extent to) l) (or_bad_line l r)) ≡ and_then (next_of (proof.Steps to h)) (read l (asks_steps (extent to)) c.rule c.vars c.database n (outline_in c.rule c.vars c.database r))
  step_taken aim.Refutation (Err e) = refl
  step_taken aim.Partial (Err e) = refl
  step_taken aim.Refutation (Ok (Addition id lits hints)) = elim (addition_fault_by c.rule c.vars c.database id lits hints) as (λ o. step_unless l aim.Refutation h c n (Addition id lits hints) o ≡ and_then (next_of (proof.Steps aim.Refutation h)) (read l false c.rule c.vars c.database n (Some (Adds id lits o)))) [
    | Some fault ↦ refl
    | None ↦ ap (λ (s : State). Ok s) (progress_so aim.Refutation h (record { rule = c.rule; vars = c.vars; database = record { held = with_clause c.database.held id lits; last = id } }) (n + 1) (progress_at lits))
  ]
  step_taken aim.Partial (Ok (Addition id [] hints)) = refl
  step_taken aim.Partial (Ok (Addition id (x ∷ xs) hints)) = elim (addition_fault_by c.rule c.vars c.database id (x ∷ xs) hints) as (λ o. step_unless l aim.Partial h c n (Addition id (x ∷ xs) hints) o ≡ and_then (next_of (proof.Steps aim.Partial h)) (read l true c.rule c.vars c.database n (Some (Adds id (x ∷ xs) o)))) [
    | Some fault ↦ refl
    | None ↦ unless_then (next_of (proof.Steps aim.Partial h)) (NotNew l) (not (is_covered c.database.held id (x ∷ xs))) (Ok ((record { rule = c.rule; vars = c.vars; database = record { held = with_clause c.database.held id (x ∷ xs); last = id } }, going), n + 1))
  ]
  step_taken aim.Refutation (Ok (Deletion id ids)) = elim (deletion_fault c.database.held [] ids) as (λ o. step_unless l aim.Refutation h c n (Deletion id ids) o ≡ and_then (next_of (proof.Steps aim.Refutation h)) (and_then (λ t. Ok (t, n)) (after_deletion l c.rule c.vars c.database ids o))) [
    | Some fault ↦ refl
    | None ↦ refl
  ]
  step_taken aim.Partial (Ok (Deletion id ids)) = elim (deletion_fault c.database.held [] ids) as (λ o. step_unless l aim.Partial h c n (Deletion id ids) o ≡ and_then (next_of (proof.Steps aim.Partial h)) (and_then (λ t. Ok (t, n)) (after_deletion l c.rule c.vars c.database ids o))) [
    | Some fault ↦ refl
    | None ↦ refl
  ]

module _ (l : ℕ) (s : Subject) (sought : Listed) (part : ListPart) (c : Checking) (sets : List Table) (n : ℕ) where
  list_taken : (kind : ListKind) (r : Result ProofStep LineFault) → and_then (λ x. Ok (in_reach s x)) (and_then (list_step (record { sought = sought; kind = kind; part = part; checker = c; sets = sets; units = n }) l) (and_then (literal_in kind l) (or_bad_line l r))) ≡ and_then (next_of (proof.List s sought kind part sets)) (read l (asks_steps kind) c.rule c.vars c.database n (outline_in c.rule c.vars c.database r))
  list_taken Whole (Err e) = refl
  list_taken Part (Err e) = refl
  list_taken Whole (Ok (Addition id lits hints)) = elim (addition_fault_by c.rule c.vars c.database id lits hints) as (λ o. and_then (λ x. Ok (in_reach s x)) (list_step_unless l (record { sought = sought; kind = Whole; part = part; checker = c; sets = sets; units = n }) (Addition id lits hints) o) ≡ and_then (next_of (proof.List s sought Whole part sets)) (read l false c.rule c.vars c.database n (Some (Adds id lits o)))) [
    | Some fault ↦ refl
    | None ↦ ap (λ (s : State). Ok s) (list_progress_so s sought Whole part sets (record { rule = c.rule; vars = c.vars; database = record { held = with_clause c.database.held id lits; last = id } }) (n + 1) (progress_at lits))
  ]
  list_taken Part (Ok (Addition id [] hints)) = refl
  list_taken Part (Ok (Addition id (x ∷ xs) hints)) = elim (addition_fault_by c.rule c.vars c.database id (x ∷ xs) hints) as (λ o. and_then (λ x. Ok (in_reach s x)) (list_step_unless l (record { sought = sought; kind = Part; part = part; checker = c; sets = sets; units = n }) (Addition id (x ∷ xs) hints) o) ≡ and_then (next_of (proof.List s sought Part part sets)) (read l true c.rule c.vars c.database n (Some (Adds id (x ∷ xs) o)))) [
    | Some fault ↦ refl
    | None ↦ unless_both (λ (x : ReachState). Ok (in_reach s x)) (next_of (proof.List s sought Part part sets)) (NotNew l) (not (is_covered c.database.held id (x ∷ xs))) _ ((record { rule = c.rule; vars = c.vars; database = record { held = with_clause c.database.held id (x ∷ xs); last = id } }, going), n + 1) refl
  ]
  list_taken Whole (Ok (Deletion id ids)) = elim (deletion_fault c.database.held [] ids) as (λ o. and_then (λ x. Ok (in_reach s x)) (list_step_unless l (record { sought = sought; kind = Whole; part = part; checker = c; sets = sets; units = n }) (Deletion id ids) o) ≡ and_then (next_of (proof.List s sought Whole part sets)) (and_then (λ t. Ok (t, n)) (after_deletion l c.rule c.vars c.database ids o))) [
    | Some fault ↦ refl
    | None ↦ refl
  ]
  list_taken Part (Ok (Deletion id ids)) = elim (deletion_fault c.database.held [] ids) as (λ o. and_then (λ x. Ok (in_reach s x)) (list_step_unless l (record { sought = sought; kind = Part; part = part; checker = c; sets = sets; units = n }) (Deletion id ids) o) ≡ and_then (next_of (proof.List s sought Part part sets)) (and_then (λ t. Ok (t, n)) (after_deletion l c.rule c.vars c.database ids o))) [
    | Some fault ↦ refl
    | None ↦ refl
  ]

module _ (l : ℕ) (s : Subject) (over : GroupPart) (c : Checking) (sets : List Table) (n : ℕ) where
  group_taken : (kind : ListKind) (r : Result ProofStep LineFault) → and_then (λ x. Ok (in_reach s x)) (and_then (group_step (record { kind = kind; over = over; checker = c; sets = sets; units = n }) l) (and_then (literal_in kind l) (or_bad_line l r))) ≡ and_then (next_of (proof.Groups s kind over sets)) (read l (asks_steps kind) c.rule c.vars c.database n (outline_in c.rule c.vars c.database r))
  group_taken Whole (Err e) = refl
  group_taken Part (Err e) = refl
  group_taken Whole (Ok (Addition id lits hints)) = elim (addition_fault_by c.rule c.vars c.database id lits hints) as (λ o. and_then (λ x. Ok (in_reach s x)) (group_step_unless l (record { kind = Whole; over = over; checker = c; sets = sets; units = n }) (Addition id lits hints) o) ≡ and_then (next_of (proof.Groups s Whole over sets)) (read l false c.rule c.vars c.database n (Some (Adds id lits o)))) [
    | Some fault ↦ refl
    | None ↦ ap (λ (s : State). Ok s) (group_progress_so s Whole over sets (record { rule = c.rule; vars = c.vars; database = record { held = with_clause c.database.held id lits; last = id } }) (n + 1) (progress_at lits))
  ]
  group_taken Part (Ok (Addition id [] hints)) = refl
  group_taken Part (Ok (Addition id (x ∷ xs) hints)) = elim (addition_fault_by c.rule c.vars c.database id (x ∷ xs) hints) as (λ o. and_then (λ x. Ok (in_reach s x)) (group_step_unless l (record { kind = Part; over = over; checker = c; sets = sets; units = n }) (Addition id (x ∷ xs) hints) o) ≡ and_then (next_of (proof.Groups s Part over sets)) (read l true c.rule c.vars c.database n (Some (Adds id (x ∷ xs) o)))) [
    | Some fault ↦ refl
    | None ↦ unless_both (λ (x : ReachState). Ok (in_reach s x)) (next_of (proof.Groups s Part over sets)) (NotNew l) (not (is_covered c.database.held id (x ∷ xs))) _ ((record { rule = c.rule; vars = c.vars; database = record { held = with_clause c.database.held id (x ∷ xs); last = id } }, going), n + 1) refl
  ]
  group_taken Whole (Ok (Deletion id ids)) = elim (deletion_fault c.database.held [] ids) as (λ o. and_then (λ x. Ok (in_reach s x)) (group_step_unless l (record { kind = Whole; over = over; checker = c; sets = sets; units = n }) (Deletion id ids) o) ≡ and_then (next_of (proof.Groups s Whole over sets)) (and_then (λ t. Ok (t, n)) (after_deletion l c.rule c.vars c.database ids o))) [
    | Some fault ↦ refl
    | None ↦ refl
  ]
  group_taken Part (Ok (Deletion id ids)) = elim (deletion_fault c.database.held [] ids) as (λ o. and_then (λ x. Ok (in_reach s x)) (group_step_unless l (record { kind = Part; over = over; checker = c; sets = sets; units = n }) (Deletion id ids) o) ≡ and_then (next_of (proof.Groups s Part over sets)) (and_then (λ t. Ok (t, n)) (after_deletion l c.rule c.vars c.database ids o))) [
    | Some fault ↦ refl
    | None ↦ refl
  ]

-- a step line is taken as its outline is
read_so : (f : System) (given : Given) (p : Proof) (c : Checking) (n l : ℕ) (text : List ℕ) → is_other text ≡ false → take_line f given (place_of p c n) l text ≡ and_then (next_of p) (read l (is_part p) c.rule c.vars c.database n (outline_in c.rule c.vars c.database (step_in text)))
read_so f given (proof.Steps to h) c n l text is = at_steps f given to h c n l text ∙ rw (not_end text is) (step_taken l h c n to (step_in text))
read_so f given (proof.List s sought kind part sets) c n l text is =
    at_list f given s (record { sought = sought; kind = kind; part = part; checker = c; sets = sets; units = n }) l text
    ∙ rw (not_end text is)
    (ap (λ (o : Option Listed). and_then (λ x. Ok (in_reach s x)) (list_text f s.nodes (record { sought = sought; kind = kind; part = part; checker = c; sets = sets; units = n }) l text o)) (not_listed sought text is) ∙ list_taken l s sought part c sets n kind (step_in text))
read_so f given (proof.Groups s kind over sets) c n l text is =
    at_groups f given s (record { kind = kind; over = over; checker = c; sets = sets; units = n }) l text
    ∙ rw (not_end text is)
    (ap (λ (o : Option Listed). and_then (λ x. Ok (in_reach s x)) (group_text f s.nodes (record { kind = kind; over = over; checker = c; sets = sets; units = n }) l text o)) (not_listed listed.Blocking text is) ∙ group_taken l s over c sets n kind (step_in text))

-- a step line that was read as a stream, before and after which the checkers were these, is taken so
pub read_line : (f : System) (given : Given) (p : Proof) (part : Bool) (now later : Stepping) (n l line : ℕ) (words : StepWords) (text : List ℕ) (r : Result (Finished × ℕ) CertError)
    → later.rule ≡ now.rule → later.vars ≡ now.vars → later.database ≡ now.database → line ≡ l → part ≡ is_part p → is_other text ≡ false
    → outline_in now.rule now.vars now.database (step_in text) ≡ ahead now.rule now.vars now.database words later.open_addition []
    → read line part later.rule later.vars later.database n (ahead later.rule later.vars later.database words later.open_addition []) ≡ r
    → take_line f given (place_of p (checking_of now) n) l text ≡ and_then (next_of p) r
read_line f given p part now later n l line words text r rule vars database number is other told came =
    read_so f given p (checking_of now) n l text other
    ∙ ap (and_then (next_of p)) (
    ap (read l (is_part p) now.rule now.vars now.database n) told
    ∙ sym (ap (λ (u : Rule). read l (is_part p) u now.vars now.database n (ahead u now.vars now.database words later.open_addition [])) rule)
    ∙ sym (ap (λ (v : ℕ). read l (is_part p) later.rule v now.database n (ahead later.rule v now.database words later.open_addition [])) vars)
    ∙ sym (ap (λ (b : Database). read l (is_part p) later.rule later.vars b n (ahead later.rule later.vars b words later.open_addition [])) database)
    ∙ sym (ap (λ (x : ℕ). read x (is_part p) later.rule later.vars later.database n (ahead later.rule later.vars later.database words later.open_addition [])) number)
    ∙ sym (ap (λ (x : Bool). read line x later.rule later.vars later.database n (ahead later.rule later.vars later.database words later.open_addition [])) is)
    ∙ came
    )

-- the sets of a proof's list have places for the system's nodes
pub sized_sets : (f : System) (given : Given) (p : Proof) (c : Checking) (n : ℕ) → IsKnown f given (place_of p c n) → HasSizedSets p
sized_sets f given (proof.Steps to h) c n is = tt
sized_sets f given (proof.List s sought kind part sets) c n is = (length f.sets, λ k t low. (is.1.sets k t low).places)
sized_sets f given (proof.Groups s kind over sets) c n is = (length over.groups, is.1.sets)

-- what is known after a line of a proof by steps
pub known_after : (f : System) (given : Given) (p : Proof) (c : Checking) (n l : ℕ) (text : List ℕ) (state : State) → IsKnown f given (place_of p c n) → take_line f given (place_of p c n) l text ≡ Ok state → IsKnownState f given state
known_after f given (proof.Steps to h) c n l text state is e = known_step f given to h c n l text is state (sym (at_steps f given to h c n l text) ∙ e)
known_after f given (proof.List s sought kind part sets) c n l text state is e =
    let k : Listing = record { sought = sought; kind = kind; part = part; checker = c; sets = sets; units = n } in
    known_reach f given s (AtList k) l text is state (sym (at_list f given s k l text) ∙ e)
known_after f given (proof.Groups s kind over sets) c n l text state is e =
    let k : GroupListing = record { kind = kind; over = over; checker = c; sets = sets; units = n } in
    known_reach f given s (AtGroups k) l text is state (sym (at_groups f given s k l text) ∙ e)
