-- No edit takes a name away, so a list of names of a system is one of each system that edits make of it.
use Rattle.std.proofs.Common.{◌≡◌, ℕ, zero, suc, ◌+◌, Bool, true, false, cond, ◌||◌, List, [], ◌∷◌, length, Option, Some, None, Result, Ok, Err, refl, sym, ap, ◌∙◌, subst, inl, inr, slice_index_or}
use Rattle.std.specs.Prelude.{All, is_some, ok_or, if◌then◌else◌, nat_lt}
use Rattle.std.specs.List.{insert, list_any, position_from}
use Rattle.std.specs.Str.{bytes_eq}
use Rattle.std.proofs.lemmas.Bool.{cases_Bool, or_right}
use Rattle.std.proofs.lemmas.Iterator.Adapters.{position_from-zero}
use Rattle.std.proofs.lemmas.List.Elements.{All-nil, All-cons}
use Rattle.fbas_model.specs.declared.TheConstants.{MOST_NODES, MOST_ENTRIES}
use Rattle.fbas_model.specs.Nodes.{Table}
use Rattle.fbas_model.specs.Names.{Name, is_key, place_of, marks}
use Rattle.fbas_model.specs.Trees.{quorum_set, none}
use Rattle.fbas_model.specs.Systems.{System, entries_in}
use Rattle.fbas_core.specs.Replacing.{with_set}
use Rattle.name_set.specs.Lists.{items_of, node_at, unless_fault, unless_faulty, names_read}
use Rattle.name_set.specs.declared.lists.NameFault.{NameFault}
use Rattle.name_set.specs.declared.lists.NameFault.TheVariants.{Unknown, BadKey}
use Rattle.whatif_session.specs.Edits.{Edit, Threshold, Add, Drop, Declare, Retire}
use Rattle.whatif_session.specs.Names.{with_name, with_node, place_for}
use Rattle.whatif_session.specs.Edited.{◌>>=◌, node_in, own_in, inner_in, validator_in, appended, declared, has_set, edited}
use Rattle.whatif_session.specs.Lines.{edit_of}
use Rattle.whatif_session.specs.Scripts.{edited_if_any, after_line, script_lines, states_from, states_after, states_of, with_state}
use Rattle.whatif_session.specs.Changes.{changed_at}
use Rattle.whatif_session.specs.declared.change.Change.TheVariants as change
use Rattle.whatif_session.specs.declared.faults.ScriptFault.{ScriptFault}
use Rattle.whatif_session.specs.declared.faults.EditFault.TheVariants.{Already, TooManyNodes, TooManyEntries}
use Rattle.whatif_session.specs.Sessions.{set_in}
use Rattle.whatif_session.specs.declared.faults.EditFault.{EditFault}

-- ---- a name among names

abbrev has : List Name → Name → Bool
has names name = list_any (λ n. bytes_eq n name) names

found_from : (p : Name → Bool) (i : ℕ) (names : List Name) → is_some (position_from p i names) ≡ list_any p names
found_from p i [] = refl
found_from p i (n ∷ names) = elim (p n) as (λ b. is_some (cond b (Some i) (position_from p (i + 1) names)) ≡ (b || list_any p names)) [
  | true ↦ refl
  | false ↦ found_from p (i + 1) names
]

pub placed : (names : List Name) (name : Name) → is_some (place_of names name) ≡ has names name
placed names name = ap (λ (o : Option ℕ). is_some o) (position_from-zero (λ n. bytes_eq n name) names) ∙ found_from (λ n. bytes_eq n name) 0 names

-- all names of the first are among those of the second
abbrev pub Stay : System → System → Type 0
Stay s t = (name : Name) → is_some (place_of s.names name) ≡ true → is_some (place_of t.names name) ≡ true

stay_same : (s t : System) → t.names ≡ s.names → Stay s t
stay_same s t same name h = ap (λ (ns : List Name). is_some (place_of ns name)) same ∙ h

stay_on : (s t u : System) → Stay s t → Stay t u → Stay s u
stay_on s t u first second name h = second name (first name h)

more_has : (p : Name → Bool) (i : ℕ) (x : Name) (names : List Name) → list_any p names ≡ true → list_any p (insert names i x) ≡ true
more_has p zero x names h = or_right (p x) (list_any p names) h
more_has p (suc i) x [] h = absurd cc
more_has p (suc i) x (n ∷ names) h = elim (cases_Bool (p n)) [
  | inl e ↦ rw e refl
  | inr e ↦ or_right (p n) (list_any p (insert names i x)) (more_has p i x names (sym (ap (λ (b : Bool). b || list_any p names) e) ∙ h))
]

stay_named : (s : System) (name : Name) → Stay s (with_name s name)
stay_named s name k h =
    let p = λ (n : Name). bytes_eq n k in
    placed (insert s.names (place_for name s.names) name) k ∙ more_has p (place_for name s.names) name s.names (sym (placed s.names k) ∙ h)

-- ---- an edit

-- what comes before the end of a chain that ends well
pub bound : {A B : Type 0} → (r : Result A EditFault) (f : A → Result B EditFault) (b : B) → (r >>= f) ≡ Ok b → (a : A) × (r ≡ Ok a) × (f a ≡ Ok b)
bound (Ok a) f b h = (a, refl, h)
bound (Err e) f b h = absurd cc

pub of_ok : {A : Type 0} → (a b : A) → ◌≡◌ {A = Result A EditFault} (Ok a) (Ok b) → a ≡ b
of_ok a b h = cc

stay_by : (s t : System) (name : Name) (known many : Bool) → (if known then Ok s else if many then Err (TooManyNodes (length s.names + 1)) else Ok (with_name s name)) ≡ Ok t → Stay s t
stay_by s t name true many h = stay_same s t (ap (λ (x : System). x.names) (sym (of_ok s t h)))
stay_by s t name false true h = absurd cc
stay_by s t name false false h = subst (λ (x : System). Stay s x) (of_ok (with_name s name) t h) (stay_named s name)

stay_node : (s t : System) (name : Name) → with_node s name ≡ Ok t → Stay s t
stay_node s t name h = stay_by s t name (is_some (place_of s.names name)) (nat_lt MOST_NODES (length s.names + 1)) h

stay_within : (s t : System) (many : Bool) (fault : EditFault) → (if many then Err fault else Ok s) ≡ Ok t → t.names ≡ s.names
stay_within s t true fault h = absurd cc
stay_within s t false fault h = ap (λ (x : System). x.names) (sym (of_ok s t h))

stay_appended : (s t : System) (node : Name) (path : List ℕ) (name : Name) → appended s node path name ≡ Ok t → Stay s t
stay_appended s t node path name h =
    let v = bound (node_in s node) _ t h in
    let d = bound (own_in s v.0) _ t v.2 in
    let w = bound (node_in s name) _ t d.2 in
    stay_same s t (stay_within (with_set s v.0 (Some (changed_at path (change.Add w.0) d.0))) t (nat_lt MOST_ENTRIES (entries_in (with_set s v.0 (Some (changed_at path (change.Add w.0) d.0))).sets)) (TooManyEntries (entries_in (with_set s v.0 (Some (changed_at path (change.Add w.0) d.0))).sets)) w.2)

stay_declared : (s t : System) (node : Name) → declared s node ≡ Ok t → Stay s t
stay_declared s t node h =
    let v = bound (node_in s node) _ t h in
    stay_same s t (ap (λ (x : System). x.names) (sym (of_ok (with_set s v.0 (Some (quorum_set 1 none))) t v.2)))

stay_new : (s t : System) (node : Name) (already : Bool) → (if already then Err Already else (with_node s node >>= (λ u. declared u node))) ≡ Ok t → Stay s t
stay_new s t node true h = absurd cc
stay_new s t node false h =
    let u = bound (with_node s node) (λ u. declared u node) t h in
    stay_on s u.0 t (stay_node s u.0 node u.1) (stay_declared u.0 t node u.2)

pub stay_edited : (s t : System) (edit : Edit) → edited s edit ≡ Ok t → Stay s t
unfolding edited
stay_edited s t (Threshold node path k) h =
    let v = bound (node_in s node) _ t h in
    let d = bound (own_in s v.0) _ t v.2 in
    let q = bound (inner_in path d.0) _ t d.2 in
    stay_same s t (ap (λ (x : System). x.names) (sym (of_ok (with_set s v.0 (Some (changed_at path (change.Threshold k) d.0))) t q.2)))
stay_edited s t (Add node path name) h =
    let v = bound (node_in s node) _ t h in
    let d = bound (own_in s v.0) _ t v.2 in
    let q = bound (inner_in path d.0) _ t d.2 in
    let u = bound (with_node s name) _ t q.2 in
    stay_on s u.0 t (stay_node s u.0 name u.1) (stay_appended u.0 t node path name u.2)
stay_edited s t (Drop node path name) h =
    let v = bound (node_in s node) _ t h in
    let d = bound (own_in s v.0) _ t v.2 in
    let q = bound (inner_in path d.0) _ t d.2 in
    let w = bound (validator_in q.0 (place_of s.names name)) _ t q.2 in
    stay_same s t (ap (λ (x : System). x.names) (sym (of_ok (with_set s v.0 (Some (changed_at path (change.Drop w.0) d.0))) t w.2)))
stay_edited s t (Declare node) h = stay_new s t node (has_set s (place_of s.names node)) h
stay_edited s t (Retire node) h =
    let v = bound (node_in s node) _ t h in
    let d = bound (own_in s v.0) _ t v.2 in
    stay_same s t (ap (λ (x : System). x.names) (sym (of_ok (with_set s v.0 None) t d.2)))

stay_if_any : (s t : System) (edit : Option Edit) → edited_if_any s edit ≡ Ok t → Stay s t
stay_if_any s t None h = absurd cc
stay_if_any s t (Some edit) h = stay_edited s t edit h

-- ---- a script

-- a system that all names of the first stay in, and what follows
stay_with : (s : System) (P : System → Type 0) → P s → (r : Result (List System) ScriptFault) → ((states : List System) → r ≡ Ok states → All P states) → (states : List System) → with_state s r ≡ Ok states → All P states
stay_with s P here (Err fault) rest states h = absurd cc
stay_with s P here (Ok xs) rest states h = let e : (s ∷ xs) ≡ states = cc in subst (λ (ys : List System). All P ys) e (All-cons P s xs here (rest xs refl))

stay_after : (l : ℕ) (s : System) (P : System → Type 0) → P s → (r : Result System EditFault) (next : System → Result (List System) ScriptFault)
    → ((t : System) → r ≡ Ok t → (states : List System) → next t ≡ Ok states → All P states) → (states : List System) → states_after l s r next ≡ Ok states → All P states
stay_after l s P here (Err fault) next rest states h = absurd cc
stay_after l s P here (Ok t) next rest states h = stay_with s P here (next t) (rest t refl) states h

stay_from : (first : System) (l : ℕ) (s : System) (lines : List (List ℕ)) (states : List System) → Stay first s → states_from l s lines ≡ Ok states → All (Stay first) states
stay_from first l s [] states here h = let e : (s ∷ []) ≡ states = cc in subst (λ (ys : List System). All (Stay first) ys) e (All-cons (Stay first) s [] here (All-nil (Stay first)))
stay_from first l s (line ∷ lines) states here h =
    stay_after l s (Stay first) here (after_line s line) (λ t. states_from (l + 1) t lines)
    (λ t is xs e. stay_from first (l + 1) t lines xs (stay_on first s t here (stay_if_any s t (edit_of line) is)) e) states h

-- ---- a list of names

stay_item : (s t : System) (k : ℕ) (item : Name) → Stay s t → (v : ℕ) → node_at s.names k item ≡ Ok v → (w : ℕ) × (node_at t.names k item ≡ Ok w)
stay_item s t k [] stay v h = absurd cc
stay_item s t k (b ∷ bytes) stay v h = elim (cases_Bool (is_key (b ∷ bytes))) [
  | inr other ↦ absurd (let e = sym (ap (λ (x : Bool). if x then ok_or (place_of s.names (b ∷ bytes)) (Unknown k) else Err (BadKey k)) other) ∙ h in cc)
  | inl key ↦
      let there : ok_or (place_of s.names (b ∷ bytes)) (Unknown k) ≡ Ok v = sym (ap (λ (x : Bool). if x then ok_or (place_of s.names (b ∷ bytes)) (Unknown k) else Err (BadKey k)) key) ∙ h in
      let now = some_of (place_of t.names (b ∷ bytes)) (stay (b ∷ bytes) (is_there (place_of s.names (b ∷ bytes)) k v there)) in
      (now.0, ap (λ (x : Bool). if x then ok_or (place_of t.names (b ∷ bytes)) (Unknown k) else Err (BadKey k)) key ∙ ap (λ (o : Option ℕ). ok_or o (Unknown k)) now.1)
]
  where
    is_there : (o : Option ℕ) (k v : ℕ) → ok_or o (Unknown k) ≡ Ok v → is_some o ≡ true
    is_there None k v h = absurd cc
    is_there (Some w) k v h = refl

    some_of : (o : Option ℕ) → is_some o ≡ true → (w : ℕ) × (o ≡ Some w)
    some_of None h = absurd cc
    some_of (Some w) h = (w, refl)

first_known : (r : Result ℕ NameFault) (rest : Result Table NameFault) (set : Table) → unless_fault r rest ≡ Ok set → (v : ℕ) × (r ≡ Ok v) × (rest ≡ Ok set)
first_known (Ok v) rest set h = (v, refl, h)
first_known (Err e) rest set h = absurd cc

stay_items : (s t : System) (k : ℕ) (items : List Name) (a b : Table) → Stay s t → unless_faulty s.names k items (Ok a) ≡ Ok a → unless_faulty t.names k items (Ok b) ≡ Ok b
stay_items s t k [] a b stay h = refl
stay_items s t k (item ∷ items) a b stay h =
    let known = first_known (node_at s.names k item) (unless_faulty s.names (k + 1) items (Ok a)) a h in
    let now = stay_item s t k item stay known.0 known.1 in
    ap (λ (r : Result ℕ NameFault). unless_fault r (unless_faulty t.names (k + 1) items (Ok b))) now.1 ∙ stay_items s t (k + 1) items a b stay known.2

-- what the items come to, if they come to a set
only_set : (names : List Name) (k : ℕ) (items : List Name) (a set : Table) → unless_faulty names k items (Ok a) ≡ Ok set → unless_faulty names k items (Ok a) ≡ Ok a
only_set names k [] a set h = refl
only_set names k (item ∷ items) a set h =
    let known = first_known (node_at names k item) (unless_faulty names (k + 1) items (Ok a)) set h in
    ap (λ (r : Result ℕ NameFault). unless_fault r (unless_faulty names (k + 1) items (Ok a))) known.1 ∙ only_set names (k + 1) items a set known.2

read_again : (s t : System) (text : List ℕ) (set : Table) → Stay s t → names_read text s.names ≡ Ok set → names_read text t.names ≡ Ok (set_in text t)
unfolding names_read
read_again s t text set stay h = stay_items s t 1 (items_of text) (marks s.names (items_of text)) (marks t.names (items_of text)) stay (only_set s.names 1 (items_of text) (marks s.names (items_of text)) set h)

pub names_stay : (s : System) (text script : List ℕ) (set : Table) (states : List System) → names_read text s.names ≡ Ok set → states_of s script ≡ Ok states → All (λ t. names_read text t.names ≡ Ok (set_in text t)) states
unfolding states_of
names_stay s text script set states read h k d low =
    read_again s (slice_index_or states k d) text set (stay_from s 1 s (script_lines script) states (λ name here. here) h k d low) read
