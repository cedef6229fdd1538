-- A pair that is written is accepted.
use Rattle.std.proofs.Common.{◌≡◌, ℕ, ◌≤◌, ◌<◌, List, ◌++◌, length, true, false, not, nat_lt, Option, Some, None, Ok, refl, sym, ◌∙◌, ap, subst, arith, codes, inl, inr, IfSome}
use Rattle.std.proofs.lemmas.Bool.{cases_lt, and_parts, and_from, ltb-true, or_cases, or_right}
use Rattle.hex.specs.Hex.{IsBytes}
use Rattle.fbas_model.specs.Nodes.{Nodes, Table, members, size, ◌∈◌, ◌⊆◌, ◌∪◌, IsLeast, Meets}
use Rattle.fbas_model.specs.Names.{Name, name_cmp}
use Rattle.fbas_model.specs.Fbas.{Fbas, Quorum, all_nodes}
use Rattle.fbas_model.specs.Counting.{is_quorum}
use Rattle.fbas_model.specs.Systems.{System, IsSystem}
use Rattle.fbas_model.specs.Restriction.{kept, rank, restricted, restricted_sets}
use Rattle.fbas_model.proofs.QuorumLaw.{quorum-from}
use Rattle.fbas_model.proofs.RestrictionLaw.{quorum-restricted}
use Rattle.witness_pair.specs.Making.{shared, least, pair_of}
use Rattle.witness_pair.specs.Pairs.{IsPair}
use Rattle.witness_pair.specs.declared.Pair.{Pair}
use Rattle.witness_pair.proofs.PairLaws.{least_of_both, least-some, least-none}
use Rattle.std.proofs.lemmas.Bool.Decides.{nat_tests}
use Rattle.certificate_file.specs.Known.{IsPart}
use Rattle.certificate_file.proofs.WholeLaws.{part_is}
use Rattle.cert_writer.proofs.Raised.{spread, length-spread, kept-spread, nodes-spread, is_raised, rank_before, not_others}
use Rattle.fbas_model.proofs.Kept.{ranked}
use Rattle.fbas_model.proofs.Renumbered.{length-restricted_sets}
use Rattle.std.specs.List.Sorted.{IsStrictlySortedBy}
use Rattle.certificate_file.specs.Acceptance.{take_line, checked}
use Rattle.reach_kinds.specs.Bodies.{within}
use Rattle.certificate_file.specs.Meaning.{part_from}
use Rattle.certificate_file.specs.declared.given.Given.{Given}
use Rattle.certificate_file.specs.declared.places.Header.{Header}
use Rattle.certificate_file.specs.declared.places.Subject.{Subject}
use Rattle.certificate_file.specs.declared.places.Conclusion.TheVariants.{Pair as pair}
use Rattle.certificate_file.specs.declared.places.Place.TheVariants.{AtTitle, AtKind, AtFirst, AtSecond, AtEnd}
use Rattle.certificate_file.specs.declared.places.State.TheVariants.{Going, Done}
use Rattle.reach_kinds.proofs.Inside.{apart_from_others}
use Rattle.cert_writer.specs.Texts.{Text, listed, header_lines, pair_lines, pair_text, joined, raised_table}
use Rattle.cert_writer.proofs.Joined.{Takes, takes-append, AreLines, are_lines-append, accepted_text}
use Rattle.cert_writer.proofs.Words.{is_word, is_plain}
use Rattle.cert_writer.proofs.Names.{AreNames, are_keys, named-listed}
use Rattle.cert_writer.specs.Promises.{IsHeader, subject, part_of, faulty_in, raised_pair}
use Rattle.fbas_model.proofs.WholeLaw.{restricted_to_everyone}
use Rattle.fbas_model.specs.declared.TheConstants.{MOST_NODES}
use Rattle.cert_writer.proofs.Headers.{takes_header, line_listed, lines_header}

-- a set that a line of a pair may list: a quorum of the part
pub record IsListed (f : System) (s : Subject) (u : Table) : Type 0 where
  pub size : length u ≡ length f.names
  pub inside : (l : ℕ) → within s.nodes l u ≡ Ok u
  pub is : is_quorum f.sets s.header.faulty u ≡ true

pub takes_pair : (f : System) (given : Given) (h : Header) (u w : Table) → AreNames f.names → IsListed f (subject f h) u → IsListed f (subject f h) w → least (shared u w) ≡ None → pair_of u w ≡ record { first = u; second = w }
    → Takes f given 5 (Going (AtKind (subject f h))) (pair_lines f.names (record { first = u; second = w })) (Done (record { header = h; answer = pair (record { first = u; second = w }) }))
unfolding take_line
takes_pair f given h u w are a b apart order =
    let s = subject f h in
    let first : take_line f given (AtFirst s) 6 (listed (codes "first") f.names u) ≡ Ok (Going (AtSecond s u)) =
    rw (named-listed f.names 6 (codes "first") u (is_word (codes "first") refl) are a.size, a.inside 6, a.is) refl in
    let second : take_line f given (AtSecond s u) 7 (listed (codes "second") f.names w) ≡ Ok (Going (AtEnd (record { header = h; answer = pair (record { first = u; second = w }) }))) =
    rw (named-listed f.names 7 (codes "second") w (is_word (codes "second") refl) are b.size, b.inside 7, b.is, apart, order) refl in
    (Going (AtFirst s), refl, (Going (AtSecond s u), first, (Going (AtEnd (record { header = h; answer = pair (record { first = u; second = w }) })), second, (Done (record { header = h; answer = pair (record { first = u; second = w }) }), refl, refl))))

-- ---- the pair of the part, in the whole system

-- the part that the header names
abbrev nodes_of : System → Header → Table
nodes_of f h = part_from f h.from

-- a quorum of the part is one that a line may list
listed_quorum : (f : System) (h : Header) (set : Table) → IsSystem f.names f.sets → IsHeader f h → IsPart f h.from (nodes_of f h) → Quorum (restricted_sets (nodes_of f h) f.sets) (members (kept (nodes_of f h) h.faulty)) (members set) → IsListed f (subject f h) (spread (nodes_of f h) set)
listed_quorum f h set is head part q =
    let t = nodes_of f h in
    let u = spread t set in
    let inside : members set ⊆ all_nodes (restricted_sets t f.sets) = λ v m. (and_parts (all_nodes (restricted_sets t f.sets) v) (not (members (kept t h.faulty) v)) (q.left v m)).0 in
    let raised_q = (quorum-restricted t h.faulty f.sets (members set) part.places (head.faulty ∙ sym is.places) part.closed inside).0 q in
    let whole : Quorum f.sets (members h.faulty) (members u) = subst (Quorum f.sets (members h.faulty)) (sym (nodes-spread t set)) raised_q in
    let size : length u ≡ length f.sets = length-spread t set ∙ part.places in
    record {
      size = size ∙ is.places;
      inside = λ l. apart_from_others (subject f h).nodes l u (λ m. not_others t m.0 m.2 ((and_parts (members t m.0) (members set (rank t m.0)) (sym (ap (λ (s : Nodes). s m.0) (nodes-spread t set)) ∙ m.1)).0));
      is = quorum-from f.sets h.faulty u (head.faulty ∙ sym is.places ∙ sym size) (sym size) whole;
    }

-- sets that are apart in the part are so in the whole
apart_there : (part p w : Table) → (Meets (members p) (members w) → ⊥) → least (shared (spread part p) (spread part w)) ≡ None
apart_there part p w apart = elim (least (shared (spread part p) (spread part w))) as (λ (o : Option ℕ). least (shared (spread part p) (spread part w)) ≡ o → o ≡ None) [
  | None ↦ λ e. refl
  | Some v ↦ λ e.
      let both = (least_of_both (spread part p) (spread part w) v e).0 in
      let each = and_parts (members (spread part p) v) (members (spread part w) v) both in
      let a = and_parts (members part v) (members p (rank part v)) (sym (ap (λ (s : Nodes). s v) (nodes-spread part p)) ∙ each.0) in
      let b = and_parts (members part v) (members w (rank part v)) (sym (ap (λ (s : Nodes). s v) (nodes-spread part w)) ∙ each.1) in
      absurd (apart (rank part v, a.1, b.1))
] refl

-- the least node of a set that has one
abbrev Least : Table → Type 0
Least u = (v : ℕ) × (least u ≡ Some v) × IsLeast (members u) v

least_there : (u : Table) (x : ℕ) → members u x ≡ true → Least u
least_there u x m = elim (least u) as (λ (o : Option ℕ). least u ≡ o → Least u) [
  | None ↦ λ e. absurd (least-none 0 u e x m)
  | Some v ↦ λ e. (v, e, least-some u v e)
] refl

not_below : (x y : ℕ) → x ≤ y → nat_lt y x ≡ false
not_below x y h = grind (arith, nat_tests)

in_spread : (part p : Table) (v k : ℕ) → members part v ≡ true → rank part v ≡ k → members p k ≡ true → members (spread part p) v ≡ true
in_spread part p v k here at m = ap (λ (s : Nodes). s v) (nodes-spread part p) ∙ and_from (members part v) (members p (rank part v)) here (ap (members p) at ∙ m)

pub out_spread : (part p : Table) (v : ℕ) → members (spread part p) v ≡ true → (members part v ≡ true) × (members p (rank part v) ≡ true)
out_spread part p v m = and_parts (members part v) (members p (rank part v)) (sym (ap (λ (s : Nodes). s v) (nodes-spread part p)) ∙ m)

-- the least node of the first set is not above that of the second
in_part : (p w : Table) → (a : Least p) → (c : Least w) → ((v : ℕ) → IsLeast (members p ∪ members w) v → v ∈ members p) → a.0 ≤ c.0
in_part p w a c order = elim (cases_lt c.0 a.0) [
  | inr le ↦ le
  | inl less ↦
      let here = order c.0 (or_right (members p c.0) (members w c.0) c.2.0, λ x m. elim (or_cases (members p x) (members w x) m) [ inl q ↦ omega (arith, a.2.1 x q) | inr q ↦ c.2.1 x q ]) in
      a.2.1 c.0 here
]

in_whole : (part p w : Table) (n : ℕ) → n ≡ size part → (a : Least p) → (c : Least w) → a.0 < n → c.0 < n → a.0 ≤ c.0 → (x : Least (spread part p)) → (y : Least (spread part w)) → x.0 ≤ y.0
in_whole part p w n same a c low_a low_c le x y = elim (cases_lt y.0 x.0) [
  | inr le ↦ le
  | inl less ↦
      let r = ranked part a.0 (omega (arith, same)) in
      let below : x.0 ≤ r.0 = x.2.1 r.0 (in_spread part p r.0 a.0 r.1 r.2 a.2.0) in
      let there = out_spread part w y.0 y.2.0 in
      let above : c.0 ≤ rank part y.0 = c.2.1 (rank part y.0) there.1 in
      let before : rank part y.0 < rank part r.0 = rank_before part y.0 r.0 there.0 (omega arith) in
      absurd (omega (arith, r.2))
]

-- the set with the least node stands first in the whole too
in_order : (part p w : Table) (n : ℕ) → n ≡ size part → (a : Least p) → (c : Least w) → a.0 < n → c.0 < n → ((v : ℕ) → IsLeast (members p ∪ members w) v → v ∈ members p) → pair_of (spread part p) (spread part w) ≡ record { first = spread part p; second = spread part w }
in_order part p w n same a c low_a low_c order =
    let r = ranked part a.0 (omega (arith, same)) in
    let q = ranked part c.0 (omega (arith, same)) in
    let x = least_there (spread part p) r.0 (in_spread part p r.0 a.0 r.1 r.2 a.2.0) in
    let y = least_there (spread part w) q.0 (in_spread part w q.0 c.0 q.1 q.2 c.2.0) in
    rw (x.1, y.1, not_below x.0 y.0 (in_whole part p w n same a c low_a low_c (in_part p w a c order) x y)) refl

-- ---- the lines

pair_lines-spread : (names : List Name) (part : Table) (p : Pair) → pair_lines (kept part names) p ≡ pair_lines names (record { first = spread part p.first; second = spread part p.second })
pair_lines-spread names part p = rw (kept-spread part p.first names, kept-spread part p.second names) refl

lines_pair : (names : List Name) (p : Pair) → AreNames names → length names ≤ MOST_NODES → AreLines (pair_lines names p)
lines_pair names p are few = (
  record { plain = is_plain (codes "kind pair") refl; short = omega arith },
  (
    line_listed (codes "first") names p.first (is_word (codes "first") refl) (omega arith) are few,
    (
      line_listed (codes "second") names p.second (is_word (codes "second") refl) (omega arith) are few,
      (record { plain = is_plain (codes "end") refl; short = omega arith }, tt),
    ),
  ),
)

quorum_below : (f : Fbas) (b u : Nodes) → Quorum f b u → (v : ℕ) → u v ≡ true → v < length f
quorum_below f b u q v m = ltb-true v (length f) (and_parts (all_nodes f v) (not (b v)) (q.left v m)).0

-- ---- a pair that is written is accepted

pub pair_accepted : (f : System) (given : Given) (h : Header) (p : Pair) → IsSystem f.names f.sets → IsStrictlySortedBy name_cmp f.names → length given.digest ≡ 32 → IsBytes given.digest → IsHeader f h
    → IsPair (restricted_sets (nodes_of f h) f.sets) (members (kept (nodes_of f h) h.faulty)) p
    → checked f given (pair_text f.names (restricted (nodes_of f h) f).names given.digest h p) ≡ Ok (record { header = h; answer = pair (record { first = raised_table (nodes_of f h) p.first; second = raised_table (nodes_of f h) p.second }) })
pair_accepted f given h p is sorted size bytes head holds =
    let t = nodes_of f h in
    let part : IsPart f h.from t = part_is f h.from is (subst (λ n. IfSome h.from (λ v. v < n)) (sym is.places) head.node) in
    let are : AreNames f.names = record { keys = are_keys f.names is.keys; sorted = sorted } in
    let u = spread t p.first in
    let w = spread t p.second in
    let n = length (restricted_sets t f.sets) in
    let a = least_there p.first holds.first.inhabited.0 holds.first.inhabited.1 in
    let c = least_there p.second holds.second.inhabited.0 holds.second.inhabited.1 in
    let low_a : a.0 < n = quorum_below (restricted_sets t f.sets) (members (kept t h.faulty)) (members p.first) holds.first a.0 a.2.0 in
    let low_c : c.0 < n = quorum_below (restricted_sets t f.sets) (members (kept t h.faulty)) (members p.second) holds.second c.0 c.2.0 in
    let order = in_order t p.first p.second n (length-restricted_sets t f.sets part.places) a c low_a low_c holds.order in
    let taken = takes_pair f given h u w are (listed_quorum f h p.first is head part holds.first) (listed_quorum f h p.second is head part holds.second) (apart_there t p.first p.second holds.apart) order in
    let all = takes-append f given 1 5 (Going AtTitle) (Going (AtKind (subject f h))) (Done (record { header = h; answer = pair (record { first = u; second = w }) })) (header_lines f.names given.digest h) (pair_lines f.names (record { first = u; second = w })) refl (takes_header f given h are size bytes head) taken in
    let lines = are_lines-append (header_lines f.names given.digest h) (pair_lines f.names (record { first = u; second = w })) (lines_header f given.digest h are is.few size head) (lines_pair f.names (record { first = u; second = w }) are is.few) in
    let same : record { header = h; answer = pair (record { first = u; second = w }) } ≡ record { header = h; answer = pair (record { first = raised_table t p.first; second = raised_table t p.second }) } = rw (is_raised t p.first, is_raised t p.second) refl in
    ap (λ (ls : List Text). checked f given (joined (header_lines f.names given.digest h ++ ls))) (pair_lines-spread f.names t p)
    ∙ accepted_text f given (header_lines f.names given.digest h ++ pair_lines f.names (record { first = u; second = w })) _ lines (omega arith) all
    ∙ ap Ok same

-- the same over the system of the part
pub part_is_restricted : (f : System) (from : Option ℕ) → IsSystem f.names f.sets → part_of f from ≡ restricted (part_from f from) f
part_is_restricted f None is = sym (restricted_to_everyone f is)
part_is_restricted f (Some v) is = refl

pub pair_of_part_accepted : (f part : System) (given : Given) (h : Header) (p : Pair) → IsSystem f.names f.sets → IsStrictlySortedBy name_cmp f.names → length given.digest ≡ 32 → IsBytes given.digest → IsHeader f h → part ≡ part_of f h.from
    → IsPair part.sets (members (faulty_in f h)) p → checked f given (pair_text f.names part.names given.digest h p) ≡ Ok (record { header = h; answer = pair (raised_pair f h p) })
pair_of_part_accepted f part given h p is sorted size bytes head same holds =
    let e : part ≡ restricted (part_from f h.from) f = same ∙ part_is_restricted f h.from is in
    ap (λ (s : System). checked f given (pair_text f.names s.names given.digest h p)) e
    ∙ pair_accepted f given h p is sorted size bytes head (subst (λ (s : System). IsPair s.sets (members (faulty_in f h)) p) e holds)
