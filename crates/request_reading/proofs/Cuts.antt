-- A set that is cut to a part lies in it.
use Rattle.std.proofs.Common.{◌≡◌, ℕ, suc, ◌+◌, ◌<◌, [], ◌∷◌, length, Bool, true, false, ◌&&◌, Option, Some, None, refl, sym, ◌∙◌, ap, subst, arith}
use Rattle.std.proofs.lemmas.Bool.{and_parts}
use Rattle.std.proofs.Math.Bool.{and-true}
use Rattle.fbas_model.specs.Nodes.{Nodes, Table, members, ∅, ◌∩◌}
use Rattle.fbas_model.specs.Fbas.{Fbas, Intersects}
use Rattle.fbas_model.specs.Systems.{System}
use Rattle.fbas_model.specs.Restriction.{closure_of, everyone, kept, restricted, table_from}
use Rattle.fbas_model.proofs.Tables.{table_is, length-table_from, members-table_from}
use Rattle.fbas_model.proofs.Closure.{length-closure_of}
use Rattle.fbas_model.proofs.Sizes.{member_lt}
use Rattle.fbas_model.proofs.WholeLaw.{kept-everyone}
use Rattle.witness_pair.specs.Making.{shared}
use Rattle.certificate_file.specs.Meaning.{part_from}
use Rattle.certificate_file.specs.declared.places.Header.{Header}
use Rattle.cert_writer.specs.Promises.{part_of, faulty_in}
use Rattle.request_reading.specs.Searches.{cut_within}

pub is_met : (s t u : Table) → length u ≡ length s → members u ≡ members s ∩ members t → u ≡ table_from 0 (length s) (members s ∩ members t)
is_met s t u size met = table_is (length s) u (members s ∩ members t) size (λ v less. ap (λ (x : Nodes). x v) met)

zero_more : (x : ℕ) → 0 + x ≡ x
zero_more x = omega arith

and_self : (x y : Bool) → (x ≡ true → y ≡ true) → (x && y) ≡ x
and_self true y i = i refl
and_self false y i = refl

shared_inside : (u w : Table) → length u ≡ length w → ((v : ℕ) → members u v ≡ true → members w v ≡ true) → shared u w ≡ u
shared_inside [] w e i = refl
shared_inside (x ∷ u) [] e i = absurd (omega (arith, e))
shared_inside (x ∷ u) (y ∷ w) e i = λ k. and_self x y (i 0) k ∷ shared_inside u w (omega (arith, e)) (λ v m. i (suc v) m) k

shared_everyone : (f : Fbas) (u : Table) → length u ≡ length f → shared u (everyone f) ≡ u
shared_everyone f [] e = refl
shared_everyone [] (x ∷ u) e = absurd (omega (arith, e))
shared_everyone (q ∷ f) (x ∷ u) e = λ k. and-true x k ∷ shared_everyone f u (omega (arith, e)) k

pub length-cut_within : (f : System) (from : Option ℕ) (set : Table) → length (cut_within f from set) ≡ length set
length-cut_within f None set = refl
length-cut_within f (Some v) set = length-table_from 0 (length set) (members set ∩ members (closure_of f.sets v))

-- what is cut lies in the part
pub cut_inside : (f : System) (from : Option ℕ) (set : Table) → length set ≡ length f.sets → shared (cut_within f from set) (part_from f from) ≡ cut_within f from set
cut_inside f None set e = shared_everyone f.sets set e
cut_inside f (Some v) set e =
    let both : Nodes = members set ∩ members (closure_of f.sets v) in
    let n = length set in
    let size : length (table_from 0 n both) ≡ n = length-table_from 0 n both in
    shared_inside (table_from 0 n both) (closure_of f.sets v) (size ∙ e ∙ sym (length-closure_of f.sets v)) (λ x m.
    let less : x < n = omega (arith, member_lt (table_from 0 n both) x m, size) in
    let at : (members set x && members (closure_of f.sets v) x) ≡ true = sym (members-table_from 0 n both x less ∙ ap both (zero_more x)) ∙ m in
    (and_parts (members set x) (members (closure_of f.sets v) x) at).1)

-- without a node the part is the whole, and its nodes have the same numbers
pub faulty_of_whole : (f : System) (h : Header) → h.from ≡ None → length h.faulty ≡ length f.sets → h.faulty ≡ faulty_in f h
faulty_of_whole f h none size = sym (ap (λ (o : Option ℕ). kept (part_from f o) h.faulty) none ∙ kept-everyone f.sets h.faulty size)

pub part_of_whole : (f : System) (h : Header) → h.from ≡ None → f ≡ part_of f h.from
part_of_whole f h none = sym (ap (part_of f) none)

pub faulty_of_closure : (f : System) (h : Header) (v : ℕ) (t : Table) → h.from ≡ Some v → t ≡ kept (closure_of f.sets v) h.faulty → t ≡ faulty_in f h
faulty_of_closure f h v t some is = is ∙ sym (ap (λ (o : Option ℕ). kept (part_from f o) h.faulty) some)

pub part_of_closure : (f p : System) (h : Header) (v : ℕ) → h.from ≡ Some v → p ≡ restricted (closure_of f.sets v) f → p ≡ part_of f h.from
part_of_closure f p h v some is = is ∙ sym (ap (part_of f) some)

-- where nobody is deleted of the whole, its quorums are those of the system
pub meets_in_whole : (f : System) (h : Header) → h.from ≡ None → length h.faulty ≡ length f.sets → members h.faulty ≡ ∅ → Intersects f.sets ∅ → Intersects (part_of f h.from).sets (members (faulty_in f h))
meets_in_whole f h none size empty meets =
    subst (λ (p : System). Intersects p.sets (members (faulty_in f h))) (part_of_whole f h none) (subst (λ (t : Table). Intersects f.sets (members t)) (faulty_of_whole f h none size) (subst (λ (b : Nodes). Intersects f.sets b) (sym empty) meets))
