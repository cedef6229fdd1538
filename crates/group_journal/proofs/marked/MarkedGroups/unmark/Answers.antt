use Rattle.std.proofs.Common.{◌≡◌, ℕ, Bool, cond, ◌+◌, ◌<◌, ◌≤◌, ◌==◌, ◌&&◌, ◌||◌, not, [], List, length, slice_index_or, sym, ap, ap₂, ◌∙◌, subst, arith}
use Rattle.std.specs.Prelude.{All}
use mathlib.Core.Path.{fun_ext}
use Rattle.fbas_model.specs.Nodes.{Nodes, Table, members}
use Rattle.node_json.specs.Groups.{tables_of}
use Rattle.group_journal.specs.Groups.{joined}
use Rattle.group_journal.specs.Marking.{times}
use Rattle.group_journal.proofs.Times.{times_le, times_some, times_marked, joined_marked, times_unmarked, joined_unmarked}
use Rattle.group_journal.proofs.marked.MarkedGroups.unmark.Goals as goal

pub uncount_members-requires-clause-some : goal.uncount_members-requires-clause-some
uncount_members-requires-clause-some c = λ v here.
    let gs = tables_of c.self.inside.groups.now in
    let there = ap (λ (t : Table). members t v) c.members-members.ensures ∙ here in
    let some = times_some gs c.self.inside.marks c.args.at v (sym c.has.ensures ∙ c.if-not-has.false) there in
    omega (arith, some, c.self.invariant.counts v)

pub invariant_of-self : goal.invariant_of-self
invariant_of-self c =
    let gs = tables_of c.self.inside.groups.now in
    let marks = c.self.inside.marks in
    let next = c.take.new.self in
    let group = c.members-members.result.now in
    let old = c.self.inside.counts.items in
    let new = c.uncount_members.new.counts.items in
    let here = sym c.has.ensures ∙ c.if-not-has.false in
    let places = c.take.ensures.size ∙ c.self.invariant.places in
    let counts : (v : ℕ) → slice_index_or new v 0 ≡ times gs next v = λ v.
    let one : cond (members (slice_index_or gs c.args.at []) v) 1 0 ≡ cond (members group v) 1 0 = ap (λ (t : Table). cond (members t v) 1 0) c.members-members.ensures in
    let was : slice_index_or new v 0 + cond (members group v) 1 0 ≡ times gs next v + cond (members group v) 1 0 = c.uncount_members.ensures.counts v ∙ c.self.invariant.counts v
    ∙ times_unmarked gs marks next c.args.at v c.self.invariant.places places here c.take.ensures.taken ∙ ap (λ (n : ℕ). times gs next v + n) one in
    omega (arith, was)
    in record {
      sized = subst (λ (n : ℕ). All (λ (g : Table). length g ≡ n) gs) (sym c.drop_uncounted.ensures.same_n) c.self.invariant.sized;
      few = c.self.invariant.few;
      places = places;
      same_n = c.uncount_members.ensures.same_n ∙ c.self.invariant.same_n ∙ sym c.drop_uncounted.ensures.same_n;
      counts = counts;
      nodes = fun_ext (λ v.
          let seen : slice_index_or c.deref.result.now v 0 ≡ times gs next v = ap (λ (items : List ℕ). slice_index_or items v 0) c.deref.ensures.value ∙ counts v in
          c.drop_uncounted.ensures.nodes v
          ∙ ap₂ (λ (b : Bool) (n : ℕ). b && not (members group v && n == 0)) (ap (λ (s : Nodes). s v) c.self.invariant.nodes) seen
          ∙ ap (λ (t : Table). joined gs marks v && not (members t v && times gs next v == 0)) (sym c.members-members.ensures)
          ∙ sym (joined_unmarked gs marks next c.args.at v c.self.invariant.places places here c.take.ensures.taken));
    }
