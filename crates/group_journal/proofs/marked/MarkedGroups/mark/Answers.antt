use Rattle.std.proofs.Common.{◌≡◌, ℕ, Bool, cond, ◌+◌, ◌<◌, ◌≤◌, ◌==◌, ◌&&◌, ◌||◌, not, [], List, length, slice_index_or, sym, ap, ap₂, ◌∙◌, subst, arith}
use Rattle.std.specs.Prelude.{All}
use mathlib.Core.Path.{fun_ext}
use Rattle.fbas_model.specs.Nodes.{Nodes, Table, members}
use Rattle.node_json.specs.Groups.{tables_of}
use Rattle.group_journal.proofs.Times.{times_le, times_some, times_marked, joined_marked, times_unmarked, joined_unmarked}
use Rattle.group_journal.proofs.marked.MarkedGroups.mark.Goals as goal

pub count_members-requires-clause-few : goal.count_members-requires-clause-few
count_members-requires-clause-few c = λ v. omega (arith, c.self.invariant.counts v, times_le (tables_of c.self.inside.groups.now) c.self.inside.marks v, c.self.invariant.few)

pub invariant_of-self : goal.invariant_of-self
invariant_of-self c =
    let gs = tables_of c.self.inside.groups.now in
    let marks = c.self.inside.marks in
    let next = c.put.new.self in
    let out = sym c.has.ensures ∙ c.if-has.false in
    let places = c.put.ensures.size ∙ c.self.invariant.places in record {
      sized = subst (λ (n : ℕ). All (λ (g : Table). length g ≡ n) gs) (sym c.join.ensures.size) c.self.invariant.sized;
      few = c.self.invariant.few;
      places = places;
      same_n = c.count_members.ensures.same_n ∙ c.self.invariant.same_n ∙ sym c.join.ensures.size;
      counts = λ v. c.count_members.ensures.counts v ∙ ap₂ (λ (n : ℕ) (t : Table). n + cond (members t v) 1 0) (c.self.invariant.counts v) (sym c.members-members.ensures)
          ∙ sym (times_marked gs marks next c.args.at v c.self.invariant.places places out c.put.ensures.added);
      nodes = fun_ext (λ v. ap (λ (s : Nodes). s v) c.join.ensures.joined ∙ ap₂ (λ (b : Bool) (t : Table). b || members t v) (ap (λ (s : Nodes). s v) c.self.invariant.nodes) (sym c.members-members.ensures)
          ∙ sym (joined_marked gs marks next c.args.at v c.self.invariant.places places out c.put.ensures.added));
    }
