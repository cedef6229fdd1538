-- A part with its groups and lists over them before their first line, and sets that are listed by their clauses.
use Rattle.std.proofs.Common.{◌≡◌, ℕ, ◌+◌, List, [], Bool, true, false, not, ◌&&◌, Ok, Err, refl, sym, ap, ◌∙◌, subst}
use Rattle.fbas_model.specs.Nodes.{Table, members, ◌⊆◌}
use Rattle.fbas_model.specs.Systems.{System}
use Rattle.node_json.specs.Groups.{Group, tables_of}
use Rattle.lrat_model.specs.Literal.{Literal}
use Rattle.lrat_model.specs.Clauses.{with_clause}
use Rattle.lrat_model.specs.Ranges.{IsInRange}
use Rattle.lrat_checker.specs.Checking.{Checking}
use Rattle.fbas_model.specs.Nodes.{size}
use Rattle.enumeration_journal.specs.Kinds.{asks_new}
use Rattle.enumeration_journal.specs.declared.kinds.ListKind.{ListKind}
use Rattle.enumeration_journal.specs.declared.kinds.Listed.{Listed}
use Rattle.enumeration_journal.specs.declared.kinds.Listed.TheVariants as listed
use Rattle.enumeration_journal.proofs.Greatest.{IsGreatest}
use Rattle.enumeration_journal.proofs.Duality.{quorum_within}
use Rattle.group_journal.specs.Groups.{touching}
use Rattle.group_journal.specs.Rules.{group_clause}
use Rattle.group_journal.proofs.Touched.{touches_more}
use Rattle.cert_lines.specs.Limits.{unless}
use Rattle.cert_lines.specs.declared.faults.CertError.TheVariants.{NotNew}
use Rattle.reach_kinds.specs.Bodies.{holding, is_covered, with_sought}
use Rattle.reach_kinds.specs.GroupBodies.{grouped_part, rules_over, group_listing_on, is_old_group_set, with_group_set, list_group_set}
use Rattle.reach_kinds.specs.Known.{IsListOver}
use Rattle.reach_kinds.specs.declared.places.ListPart.{ListPart}
use Rattle.reach_kinds.specs.declared.places.GroupPart.{GroupPart}
use Rattle.reach_kinds.specs.declared.places.GroupListing.{GroupListing}
use Rattle.reach_kinds.specs.declared.places.ReachPlace.TheVariants.{AtGroups}
use Rattle.reach_kinds.specs.declared.places.ReachState.TheVariants.{Going}
use Rattle.reach_kinds.proofs.ListShown.{part_greatest}

-- the part with its groups
pub grouped_part_of : (p : ListPart) (groups those : List Group) (touched : Table) → groups ≡ those → touched ≡ touching (tables_of groups) p.greatest → record { part = p; groups = groups; touched = touched } ≡ grouped_part p those
grouped_part_of p groups those touched is marked = rw (marked, is) refl

-- a list over them, of which nothing is known yet
pub no_group_listing_of : (kind : ListKind) (p : GroupPart) (checker wanted : Checking) (sets : List Table) → checker ≡ wanted → sets ≡ [] → group_listing_on kind p checker sets 0 ≡ group_listing_on kind p wanted [] 0
no_group_listing_of kind p checker wanted sets is_checker none = rw (is_checker, none) refl

module _ (f : System) (nodes gone : Table) (k : GroupListing) (is : IsListOver f nodes gone k) where
  over_greatest : IsGreatest k.over.part.system.sets (members k.over.part.faulty) k.over.part.greatest
  over_greatest = subst (λ (p : ListPart). IsGreatest p.system.sets (members p.faulty) p.greatest) (sym is.over.part) (part_greatest f nodes gone is.subject)

  -- a quorum touches groups that have a variable alone
  pub quorum_touches : (u : Table) → (rules_over k.over).IsRight listed.Quorum u → members (touching (tables_of k.over.groups) u) ⊆ members k.over.touched
  quorum_touches u right =
      let inner = quorum_within k.over.part.system.sets (members k.over.part.faulty) k.over.part.greatest (members u) over_greatest right.1 in
      subst (λ (t : Table). members (touching (tables_of k.over.groups) u) ⊆ members t) (sym is.over.touched) (touches_more (tables_of k.over.groups) u k.over.part.greatest inner)

  pub in_range : (clause : List Literal) → IsInRange (size k.over.touched) clause → IsInRange k.checker.vars clause
  in_range clause range = subst (λ (n : ℕ). IsInRange n clause) (ap size is.over.touched ∙ sym is.vars) range

  module _ (l : ℕ) (which : Listed) (id : ℕ) (s : Table) (clause : List Literal) (clause_is : clause ≡ group_clause (tables_of k.over.groups) k.over.touched which s) where
    same_clause : clause ≡ (rules_over k.over).clause which s
    same_clause = clause_is ∙ ap (λ (t : Table). group_clause (tables_of k.over.groups) t which s) is.over.touched

    old_by : (asks_new listed.Blocking k.kind which && is_covered k.checker.database.held id clause) ≡ is_old_group_set k which id s
    old_by = ap (λ (c : List Literal). asks_new listed.Blocking k.kind which && is_covered k.checker.database.held id c) same_clause

    pub listed_new : (new : GroupListing) → (asks_new listed.Blocking k.kind which && is_covered k.checker.database.held id clause) ≡ false
        → new ≡ group_listing_on k.kind k.over (holding k.checker (record { held = with_clause k.checker.database.held id clause; last = id })) (with_sought listed.Blocking k.sets which s) (k.units + 1) → list_group_set k l which id s ≡ Ok (Going (AtGroups new))
    listed_new new off new_is =
        let next : new ≡ with_group_set k which id s =
        new_is ∙ ap (λ (c : List Literal). group_listing_on k.kind k.over (holding k.checker (record { held = with_clause k.checker.database.held id c; last = id })) (with_sought listed.Blocking k.sets which s) (k.units + 1)) same_clause in
        ap (λ (b : Bool). unless (NotNew l) (not b) (Ok (Going (AtGroups (with_group_set k which id s))))) (sym old_by ∙ off) ∙ ap (λ (n : GroupListing). Ok (Going (AtGroups n))) (sym next)

    pub listed_old : (asks_new listed.Blocking k.kind which && is_covered k.checker.database.held id clause) ≡ true → list_group_set k l which id s ≡ Err (NotNew l)
    listed_old on = ap (λ (b : Bool). unless (NotNew l) (not b) (Ok (Going (AtGroups (with_group_set k which id s))))) (sym old_by ∙ on)
