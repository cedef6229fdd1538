use Rattle.std.proofs.Common.{◌≡◌, ◌↔◌, List, length, sym, ◌∙◌, ap, ap₂, subst}
use Rattle.fbas_model.specs.Names.{Name}
use Rattle.fbas_model.specs.Nodes.{Nodes, Table, members, ◌⊆◌}
use Rattle.fbas_model.specs.Fbas.{Fbas, Quorum, all_nodes}
use Rattle.fbas_model.specs.Systems.{System as Whole, IsSystem}
use Rattle.fbas_model.specs.Restriction.{kept, raised}
use Rattle.fbas_model.proofs.Renumbered.{restricted_system, length-restricted_sets}
use Rattle.fbas_model.proofs.RestrictionLaw.{quorum-restricted, raised-onto}
use Rattle.fbas_core.proofs.System.restrict.Goals as goal

abbrev whole : List Name → Fbas → Whole
whole names sets = record { names = names; sets = sets }

pub of-requires : goal.of-requires
of-requires c =
    let t = c.args.kept.now in
    let s = c.args.self.now in
    let system : IsSystem s.names s.sets = subst (λ (s : Whole). IsSystem s.names s.sets) c.self.view_is c.self.invariant.0 in
    let names : c.in_ok-names.names ≡ kept t s.names = c.in_ok-names.ensures ∙ ap (λ (s : Whole). kept t s.names) c.self.view_is in
    rw (names, c.in_ok-sets.ensures) (restricted_system t s.names s.sets c.requires.same_n c.requires.closed system)

pub returns-clause-part : goal.returns-clause-part
returns-clause-part c =
    let t = c.args.kept.now in
    let names : c.in_ok-part.part.names ≡ kept t c.args.self.now.names = c.in_ok-part.ensures.names ∙ (c.in_ok-names.ensures ∙ ap (λ (s : Whole). kept t s.names) c.self.view_is) in
    ap₂ (λ (ns : List Name) (f : Fbas). whole ns f) names (c.in_ok-part.ensures.sets ∙ c.in_ok-sets.ensures)

pub returns-clause-law : goal.returns-clause-law
returns-clause-law c =
    let t = c.args.kept.now in
    let f = c.args.self.now.sets in
    subst (λ (part : Fbas). (b : Table) (w : Nodes) → length b ≡ length f → w ⊆ all_nodes part → Quorum part (members (kept t b)) w ↔ Quorum f (members b) (raised t w)) (sym (c.in_ok-part.ensures.sets ∙ c.in_ok-sets.ensures)) (λ b w same_n within. quorum-restricted t b f w c.requires.same_n same_n c.requires.closed within)

pub returns-clause-onto : goal.returns-clause-onto
returns-clause-onto c =
    let t = c.args.kept.now in
    let f = c.args.self.now.sets in
    subst (λ (part : Fbas). (u : Nodes) → u ⊆ members t → (w : Nodes) × w ⊆ all_nodes part × u ≡ raised t w) (sym (c.in_ok-part.ensures.sets ∙ c.in_ok-sets.ensures)) (λ u within. raised-onto t f u c.requires.same_n within)

pub returns-clause-size : goal.returns-clause-size
returns-clause-size c = ap (λ (f : Fbas). length f) (c.in_ok-part.ensures.sets ∙ c.in_ok-sets.ensures) ∙ length-restricted_sets c.args.kept.now c.args.self.now.sets c.requires.same_n
