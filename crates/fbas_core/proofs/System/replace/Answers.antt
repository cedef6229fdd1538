use Rattle.std.proofs.Common.{◌≡◌, ◌<◌, ◌≤◌, length, sym, ap, subst, ◌∙◌, Option, None, slice_index_or, arith}
use Rattle.std.specs.Prelude.{IfSome, set, List}
use Rattle.std.proofs.lemmas.List.{get_or_read, length-set}
use Rattle.std.proofs.lemmas.List.Elements.{All-set}
use Rattle.fbas_model.specs.Nodes.{members}
use Rattle.fbas_model.specs.Names.{Name}
use Rattle.fbas_model.specs.Trees.{QuorumSet}
use Rattle.fbas_model.specs.Fbas.{Fbas}
use Rattle.fbas_model.specs.declared.TheConstants.{MOST_ENTRIES}
use Rattle.fbas_model.specs.Systems.{System, IsWithin, entries_in}
use Rattle.fbas_core.proofs.OtherSets.{mentions_was, still_mentioning, now_mentioning}
use Rattle.fbas_core.proofs.System.replace.Goals as goal

pub exchange-requires-clause-was : goal.exchange-requires-clause-was
exchange-requires-clause-was c =
    let f = c.self.inside.sets.items in
    let v = c.args.v in
    let low : v < length f = subst (λ (s : Fbas). v < length s) (sym (ap (λ (s : System). s.sets) c.self.view_is)) c.requires.node in
    let here : c.index.result.now ≡ slice_index_or f v None = get_or_read f v c.index.result.now low c.index.ensures None in
    mentions_was f c.self.inside.mentioning v c.index.result.now (members c.mentioned_in-before.result) c.self.invariant.1 here c.mentioned_in-before.ensures.nodes

pub invariant_of-self : goal.invariant_of-self
invariant_of-self c =
    let f = c.self.inside.sets.items in
    let v = c.args.v in
    let low : v < length f = subst (λ (s : Fbas). v < length s) (sym (ap (λ (s : System). s.sets) c.self.view_is)) c.requires.node in
    let here : c.index.result.now ≡ slice_index_or f v None = get_or_read f v c.index.result.now low c.index.ensures None in
    let was = mentions_was f c.self.inside.mentioning v c.index.result.now (members c.mentioned_in-before.result) c.self.invariant.1 here c.mentioned_in-before.ensures.nodes in
    (c.self.invariant.0, still_mentioning f c.self.inside.mentioning c.exchange.new.lists v (members c.mentioned_in-before.result) was c.self.invariant.1 c.in_err-exchange.ensures.unchanged)

pub invariant_of-self-2 : goal.invariant_of-self-2
invariant_of-self-2 c =
    let f = c.self.inside.sets.items in
    let v = c.args.v in
    let sets_are : f ≡ c.args.self.now.sets = ap (λ (s : System). s.sets) c.self.view_is in
    let names_are : c.self.inside.names ≡ c.args.self.now.names = ap (λ (s : System). s.names) c.self.view_is in
    let low : v < length f = subst (λ (s : Fbas). v < length s) (sym sets_are) c.requires.node in
    let is = c.self.invariant.0 in
    let fits : IfSome c.args.set (IsWithin (length c.self.inside.names)) = subst (λ (ns : List Name). IfSome c.args.set (IsWithin (length ns))) (sym names_are) c.requires.within in (
      record {
        places = length-set f v c.args.set ∙ is.places;
        keys = is.keys;
        few = is.few;
        within = All-set (λ (o : Option QuorumSet). IfSome o (IsWithin (length c.self.inside.names))) f v c.args.set fits is.within;
        entries = omega (arith, subst (λ (s : Fbas). entries_in (set s v c.args.set) ≤ MOST_ENTRIES) (sym sets_are) c.requires.few);
      },
      now_mentioning f c.self.inside.mentioning c.exchange.new.lists v c.args.set (members c.mentioned_in-after.result) low c.mentioned_in-after.ensures.nodes c.self.invariant.1 c.in_ok-exchange.ensures.exchanged,
    )
