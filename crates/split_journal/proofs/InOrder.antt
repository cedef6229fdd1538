-- The list that is answered: the least sets in order.
use Rattle.std.proofs.Common.{List, length}
use Rattle.fbas_model.specs.Nodes.{Table, members}
use Rattle.fbas_model.specs.Fbas.{Fbas}
use Rattle.clause_encoder.specs.declared.version.Version.{Version}
use Rattle.enumeration_journal.specs.Journals.{JournalLine, IsWholeJournal, sets_in}
use Rattle.enumeration_journal.specs.Order.{ordered}
use Rattle.enumeration_journal.specs.declared.kinds.Listed.TheVariants as listed
use Rattle.enumeration_journal.proofs.OrderLaws.{HavePlaces, ordered_rising, ordered_has}
use Rattle.split_journal.specs.Splitting.{IsSplitList}
use Rattle.split_journal.specs.Minimal.{minimal_among}
use Rattle.split_journal.specs.Nodes.{IsListOfSplitting, alone}
use Rattle.split_journal.specs.Meaning.{AreGroups}
use Rattle.split_journal.specs.Rules.{split_of}
use Rattle.split_journal.proofs.Left.{IsLeft}
use Rattle.split_journal.proofs.Whole.{whole_has_splits}
use Rattle.split_journal.proofs.Alone.{alone_sized, groups_to_nodes, nodes_to_groups}

pub list_of_splits : (version : Version) (f : Fbas) (b left : Table) (groups : List Table) → IsLeft f b left → AreGroups f groups → (journal : List JournalLine) → IsWholeJournal (split_of version f b left groups) journal → IsSplitList f (members b) groups (ordered (minimal_among (sets_in listed.Smaller journal)))
list_of_splits version f b left groups is are journal whole =
    let found = minimal_among (sets_in listed.Smaller journal) in
    let exact = whole_has_splits version f b left groups is are journal whole in
    let fits : HavePlaces (length groups) found = (λ s there. ((exact s).0 there).places) in
    record {
      rising = ordered_rising found;
      exact = λ s. (λ there. (exact s).0 ((ordered_has (length groups) found fits s).0 there), λ minimal. (ordered_has (length groups) found fits s).1 ((exact s).1 minimal));
    }

pub list_of_nodes : (version : Version) (f : Fbas) (b left : Table) → IsLeft f b left → (journal : List JournalLine) → IsWholeJournal (split_of version f b left (alone (length f))) journal → IsListOfSplitting f (members b) (ordered (minimal_among (sets_in listed.Smaller journal)))
list_of_nodes version f b left is journal whole =
    let all = list_of_splits version f b left (alone (length f)) is (alone_sized (length f) 0 (length f)) journal whole in
    record {
      rising = all.rising;
      exact = λ s. (λ there. groups_to_nodes f b s ((all.exact s).0 there), λ minimal. (all.exact s).1 (nodes_to_groups f b s minimal.0 minimal.1));
    }
