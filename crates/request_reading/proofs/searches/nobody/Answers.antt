use Rattle.std.proofs.Common.{◌∙◌, ap}
use Rattle.fbas_model.specs.Nodes.{Nodes, ∅}
use Rattle.fbas_model.proofs.Tables.{table_is}
use Rattle.request_reading.proofs.searches.nobody.Goals as goal

pub returns-clause-value : goal.returns-clause-value
returns-clause-value c = table_is _ c.new.result ∅ (c.new.ensures.size ∙ c.len.ensures.sets) (λ v less. ap (λ (x : Nodes). x v) c.new.ensures.empty)
