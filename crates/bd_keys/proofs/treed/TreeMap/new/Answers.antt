use Rattle.std.proofs.Common.{ap}
use Rattle.bd_keys.specs.Keys.{place_in}
use Rattle.bd_keys.specs.Treed.{tree_look, value_at}
use Rattle.bd_keys.proofs.treed.TreeMap.new.Goals as goal

pub returns-clause-values : goal.returns-clause-values
unfolding tree_look place_in
returns-clause-values g c = λ k. ap (λ ks. value_at c.new-2.result.items (place_in ks k)) c.new.ensures
