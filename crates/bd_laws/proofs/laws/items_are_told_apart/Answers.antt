use Rattle.bd_laws.proofs.Readings.{always_distinct}
use Rattle.bd_laws.proofs.laws.items_are_told_apart.Goals as goal

pub returns : goal.returns
returns c = always_distinct
