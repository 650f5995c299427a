use Rattle.bd_todo.specs.Spots.{same_sought}
use Rattle.bd_todo.proofs.SoughtCounts.{none_in}
use Rattle.bd_todo.proofs.spots.Spots.spot.Goals as goal

pub returns-then-is_empty : goal.returns-then-is_empty
returns-then-is_empty c = none_in (same_sought c.args.key) c.args.self.now.spots.entries (c.is_empty.ensures.0 c.if-is_empty.true)
