use Rattle.std.proofs.Common.{ap, unwrap_or, option_map}
use Rattle.bd_todo.specs.declared.spots.Spot.{Spot}
use Rattle.bd_todo.proofs.spots.Spots.reserve.Goals as goal

pub returns-clause-same : goal.returns-clause-same
returns-clause-same c = λ k. ap (λ o. unwrap_or (option_map (λ (s : Spot). s.count) o) 0) (c.reserve.ensures.entries.2 k)
