use Rattle.std.proofs.Common.{ap}
use Rattle.bd_turns.specs.Spots.{lone_or}
use Rattle.bd_turns.proofs.spot.Spots.reserve.Goals as goal

pub returns-clause-same : goal.returns-clause-same
returns-clause-same c = λ m. ap (lone_or c.args.self.now.lone m) (c.reserve.ensures.entries.2 m)
