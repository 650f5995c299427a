use Rattle.std.proofs.Common.{ap}
use Rattle.std.specs.Option.{option_or}
use Rattle.bd_keys.specs.Look.{look, latest_at}
use Rattle.bd_keys.proofs.map.WordMap.reserve.Goals as goal

pub returns-clause-kept : goal.returns-clause-kept
unfolding look
returns-clause-kept g c = λ k. ap (option_or (latest_at c.args.self.now.latest k)) (c.reserve.ensures.kept k)
