use Rattle.bd_keys.specs.Look.{look}
use Rattle.bd_keys.proofs.map.WordMap.new.Goals as goal

pub returns : goal.returns
unfolding look
returns g c = c.new.ensures.values
