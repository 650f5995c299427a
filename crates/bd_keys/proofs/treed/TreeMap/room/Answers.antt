use Rattle.bd_keys.specs.Treed.{map_room}
use Rattle.bd_keys.proofs.treed.TreeMap.room.Goals as goal

pub returns : goal.returns
unfolding map_room
returns g c = cc
