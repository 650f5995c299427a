use Rattle.bd_keys.specs.Room.{tree_room}
use Rattle.bd_keys.proofs.tree.Tree.room.Goals as goal

pub returns : goal.returns
unfolding tree_room
returns c = cc
