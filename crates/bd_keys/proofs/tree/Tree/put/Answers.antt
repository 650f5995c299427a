use Rattle.std.proofs.Common.{arith}
use Rattle.bd_keys.specs.Room.{tree_room}
use Rattle.bd_keys.proofs.tree.Tree.put.Goals as goal

pub find_or_hang-requires-clause-room : goal.find_or_hang-requires-clause-room
unfolding tree_room
find_or_hang-requires-clause-room c = omega (arith, c.requires, c.args.self.now.nodes.ok.0)

pub push_reserved-requires : goal.push_reserved-requires
unfolding tree_room
push_reserved-requires c = omega (arith, c.requires, c.find_or_hang.ensures.len, c.find_or_hang.ensures.capacity)

pub returns-in-Err-clause-uses : goal.returns-in-Err-clause-uses
unfolding tree_room
returns-in-Err-clause-uses c =
    omega (
      arith,
      c.find_or_hang.ensures.len,
      c.find_or_hang.ensures.capacity,
      c.push_reserved.ensures.len,
      c.push_reserved.ensures.capacity,
    )
