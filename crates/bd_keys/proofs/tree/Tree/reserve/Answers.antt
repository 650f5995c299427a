use Rattle.std.proofs.Common.{arith}
use Rattle.std.proofs.lemmas.Result.{on_ok_weaker}
use Rattle.bd_keys.specs.Room.{tree_room}
use Rattle.bd_keys.proofs.tree.Tree.reserve.Goals as goal

pub returns-clause-room : goal.returns-clause-room
unfolding tree_room
returns-clause-room c = on_ok_weaker c.reserve.result (λ h. omega (arith, h)) c.reserve.ensures.ok

pub returns-clause-uses : goal.returns-clause-uses
unfolding tree_room
returns-clause-uses c = omega arith
