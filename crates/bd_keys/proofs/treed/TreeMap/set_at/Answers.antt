use Rattle.std.proofs.Common.{refl}
use Rattle.bd_keys.specs.Walk.{keys}
use Rattle.bd_keys.specs.Treed.{tree_look, map_room}
use Rattle.bd_keys.proofs.Looks.{value_set}
use Rattle.bd_keys.proofs.treed.TreeMap.set_at.Goals as goal

pub returns-clause-put : goal.returns-clause-put
unfolding tree_look
returns-clause-put g c = λ k l here.
    let m = c.args.self.now in
    value_set (keys m.tree.nodes.items) m.values.items k l c.args.at c.args.value here c.requires

pub returns-clause-room : goal.returns-clause-room
unfolding map_room
returns-clause-room g c = refl
