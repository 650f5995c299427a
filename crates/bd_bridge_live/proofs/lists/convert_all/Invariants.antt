use Rattle.std.proofs.Common.{◌≡◌, map, take}
use Rattle.bd_bridge_live.specs.Lists.{converted}
use Rattle.bd_bridge_live.proofs.lists.convert_all.Given as goal

abbrev pub invariant-loop-list : goal.invariant-loop-list
invariant-loop-list l = l.out.items ≡ map converted (take l.list-index l.lists)
