use Rattle.std.proofs.Common.{◌≡◌, ◌+◌, ◌≤◌, drop, count_by, is_some}
use Rattle.bd_keys.specs.declared.key.WordKey.{WordKey}
use Rattle.bd_keys.specs.Keys.{place_in}
use Rattle.bd_keys.specs.Walk.{keys}
use Rattle.bd_keys.specs.Treed.{tree_look, map_room, tree_count, live_count}
use Rattle.bd_keys.proofs.Looks.{value_below}
use Rattle.bd_keys.proofs.treed.TreeMap.rebuilt.Given as goal

abbrev pub invariant-loop-at : goal.invariant-loop-at
invariant-loop-at g l = record {
  shown : (k : WordKey) → tree_look l.fresh k ≡ value_below l.self.values.items l.at
      (place_in (keys l.self.tree.nodes.items) k);
  room : count_by is_some (drop l.at l.self.values.items) + l.more ≤ map_room l.fresh;
  keys : tree_count l.fresh + count_by is_some (drop l.at l.self.values.items) ≤ live_count l.self;
}
