-- What is at a key of a tree, and how many new keys may still come to it without memory.
use Rattle.std.specs.Prelude.{ℕ, ◌-◌, min, List, get_or, Option, Some, None, is_some, count_by, vec_len, vec_capacity}
use Rattle.bd_keys.specs.declared.key.WordKey.{WordKey}
use Rattle.bd_keys.specs.declared.treed.TreeMap.{TreeMap}
use Rattle.bd_keys.specs.Keys.{place_in}
use Rattle.bd_keys.specs.Walk.{keys}
use Rattle.bd_keys.specs.Room.{tree_room}

-- what is at a place, if there is one
abbrev pub value_at : {V : Type 0} → List (Option V) → Option ℕ → Option V
value_at vs None = None
value_at vs (Some i) = get_or vs i None

-- the place of a key
abbrev pub place_of : {V : Type 0} → TreeMap V → WordKey → Option ℕ
place_of m k = place_in (keys m.tree.nodes.items) k

unfoldable pub tree_look : {V : Type 0} → TreeMap V → WordKey → Option V
tree_look m k = value_at m.values.items (place_of m k)

unfoldable pub map_room : {V : Type 0} → TreeMap V → ℕ
map_room m = min (tree_room m.tree) (vec_capacity m.values - vec_len m.values)

-- how many keys a tree has, and how many of them have a value
abbrev pub tree_count : {V : Type 0} → TreeMap V → ℕ
tree_count m = vec_len m.values

abbrev pub live_count : {V : Type 0} → TreeMap V → ℕ
live_count m = count_by is_some m.values.items
