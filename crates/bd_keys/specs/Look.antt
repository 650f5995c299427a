-- What is at a key, and how many new keys may still come without memory.
use Rattle.std.specs.Prelude.{ℕ, ◌+◌, cond, Option, Some, None}
use Rattle.std.specs.Option.{option_or}
use Rattle.bd_keys.specs.declared.key.WordKey.{WordKey}
use Rattle.bd_keys.specs.declared.map.Latest.{Latest}
use Rattle.bd_keys.specs.declared.map.WordMap.{WordMap}
use Rattle.bd_keys.specs.Keys.{same_word}
use Rattle.bd_keys.specs.Treed.{tree_look, map_room, tree_count, live_count}

-- the value that came last, if this is its key
abbrev pub latest_at : {V : Type 0} → Option (Latest V) → WordKey → Option V
latest_at None k = None
latest_at (Some x) k = cond (same_word x.key k) (Some x.value) None

unfoldable pub look : {V : Type 0} → WordMap V → WordKey → Option V
look m k = option_or (latest_at m.latest k) (tree_look m.others k)

-- each key that comes takes one place in the tree at most: the one before goes there
unfoldable pub word_room : {V : Type 0} → WordMap V → ℕ
word_room m = map_room m.others

abbrev latest_count : {V : Type 0} → Option (Latest V) → ℕ
latest_count None = 0
latest_count (Some x) = 1

-- no more keys than these are there (what came last may stand in the tree as well, without a value), and so many have a value
abbrev pub key_count : {V : Type 0} → WordMap V → ℕ
key_count m = tree_count m.others + latest_count m.latest

abbrev pub value_count : {V : Type 0} → WordMap V → ℕ
value_count m = live_count m.others + latest_count m.latest
