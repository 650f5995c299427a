-- How many more keys may come without memory.
use Rattle.std.specs.Prelude.{ℕ, ◌-◌, ◌^◌, min, vec_len, vec_capacity}
use Rattle.bd_keys.specs.declared.tree.Tree.{Tree}

unfoldable pub tree_room : Tree → ℕ
tree_room t = min (vec_capacity t.nodes) (2 ^ 32) - vec_len t.nodes
