-- How many threads a table may still take without memory.
use Rattle.std.specs.{Prelude.{ℕ, ◌-◌, min, length, vec_len, vec_capacity}, HashMap.{spare}}
use Rattle.bd_threads.specs.declared.table.ThreadTable.{ThreadTable}

unfoldable pub thread_room : ThreadTable → ℕ
thread_room t = min (vec_capacity t.rows - vec_len t.rows) (spare t.places)

-- how many rows there are, with those whose threads have gone
abbrev pub row_count : ThreadTable → ℕ
row_count t = length t.rows.items

-- how many more rows take no memory
abbrev pub row_room : ThreadTable → ℕ
row_room t = vec_capacity t.rows - vec_len t.rows
