-- How many processes a table may still take without memory.
use Rattle.std.specs.Prelude.{ℕ, ◌-◌, min, vec_len, vec_capacity}
use Rattle.bd_keys.specs.Look.{word_room}
use Rattle.bd_processes.specs.declared.table.ProcessTable.{ProcessTable}

unfoldable pub process_room : ProcessTable → ℕ
process_room t = min (vec_capacity t.list - vec_len t.list) (word_room t.by_pid)
