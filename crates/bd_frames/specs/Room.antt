-- How many frames a table may still take without memory, how many it has, and what a change takes of that.
use Rattle.std.specs.Prelude.{ℕ, ◌-◌, vec_len, vec_capacity}
use Rattle.bd_keys.specs.Tables as tables
use Rattle.bd_frames.specs.declared.table.FrameTable.{FrameTable}

unfoldable pub frame_room : FrameTable → ℕ
frame_room t = vec_capacity t.rows - vec_len t.rows

unfoldable pub frame_count : FrameTable → ℕ
frame_count t = vec_len t.rows

-- a change takes room for at most n frames, and adds at most n
abbrev pub Uses : FrameTable → FrameTable → ℕ → Type 0
Uses = tables.Uses frame_room frame_count
