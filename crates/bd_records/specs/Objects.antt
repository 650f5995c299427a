-- The records of objects, by identity.
use Rattle.std.specs.{HashMap.{get_by, spare}, Prelude.{None, Option, min, ℕ}}
use Rattle.slab.specs.Slab.{get}
use Rattle.bd_ways.specs.Words.{Identity, same}
use Rattle.bd_records.specs.{Slots.{on_slot, row_room}, declared.{objects.Objects.{Objects}, row.ObjectRow.{ObjectRow}}}

abbrev pub slot_at : Objects → Identity → Option ℕ
slot_at t o = get_by (same o) t.slots

abbrev pub row_at : Objects → Identity → Option ObjectRow
row_at t o = on_slot None (get t.rows) (slot_at t o)

-- the room for more objects
abbrev pub object_room : Objects → ℕ
object_room t = min (row_room t.rows) (spare t.slots)
