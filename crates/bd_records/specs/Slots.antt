-- Records in their slots.
use Rattle.std.specs.Prelude.{ℕ, ◌-◌, Option, option_map}
use Rattle.slab.specs.Slab.{Slab, get, slab_len}
use Rattle.bd_ways.specs.Words.{Identity}
use Rattle.bd_records.specs.declared.row.ObjectRow.{ObjectRow}
pub use Rattle.bd_numbered.specs.Columns.{on_slot}

-- the identity of the object whose record stands in a slot
abbrev pub id_in : Slab ObjectRow → ℕ → Option Identity
id_in rows k = option_map (λ r. r.object.id) (get rows k)

abbrev pub row_room : Slab ObjectRow → ℕ
row_room rows = rows.capacity - slab_len rows
