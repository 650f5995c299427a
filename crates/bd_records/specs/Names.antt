-- What is known of names: by process and object, and by process and number.
use Rattle.std.specs.{HashMap.{spare}, Prelude.{None, Option, min, ℕ}}
use Rattle.bd_ways.specs.Words.{Identity}
use Rattle.bd_numbered.specs.Numbered.{number_room, value_at}
use Rattle.bd_records.specs.{NameRows.{object_in}, NumberKeys.{number_at}, Slots.{on_slot}, declared.{names.Names.{Names}, row.NameRow.{NameRow}}}

-- by object: the number; by number: the object
abbrev pub number_of : Names → ℕ → Identity → Option ℕ
number_of t p o = number_at t.numbers p o

abbrev pub named_by : Names → ℕ → ℕ → Option Identity
named_by t p n = object_in t.rows p n

-- p's name of o
abbrev pub name_at : Names → ℕ → Identity → Option NameRow
name_at t p o = on_slot None (value_at t.rows p) (number_of t p o)

-- the room for more names of the process
abbrev pub name_room : Names → ℕ → ℕ
name_room t p = min (number_room t.rows p) (spare t.numbers)
