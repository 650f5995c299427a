-- What the rows of names say.
use Rattle.std.specs.Prelude.{Option, option_map, ℕ}
use Rattle.bd_ways.specs.Words.{Identity}
use Rattle.bd_numbered.specs.{Numbered.{value_at}, declared.numbered.Numbered.{Numbered}}
use Rattle.bd_records.specs.{Count.{no_count}, declared.row.NameRow.{NameRow}}

abbrev pub object_of : NameRow → Identity
object_of r = r.object

-- what the number names for the process
abbrev pub object_in : Numbered NameRow → ℕ → ℕ → Option Identity
object_in rows p n = option_map object_of (value_at rows p n)

-- a new name's, which counts nothing
abbrev pub new_row : Identity → NameRow
new_row o = record { object = o; asked = no_count; carried = no_count }
