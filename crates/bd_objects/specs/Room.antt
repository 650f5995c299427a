-- How many members a table may still take without memory, and what a change takes of that.
use Rattle.std.specs.Prelude.{ℕ, ◌+◌, ◌≤◌, ◌≡◌, ◌==◌, false, List, length}
use Rattle.bd_ways.specs.Words.{Item, Object}
use Rattle.bd_records.specs.{Records.{new_room, reference_room as reference_room_of}, Since.{given_room}}
use Rattle.bd_deaths.specs.Room.{death_room as death_room_of, death_count as death_count_of}
use Rattle.bd_objects.specs.declared.table.ObjectTable.{ObjectTable}
use Rattle.bd_objects.specs.declared.room.Room.{Room}

-- room for more of each, of names by process, and how many there are of those that others count
pub record Rooms : Type 0 where
  pub objects_left : ℕ
  pub references_left : ℕ
  pub names_left : ℕ → ℕ
  pub deaths_left : ℕ
  pub death_count : ℕ

unfoldable pub rooms : ObjectTable → Rooms
rooms t = record {
  objects_left = new_room t.records;
  references_left = reference_room_of t.records;
  names_left = given_room t.records;
  deaths_left = death_room_of t.deaths;
  death_count = death_count_of t.deaths;
}

abbrev pub object_room : ObjectTable → ℕ
object_room t = (rooms t).objects_left

abbrev pub reference_room : ObjectTable → ℕ
reference_room t = (rooms t).references_left

abbrev pub name_room : ObjectTable → ℕ → ℕ
name_room t p = (rooms t).names_left p

abbrev pub death_room : ObjectTable → ℕ
death_room t = (rooms t).deaths_left

abbrev pub death_count : ObjectTable → ℕ
death_count t = (rooms t).death_count

-- room for so many of each, the names those of its process
pub record HasRoom (t : ObjectTable) (room : Room) : Type 0 where
  pub objects_fit : room.objects ≤ object_room t
  pub references_fit : room.references ≤ reference_room t
  pub names_fit : room.names ≤ name_room t room.process
  pub deaths_fit : room.deaths ≤ death_room t

-- a change takes at most so much room, of names that of each process, and adds at most so many objects and death notifications
pub record Uses (old new : ObjectTable) (room : Room) : Type 0 where
  pub objects_fit : object_room old ≤ object_room new + room.objects
  pub references_fit : reference_room old ≤ reference_room new + room.references
  pub names_fit : (p : ℕ) → name_room old p ≤ name_room new p + room.names
  pub deaths_fit : death_room old ≤ death_room new + room.deaths
  pub deaths_count : death_count new ≤ death_count old + room.deaths

abbrev pub nothing : Room
nothing = record { objects = 0; references = 0; names = 0; process = 0; deaths = 0 }

abbrev pub UsesNothing : ObjectTable → ObjectTable → Type 0
UsesNothing old new = Uses old new nothing

-- the same of a change with which the names of a process end, and their room
pub record UsesNothingBut (ended : ℕ) (old new : ObjectTable) : Type 0 where
  pub objects_fit : object_room old ≤ object_room new
  pub references_fit : reference_room old ≤ reference_room new
  pub names_fit : (p : ℕ) → (ended == p) ≡ false → name_room old p ≤ name_room new p
  pub deaths_fit : death_room old ≤ death_room new
  pub deaths_count : death_count new ≤ death_count old

-- for the objects that a parcel makes, a reference and a name of the receiver for each of its items, and a reference to the target
abbrev pub delivery_room : ℕ → List Object → List Item → Room
delivery_room q made items =
    record { objects = length made; references = length items + 1; names = length items; process = q; deaths = 0 }
