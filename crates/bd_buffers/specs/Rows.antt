-- Buffers in rows, in the order in which they were made. The row of a buffer that ended takes no bytes any more.
use Rattle.std.specs.{Prelude.{ℕ, ◌≡◌, ◌-◌, ◌<◌, ◌==◌, Bool, true, false, not, List, Option, Some, None, length, filter, map, option_map, unwrap_or, AllPairs, remove, slice_index_or, if◌then◌else◌}, List.{slice_get}}
use Rattle.bd_buffers.specs.{declared.record.Record.{Record}, Record.{made_of_record}}

-- a row's buffer lives
abbrev pub lives : Record → Bool
lives r = not (r.size == 0)

-- and then it doesn't
abbrev pub ended : Record → Record
ended r = record r { size = 0 }

-- the live buffers
abbrev pub live : List Record → List Record
live rows = filter lives rows

-- where they were made
abbrev pub live_places : List Record → List ℕ
live_places rows = map made_of_record (live rows)

-- what is found, if it is kept
abbrev pub kept : {A : Type 0} → (A → Bool) → Option A → Option A
kept keep None = None
kept keep (Some x) = if keep x then Some x else None

-- the live buffer made at a place stands in the row of this index
pub record IsLiveRow (rows : List Record) (made i : ℕ) : Type 0 where
  pub within : i < length rows
  pub made_there : (d : Record) → (slice_index_or rows i d).made ≡ made
  pub lives_there : (d : Record) → lives (slice_index_or rows i d) ≡ true

-- ---- what is so of all rows

-- the last row is empty
abbrev pub ends_empty : List Record → Bool
ends_empty rows = unwrap_or (option_map (λ r. not (lives r)) (slice_get rows (length rows - 1))) false

pub record AreRows (rows : List Record) : Type 0 where
  pub in_order : AllPairs (λ a b. a.made < b.made) rows
  pub ends : ends_empty rows ≡ false

-- this one went, and the others stay in order
pub record IsWithout {A : Type 0} (b : A) (old new : List A) : Type 0 where
  pub index : ℕ
  pub within : index < length old
  pub at : (d : A) → b ≡ slice_index_or old index d
  pub left : new ≡ remove old index

-- live buffers as contracts see them, and how many more there is room for
pub record RowsView : Type 0 where
  pub records : List Record
  pub room : ℕ
