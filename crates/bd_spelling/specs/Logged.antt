-- Bytes that are spellings of entries, one after the other.
use Rattle.std.specs.Prelude.{ℕ, ◌≡◌, ◌≤◌, List, [], ◌++◌, length, Option, Some, None}
use Rattle.std.specs.List.{flat_map, AllByRecursion}
use Rattle.bd_space.specs.declared.step.Entry.{Entry}
use Rattle.bd_spelling.specs.declared.versions.Version.TheVariants.{Two}
use Rattle.bd_spelling.specs.Spelling.{entry_bytes, IsEntry}
use Rattle.bd_spelling.specs.Reading.{entries_from}

-- more seats than a history of any kind has; a word still tells each of them
abbrev pub every_seat : ℕ
every_seat = 4294967295

-- the entries that were read, of which there are none where reading failed
abbrev pub read_of : Option (List Entry × List ℕ) → List Entry
read_of None = []
read_of (Some x) = x.0

-- so many entries, read from the front of the bytes
unfoldable pub entries_in : ℕ → List ℕ → List Entry
entries_in count bytes = read_of (entries_from Two every_seat count bytes)

-- so many entries can be read from the bytes, a journal spells each, and the bytes have nothing else
pub record AreSpelled (count : ℕ) (bytes : List ℕ) : Type 0 where
  pub bytes_are : bytes ≡ flat_map entry_bytes (entries_in count bytes)
  pub counted : length (entries_in count bytes) ≡ count
  pub fit : AllByRecursion (IsEntry every_seat) (entries_in count bytes)

-- what contracts see of entries that are kept as bytes: the entries, for how many bytes more there is room, and how many are free of
-- the memory that is there, the room among them
pub record LogView : Type 0 where
  pub entries : List Entry
  pub room : ℕ
  pub memory : ℕ

-- the entries of chunks in their order, and then of the last
abbrev pub all_entries : List LogView → LogView → List Entry
all_entries full last = flat_map (λ c. c.entries) full ++ last.entries

-- the entries of chunks in their order
abbrev pub entries_of : List LogView → List Entry
entries_of chunks = flat_map (λ c. c.entries) chunks

-- a journal of so many seats can have all of these entries, and one of fewer can't
pub record AreSeatsOf (n : ℕ) (es : List Entry) : Type 0 where
  pub enough : AllByRecursion (IsEntry n) es
  pub least : (m : ℕ) → AllByRecursion (IsEntry m) es → n ≤ m
