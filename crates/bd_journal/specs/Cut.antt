-- Reading what is whole of a journal that was cut off.
use Rattle.std.specs.Prelude.{◌≡◌, ℕ, zero, suc, ◌<◌, List, [], ◌∷◌, ◌++◌, length, Option, Some, None}
use Rattle.std.specs.List.{flat_map, AllByRecursion}
use Rattle.bd_space.specs.declared.step.Entry.{Entry}
use Rattle.bd_spelling.specs.declared.record.Record.{Record}
use Rattle.bd_spelling.specs.declared.versions.Version.{Version}
use Rattle.bd_spelling.specs.declared.fault.ReadError.{ReadError}
use Rattle.bd_spelling.specs.declared.fault.ReadError.TheVariants as errors
use Rattle.bd_spelling.specs.Spelling.{entry_bytes, IsEntryIn}
use Rattle.bd_journal.specs.Spelling.{count_limit, heading_in, IsSeatsIn, Tells}
use Rattle.bd_spelling.specs.Reading.{◌>>=◌, entry_from}
use Rattle.bd_journal.specs.Reading.{Heading, heading_from}

-- these entries before what is read behind them
abbrev pub behind : List Entry → List Entry × List ℕ → List Entry × List ℕ
behind front read = (front ++ read.0, read.1)

-- what is whole of these bytes, by the entry that begins there and what is whole behind it
abbrev pub whole_with : (List ℕ → List Entry × List ℕ) → List ℕ → Option (Entry × List ℕ) → List Entry × List ℕ
whole_with go bytes None = ([], bytes)
whole_with go bytes (Some x) = behind (x.0 ∷ []) (go x.1)

-- entry after entry while one begins there, up to so many, and the bytes behind them
unfoldable pub whole_from : Version → ℕ → ℕ → List ℕ → List Entry × List ℕ
whole_from v seats zero bytes = ([], bytes)
whole_from v seats (suc n) bytes = whole_with (whole_from v seats n) bytes (entry_from v seats bytes)

-- the record of the entries that are whole behind a heading, whose count isn't looked at, and the bytes behind them: an entry has
-- bytes, so there are no more entries than bytes
abbrev pub whole_behind : Heading → Record × List ℕ
whole_behind heading = let read = whole_from heading.0 heading.1 (length heading.3) heading.3 in (record { seats = heading.1; entries = read.0 }, read.1)

unfoldable pub cut_in : List ℕ → Option (Record × List ℕ)
cut_in bytes = heading_from bytes >>= λ heading. Some (whole_behind heading)

-- the bytes are a heading with some count, the spelling of each entry, and then bytes that no entry begins
pub record IsCutIn (v : Version) (count : ℕ) (bytes : List ℕ) (r : Record) (left : List ℕ) : Type 0 where
  pub seats : IsSeatsIn v r.seats
  pub count_fits : count < count_limit v
  pub entries : AllByRecursion (IsEntryIn v r.seats) r.entries
  pub parts : bytes ≡ heading_in v r.seats count ++ flat_map entry_bytes r.entries ++ left
  pub none_left : entry_from v r.seats left ≡ None

-- In one of the versions the bytes are a heading with some count, the spelling of each entry, and then bytes that no entry begins.
abbrev pub IsCut : List ℕ → Record → List ℕ → Type 0
IsCut bytes r left = (v : Version) × (count : ℕ) × IsCutIn v count bytes r left

-- the bytes begin with a heading, and then with what is whole of a record
abbrev pub HasHeading : List ℕ → Type 0
HasHeading bytes = (r : Record) × (left : List ℕ) × IsCut bytes r left

-- why no record is read: none is spelled so, or memory was refused, which nobody asks for before a heading was read
abbrev pub IsUnread : List ℕ → ReadError → Type 0
IsUnread bytes errors.Malformed = (r : Record) → Tells bytes r → ⊥
IsUnread bytes errors.Memory = HasHeading bytes

-- Why nothing is read of a journal that was cut off: it has no heading, or memory was refused.
abbrev pub IsUncut : List ℕ → ReadError → Type 0
IsUncut bytes errors.Malformed = HasHeading bytes → ⊥
IsUncut bytes errors.Memory = HasHeading bytes

-- a record that has as many seats, and these entries before others
pub record Continues (r more : Record) : Type 0 where
  pub seats : more.seats ≡ r.seats
  pub entries : (es : List Entry) × (more.entries ≡ r.entries ++ es)
