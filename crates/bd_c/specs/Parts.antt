-- The bytes and notes of what a seat's latest call came to.
use Rattle.std.specs.Prelude.{◌≡◌, ◌==◌, ℕ, ◌≤◌, ◌⊎◌, Bool, true, false, nat_le, List, [], ◌++◌, length, drop, Option, Some, Result, Ok, Err, slice_get, if◌then◌else◌}
use Rattle.bd_uapi.specs.declared.fault.Note.{Note}
use Rattle.bd_space.specs.declared.step.Answer.TheVariants.{Wrote, Got}
use Rattle.bd_driver.specs.declared.outcome.Outcome.{Outcome}
use Rattle.bd_driver.specs.declared.outcome.Outcome.TheVariants.{Done}
use Rattle.bd_spelling.specs.Codes.{note_number}
use Rattle.bd_spelling.specs.declared.fault.WriteError.{WriteError}
use Rattle.bd_spelling.specs.declared.fault.WriteError.TheVariants.{Unspellable, Refused}
use Rattle.bd_c.specs.declared.parts.NoteTold.{NoteTold}
use Rattle.bd_c.specs.declared.status.Status.{Status}
use Rattle.bd_c.specs.declared.status.Status.TheVariants as status

-- part 0 of what a read got are the returns, 1 the data, 2 the offsets
abbrev pub part_of : ℕ → List ℕ → List ℕ → List ℕ → List ℕ
part_of part stream bytes offsets = if part == 0 then stream else (if part == 1 then bytes else (if part == 2 then offsets else []))

abbrev pub bytes_of : ℕ → Option Outcome → List ℕ
bytes_of part (Some (Done (Got stream bytes offsets) start end)) = part_of part stream bytes offsets
bytes_of part _ = []

abbrev pub notes_of : Option Outcome → List (ℕ × Note)
notes_of (Some (Done (Wrote consumed notes stop) start end)) = notes
notes_of _ = []

-- the buffer begins with all of the items, where they fit, and else is as it was
abbrev pub filled : {T : Type 0} → List T → List T → List T
filled old items = if nat_le (length items) (length old) then items ++ drop (length items) old else old

-- The answer is how many items there are, and the buffer begins with all of them where they fit.
abbrev pub Fetches : {T : Type 0} → List T → List T → List T → ℕ → Type 0
Fetches items old new count = (count ≡ length items) × (new ≡ filled old items)

-- the note at this index is told, if there is one
abbrev pub TellsNote : List (ℕ × Note) → ℕ → NoteTold → NoteTold → Bool → Type 0
TellsNote notes index old new false = (length notes ≤ index) × (new ≡ old)
TellsNote notes index old new true = (command : ℕ) × (note : Note) × (slice_get notes index ≡ Some (command, note)) × (new ≡ record { command = command; number = note_number note })

-- what would be written has no spelling, or memory was refused
abbrev pub IsUnwritten : Type 0 → Status → Type 0
IsUnwritten P status.NoJournal = P → ⊥
IsUnwritten P status.NoMemory = Unit {0}
IsUnwritten P _ = ⊥

-- what has a spelling has these bytes: it is told how many, and they are copied if all of them fit
abbrev pub Tells : Type 0 → List ℕ → List ℕ → List ℕ → ℕ → ℕ → Status → Type 0
Tells P bytes old new before size s =
    ((s ≡ status.Done) × P × Fetches bytes old new size) ⊎ (IsUnwritten P s × (new ≡ old) × (size ≡ before))

abbrev pub unwritten : WriteError → Status
unwritten Unspellable = status.NoJournal
unwritten Refused = status.NoMemory

-- of what was written for a journal it is told how many bytes it has, and they are copied if all of them fit; or why it wasn't
abbrev pub TellsWritten : Result (Unit {0}) WriteError → List ℕ → List ℕ → List ℕ → ℕ → ℕ → Status → Type 0
TellsWritten (Ok x) bytes old new before size s = (s ≡ status.Done) × Fetches bytes old new size
TellsWritten (Err why) bytes old new before size s = (s ≡ unwritten why) × (new ≡ old) × (size ≡ before)
