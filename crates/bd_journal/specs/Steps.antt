-- Reading a journal entry by entry.
use Rattle.std.specs.Prelude.{◌≡◌, ◌<◌, ℕ, List, [], ◌∷◌, length, ◌==◌, Option, Some, None, option_map, if◌then◌else◌}
use Rattle.bd_space.specs.declared.step.Entry.{Entry}
use Rattle.bd_spelling.specs.declared.record.Record.{Record}
use Rattle.bd_spelling.specs.declared.versions.Version.{Version}
use Rattle.bd_journal.specs.declared.steps.JournalReader.{JournalReader}
use Rattle.bd_spelling.specs.Reading.{◌>>=◌, entry_from, entries_from}
use Rattle.bd_journal.specs.Cut.{behind, whole_from}

-- how many seats the record has, how many entries are still to be read, and from which bytes
abbrev pub seats_of : JournalReader → ℕ
seats_of r = r.seats

abbrev pub count_left : JournalReader → ℕ
count_left r = r.left

abbrev pub bytes_left : JournalReader → List ℕ
bytes_left r = r.rest.now

-- so many entries: None where the bytes don't spell as many, and nothing else
abbrev pub all_from : Version → ℕ → ℕ → List ℕ → Option (List Entry)
all_from v seats count bytes = entries_from v seats count bytes >>= λ x. if length x.1 == 0 then Some x.0 else None

-- the entries that are still to be read
abbrev pub entries_left : JournalReader → Option (List Entry)
entries_left r = all_from r.version r.seats r.left r.rest.now

-- the record of so many seats and these entries
abbrev pub record_of : ℕ → List Entry → Record
record_of seats entries = record { seats = seats; entries = entries }

-- what a reader that has read nothing yet comes to
abbrev pub record_left : JournalReader → Option Record
record_left r = option_map (record_of r.seats) (entries_left r)

-- what is left with this entry before what is left then; without one nothing is
abbrev pub with_next : Option Entry → Option (List Entry) → Option (List Entry)
with_next None left = Some []
with_next (Some e) left = option_map (λ es. e ∷ es) left

-- the entry stands at the front of what was left, whatever is behind it, and that is left then
abbrev pub IsNext : Entry → JournalReader → JournalReader → Type 0
IsNext e old new = entry_from old.version old.seats old.rest.now ≡ Some (e, new.rest.now)

-- ---- a journal that was cut off

-- the first entry that is whole in these bytes, and the bytes behind it, which are fewer
abbrev pub IsFirstWhole : Version → ℕ → List ℕ → Option (Entry × List ℕ) → Type 0
IsFirstWhole v seats bytes None = whole_from v seats (length bytes) bytes ≡ ([], bytes)
IsFirstWhole v seats bytes (Some x) = (whole_from v seats (length bytes) bytes ≡ behind (x.0 ∷ []) (whole_from v seats (length x.1) x.1)) × (length x.1 < length bytes)

-- the entries that are whole in what is left, and the bytes behind them
abbrev pub whole_left : JournalReader → List Entry × List ℕ
whole_left r = whole_from r.version r.seats (length r.rest.now) r.rest.now

abbrev pub cut_left : JournalReader → Record × List ℕ
cut_left r = (record_of r.seats (whole_left r).0, (whole_left r).1)

-- what is whole with this entry before what is whole then; without one nothing is
abbrev pub with_whole : Option Entry → JournalReader → List Entry × List ℕ
with_whole None r = ([], r.rest.now)
with_whole (Some e) r = behind (e ∷ []) (whole_left r)
