-- What is kept of a buffer, and the buffer with its bytes where they stand.
use Rattle.std.specs.{Prelude.{ℕ, ◌≡◌, ◌+◌, ◌≤◌, ◌==◌, Bool, true, List, [], Option, find, length, map}, List.{between}}
use Rattle.bd_ways.specs.Words.{Buffer, round_up}
use Rattle.bd_buffers.specs.declared.record.Record.{Record}

-- the buffer of a record, with this data and these offsets
abbrev pub with_bytes : Record → List ℕ → List ℕ → Buffer
with_bytes r bytes offsets = record {
  made = r.made;
  receiver = r.receiver;
  sender = r.sender;
  start = r.start;
  size = r.size;
  one_way = r.one_way;
  handed = r.handed;
  target = r.target;
  code = r.code;
  flags = r.flags;
  euid = r.euid;
  bytes = bytes;
  offsets = offsets;
}

-- and with none, where just the record counts
abbrev pub bare : Record → Buffer
bare r = with_bytes r [] []

-- a record tells how many these are
pub record IsSized (r : Record) (bytes offsets : List ℕ) : Type 0 where
  pub data_sized : r.data_size ≡ length bytes
  pub offsets_sized : r.offsets_size ≡ length offsets

-- the buffer of a record as it stands in a window's memory: the data where it begins, the offsets behind them
abbrev pub standing : List ℕ → Record → Buffer
standing memory r =
    with_bytes r (between r.start (r.start + r.data_size) memory) (between (r.start + round_up r.data_size) (r.start + round_up r.data_size + r.offsets_size) memory)

-- memory has all of it
pub record IsInMemory (memory : List ℕ) (r : Record) : Type 0 where
  pub inside : r.start + r.size ≤ length memory
  pub parts : round_up r.data_size + round_up r.offsets_size ≤ r.size

-- ---- as of buffers

abbrev pub is_record_at : ℕ → Record → Bool
is_record_at made r = r.made == made

abbrev pub record_in : List Record → ℕ → Option Record
record_in records made = find (is_record_at made) records

abbrev pub hand_over : Record → Record
hand_over r = record r { handed = true }

-- the buffers of all these
abbrev pub all_standing : List ℕ → List Record → List Buffer
all_standing memory records = map (standing memory) records

abbrev pub made_of_record : Record → ℕ
made_of_record r = r.made
