-- A window: room for a buffer, the budget of one-way buffers, and what is so of every window.
use Rattle.std.specs.{Prelude.{ℕ, ◌≡◌, ◌+◌, length, slice_index, ◌*◌, ◌/◌, ◌%◌, ◌<◌, ◌≤◌, Bool, not, List, filter, sum_by, min, IsTrue, All, AllPairs}, List.{list_all}}
use Rattle.bd_ways.specs.Words.{Cause, Buffer}
use Rattle.bd_uapi.specs.declared.fault.Cause.TheVariants.{NoRoom, OverBudget}
use Rattle.bd_buffers.specs.{Buffer.{IsApart, IsPlaced}, declared.rows.Rows.{Rows}, declared.ground.Ground.{Ground}, Holes.{Hole}, declared.record.Record.{Record}, Record.{all_standing, IsInMemory}, Sums.{AreSums}}
use Rattle.bd_ground.specs.Tiles.{Tiles, is_in}
use Rattle.bd_keys.specs.Look.{word_room}

-- n bytes at p are free, in a window of this size with these live buffers
pub record IsFree (size : ℕ) (buffers : List Buffer) (n p : ℕ) : Type 0 where
  pub aligned : p % 8 ≡ 0
  pub inside : p + n ≤ size
  pub free : All (IsApart p n) buffers

-- and no lower place has room
pub record IsLeastFree (size : ℕ) (buffers : List Buffer) (n p : ℕ) : Type 0 where
  pub room : IsFree size buffers n p
  pub least : (q : ℕ) → IsFree size buffers n q → p ≤ q

-- the sizes of the one-way buffers together
abbrev pub one_way_size : List Buffer → ℕ
one_way_size buffers = sum_by (λ b. b.size) (filter (λ b. b.one_way) buffers)

-- so much more still fits into the half that one-way calls may use
abbrev pub IsInBudget : ℕ → List Buffer → ℕ → Type 0
IsInBudget size buffers more = 2 * (one_way_size buffers + more) ≤ size

-- when a buffer is refused, by the cause: want of room is found first
abbrev pub Refuses : ℕ → List Buffer → Bool → ℕ → Cause → Type 0
Refuses size buffers one_way n NoRoom = (p : ℕ) → IsFree size buffers n p → ⊥
Refuses size buffers one_way n OverBudget =
    IsTrue one_way × ((p : ℕ) × IsFree size buffers n p) × (size < 2 * (one_way_size buffers + n))
Refuses size buffers one_way n _ = ⊥

-- what is so of every window
pub record IsWindow (size : ℕ) (buffers : List Buffer) : Type 0 where
  pub whole : size % 8 ≡ 0
  pub small : size ≤ 4194304
  pub in_order : AllPairs (λ a b. a.made < b.made) buffers
  pub placed : All (IsPlaced size) buffers
  pub apart : AllPairs (λ a b. IsApart b.start b.size a) buffers
  pub budget : IsInBudget size buffers 0

-- no buffer has a byte, or has any of a unit of eight
abbrev pub is_free_byte : List Buffer → ℕ → Bool
is_free_byte buffers q = list_all (λ b. not (is_in b.start b.size q)) buffers

abbrev pub is_free_unit : List Buffer → ℕ → Bool
is_free_unit buffers u = is_free_byte buffers (8 * u)

-- where each begins is noted where it was made
abbrev pub AreStarts : List Buffer → List ℕ → Type 0
AreStarts buffers starts = All (λ b. slice_index starts (b.start / 8) ≡ b.made) buffers

-- what a window keeps of its buffers: the units that none has are noted as free, each is found by where it begins, and each sender's sum
-- is what its one-way buffers take
pub record Notes (buffers : List Buffer) (g : Ground) : Type 0 where
  pub window : IsWindow g.size buffers
  pub whole : g.size ≡ 8 * g.spans.size
  pub tiles : Tiles (is_free_unit buffers) g.spans
  pub starts : AreStarts buffers g.starts.items
  pub total : g.one_way ≡ one_way_size buffers
  pub sums : AreSums buffers g.senders

-- and their bytes stand in its memory
pub record Keeps (records : List Record) (g : Ground) : Type 0 where
  pub notes : Notes (all_standing g.memory records) g
  pub there : All (IsInMemory g.memory) records

-- how many more buffers can be noted
abbrev pub room_left : Rows → Ground → ℕ
room_left t g = min t.room (word_room g.senders)

-- up to which place there is memory, and room to note what is free
abbrev pub reach_of : Ground → ℕ
reach_of g = min (length g.memory) (8 * min (length g.starts.items) (min (length g.spans.holes) (length g.spans.begins.items)))

-- a window as contracts see it: its size, its live buffers, oldest first, what they leave free, how many more it has room to note, and up to
-- which place it has memory
pub record WindowView : Type 0 where
  pub size : ℕ
  pub buffers : List Buffer
  pub holes : List Hole
  pub tail : ℕ
  pub room : ℕ
  pub reach : ℕ
