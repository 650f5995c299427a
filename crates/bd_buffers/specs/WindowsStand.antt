-- What the windows of all live processes stand for.
use Rattle.std.specs.Prelude.{ℕ, ◌≡◌, ◌+◌, ◌<◌, ◌≤◌, ◌==◌, nat_le, Bool, true, List, [], map, find, Option, option_map, Some, None, Ok, All, AllPairs}
use Rattle.bd_ways.specs.Words.{Process, Buffer, Space}
use Rattle.bd_space.specs.{Seats.{lives_in}, Windows.{buffers_of, start_for}}
use Rattle.bd_buffers.specs.{declared.owned.OwnedWindow.{OwnedWindow}, declared.windows.Windows.{Windows}, Homes.{AreHomes}}
use Rattle.bd_keys.specs.Look.{word_room}
use Rattle.bd_buffers.specs.Buffer as buffer
use Rattle.bd_buffers.specs.Stands as single
pub use Rattle.bd_buffers.specs.Stands.{Stands}

-- ---- the window of one process

pub record ProcessWindow : Type 0 where
  pub owner : ℕ
  pub size : ℕ
  pub buffers : List Buffer

-- as the table has it
abbrev pub seen : OwnedWindow → ProcessWindow
seen w = record { owner = w.owner; size = w.window.size; buffers = w.window.buffers }

-- as a space with these live buffers has it
abbrev pub window_of : List Buffer → Process → ProcessWindow
window_of buffers q = record { owner = q.made; size = q.window; buffers = buffers_of buffers q.made }

abbrev pub with_buffers : (List Buffer → List Buffer) → ProcessWindow → ProcessWindow
with_buffers f x = record { owner = x.owner; size = x.size; buffers = f x.buffers }

abbrev pub is_owned_by : ℕ → OwnedWindow → Bool
is_owned_by p w = w.owner == p

abbrev pub is_of : ℕ → ProcessWindow → Bool
is_of p x = x.owner == p

-- ---- all of them

-- processes and buffers as steps before this place made them: in order, and each buffer for a process that lives
pub record AreMade (bound : ℕ) (processes : List Process) (buffers : List Buffer) : Type 0 where
  pub processes_in_order : AllPairs (λ a b. a.made < b.made) processes
  pub processes_before : All (λ q. q.made < bound) processes
  pub buffers_in_order : AllPairs (λ a b. a.made < b.made) buffers
  pub buffers_before : All (λ b. b.made < bound) buffers
  pub received : All (λ b. lives_in processes b.receiver ≡ true) buffers

pub record WindowsOf (t : Windows) (bound : ℕ) (processes : List Process) (buffers : List Buffer) : Type 0 where
  pub windows_are : map seen t.windows ≡ map (window_of buffers) processes
  pub made : AreMade bound processes buffers
  pub homes_are : AreHomes t.homes buffers

-- before a step
abbrev pub StandsFor : Windows → Space → Type 0
StandsFor t s = WindowsOf t s.steps s.processes s.buffers

-- within one, which may have made a process or a buffer
abbrev pub StandsIn : Windows → Space → Type 0
StandsIn t s = WindowsOf t (s.steps + 1) s.processes s.buffers

-- ---- room

-- how many more processes may be opened
unfoldable pub window_room : Windows → ℕ
window_room t = t.room

-- the live buffers of a process; none where it has no window
abbrev pub buffers_held : Option OwnedWindow → List Buffer
buffers_held None = []
buffers_held (Some w) = w.window.buffers

-- the same of the window of a process; nothing is added where there is none
abbrev pub RoomIn : Option OwnedWindow → ℕ → ℕ → Type 0
RoomIn None start size = Unit {0}
RoomIn (Some w) start size = single.HasBufferRoom w.window start size

-- a buffer of this size can be added to the window of a process at this place without memory
unfoldable pub HasBufferRoom : Windows → ℕ → ℕ → ℕ → Type 0
HasBufferRoom t p start size = RoomIn (find (is_owned_by p) t.windows) start size × (1 ≤ word_room t.homes)

abbrev pub CanHoldIn : Option ProcessWindow → Bool → ℕ → ℕ → Type 0
CanHoldIn None one_way size start = ⊥
CanHoldIn (Some x) one_way size start = start_for x.size x.buffers one_way size ≡ Ok start

-- the window of this process can take a buffer of this size there now
unfoldable pub CanAdd : Windows → ℕ → Bool → ℕ → ℕ → Type 0
CanAdd t p one_way size start = CanHoldIn (find (is_of p) (map seen t.windows)) one_way size start

-- ---- buffers

-- what is so of every live buffer
abbrev pub IsInWindow : Buffer → Type 0
IsInWindow b = buffer.IsPlaced 4194304 b

abbrev pub made_of_buffer : Buffer → ℕ
made_of_buffer b = b.made

-- where the first of these that was made at this place or behind it was made
abbrev pub next_made : List Buffer → ℕ → Option ℕ
next_made buffers from = option_map made_of_buffer (find (λ b. nat_le from b.made) buffers)
