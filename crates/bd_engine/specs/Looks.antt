-- What the calls that read an engine answer of the space of its history.
use Rattle.std.specs.Prelude.{ℕ, ◌≡◌, ◌<◌, ◌≤◌, nat_le, Bool, true, List, Option, Some, None, find, is_some, option_map, option_and_then}
use Rattle.bd_ways.specs.Words.{list_any, Identity, OfThread, is_some_and, Space}
use Rattle.bd_space.specs.Seats.{thread_in, process_with_pid}
use Rattle.bd_space.specs.References.{object_in, is_asking}
use Rattle.bd_space.specs.Names.{named, number_in}
use Rattle.bd_space.specs.Windows.{buffers_of}
use Rattle.bd_space.specs.Returns.{buffer_in}
use Rattle.bd_space.specs.Frames.{innermost, serves}
use Rattle.bd_space.specs.Todo.{work_on}
use Rattle.bd_records.specs.Carried.{carried_in}
use Rattle.bd_engine.specs.declared.narrow.BufferLook.{BufferLook}
use Rattle.bd_todo.specs.TodoList.{first_reply_in}

-- the process of the live thread of a seat
abbrev pub process_of : Space → ℕ → Option ℕ
process_of s seat = option_map (λ t. t.process) (thread_in s.threads seat)

-- the live process with this pid
abbrev pub process_of_pid : Space → ℕ → Option ℕ
process_of_pid s pid = option_map (λ q. q.made) (process_with_pid s.processes pid)

-- the first live process that was opened at this place or behind it
abbrev pub next_process : Space → ℕ → Option ℕ
next_process s from = option_map (λ q. q.made) (find (λ q. nat_le from q.made) s.processes)

-- what the number names for the live process with this pid
abbrev pub named_by : Space → ℕ → ℕ → Option Identity
named_by s pid n = option_and_then (λ q. named s q.made n) (process_with_pid s.processes pid)

-- the least number from this one on that names something for the live process with this pid
abbrev pub IsNextHandle : Space → ℕ → ℕ → Option ℕ → Type 0
IsNextHandle s pid from None = (n : ℕ) → from ≤ n → named_by s pid n ≡ None
IsNextHandle s pid from (Some n) =
    (from ≤ n) × (is_some (named_by s pid n) ≡ true) × ((m : ℕ) → from ≤ m → m < n → named_by s pid m ≡ None)

-- the process that owns an object of the space
abbrev pub owner_of : Space → Identity → Option ℕ
owner_of s o = option_map (λ x. x.owner) (object_in s.objects o)

-- where the innermost frame of a thread was made, and whether the thread serves it
abbrev pub innermost_of : Space → ℕ → Option (ℕ × Bool)
innermost_of s seat = option_map (λ f. (f.made, serves seat f.server)) (innermost s seat)

-- where the first reply on a thread's own list was made
abbrev pub first_reply : Space → ℕ → Option ℕ
first_reply s seat = first_reply_in (work_on s.todo (Some (OfThread seat)))

-- whether the process has a name for the object
abbrev pub knows : Space → ℕ → Identity → Bool
knows s p o = is_some (number_in s.names p o)

-- the objects that the live buffer made there carries
abbrev pub carried : Space → ℕ → List Identity
carried s made = carried_in s.references made

-- what is told of the live buffer made there, where places have 32 bits
abbrev pub buffer_of : Space → ℕ → Option BufferLook
buffer_of s made =
    option_map (λ b. record { receiver = b.receiver; target = b.target; handed = b.handed; carried = carried s made }) (buffer_in s.buffers made)

-- the first live buffer of the process that was made at this place or behind it
abbrev pub next_buffer : Space → ℕ → ℕ → Option ℕ
next_buffer s p from = option_map (λ b. b.made) (find (λ b. nat_le from b.made) (buffers_of s.buffers p))

-- whether the process has a reference of this strength to what its number names because it asked for one
abbrev pub has_asked : Space → ℕ → ℕ → Bool → Bool
has_asked s p n strong = is_some_and (named s p n) (λ o. list_any (is_asking p o strong) s.references)
