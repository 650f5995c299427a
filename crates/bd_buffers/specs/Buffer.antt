-- A buffer: where it lies, the pointer by which its receiver knows it, and whether it may be freed.
use Rattle.std.specs.Prelude.{ℕ, ◌≡◌, ◌+◌, ◌%◌, ◌≤◌, ◌==◌, ◌&&◌, ◌⊎◌, Bool, Option, Some, None, Result, Ok, Err, length, if◌then◌else◌}
use Rattle.bd_ways.specs.Words.{Note, Buffer, round_up}
use Rattle.bd_uapi.specs.declared.fault.Note.TheVariants.{NoSuchBuffer, NotHandedOut}
use Rattle.bd_space.specs.{Windows.{needed}, Freeing.{pointer}}

-- n bytes from p on have no byte in common with a buffer
abbrev pub IsApart : ℕ → ℕ → Buffer → Type 0
IsApart p n b = (p + n ≤ b.start) ⊎ (b.start + b.size ≤ p)

-- what is so of each live buffer of a window of this size
pub record IsPlaced (size : ℕ) (b : Buffer) : Type 0 where
  pub aligned : b.start % 8 ≡ 0
  pub sized : b.size ≡ needed (length b.bytes) (length b.offsets)
  pub inside : b.start + b.size ≤ size
  pub parts : round_up (length b.bytes) + round_up (length b.offsets) ≤ b.size
  pub bytes_fit : length b.bytes ≤ b.size
  pub offsets_fit : length b.offsets ≤ b.size

-- the receiver knows the buffer by this pointer
abbrev pub at_pointer : ℕ → Buffer → Bool
at_pointer ptr b = pointer b == ptr

-- what a buffer adds to the sizes of the one-way ones
abbrev pub one_way_share : Buffer → ℕ
one_way_share b = if b.one_way then b.size else 0

-- what it adds to those of this sender
abbrev pub share_from : ℕ → Buffer → ℕ
share_from sender b = if b.one_way && (b.sender == sender) then b.size else 0

-- the place at which a buffer that may be freed was made, or why there is none
abbrev pub freed_buffer : Option Buffer → Result ℕ Note
freed_buffer None = Err NoSuchBuffer
freed_buffer (Some b) = if b.handed then Ok b.made else Err NotHandedOut
