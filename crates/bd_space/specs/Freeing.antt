-- The step of BC_FREE_BUFFER.
use Rattle.std.specs.Prelude.{ℕ, ◌+◌, ◌==◌, Bool, not, ◌&&◌, Option, Some, None, find, filter, if◌then◌else◌}
use Rattle.bd_space.specs.{Words.{Note, Buffer, Space}, References.is_of_buffer, Outcomes.{Outcome, accepted, noted}}

-- the pointer by which a receiver knows a buffer
abbrev pub pointer : Buffer → ℕ
pointer b = 65536 + b.start

unfoldable pub buffer_at_pointer : Space → ℕ → ℕ → Option Buffer
buffer_at_pointer s p ptr = find (λ b. (b.receiver == p) && (pointer b == ptr)) s.buffers

abbrev pub is_made_at : ℕ → Buffer → Bool
is_made_at made b = b.made == made

-- a buffer goes, and the references that it held
unfoldable pub without_buffer : Space → ℕ → Space
without_buffer s made = record s {
  buffers = filter (λ b. not (is_made_at made b)) s.buffers;
  references = filter (λ r. not (is_of_buffer made r.holder)) s.references;
}

abbrev pub free_outcome : Space → Option Buffer → Outcome
free_outcome s None = noted s Note.NoSuchBuffer
free_outcome s (Some b) = if b.handed then accepted (without_buffer s b.made) else noted s Note.NotHandedOut

unfoldable pub free_step : Space → ℕ → ℕ → Outcome
free_step s p ptr = free_outcome s (buffer_at_pointer s p ptr)
