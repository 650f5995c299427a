-- Where a buffer goes in its receiver's window.
use Rattle.std.specs.Prelude.{ℕ, ◌+◌, ◌*◌, ◌/◌, ◌==◌, nat_le, nat_lt, Bool, ◌&&◌, ◌||◌, List, Option, Result, max, filter, option_map, sum_by}
use Rattle.bd_space.specs.Words.{list_all, Cause, Buffer, least, round_up, when, ok_or, unless, and_then}

-- the room that a parcel needs
abbrev pub needed : ℕ → ℕ → ℕ
needed bytes offsets = max 8 (round_up bytes + round_up offsets)

-- the live buffers in a process's window
abbrev pub buffers_of : List Buffer → ℕ → List Buffer
buffers_of buffers p = filter (λ b. b.receiver == p) buffers

-- two spans have no byte in common
abbrev pub is_apart : ℕ → ℕ → Buffer → Bool
is_apart start size b = nat_le (start + size) b.start || nat_le (b.start + b.size) start

-- the span meets no live buffer and ends inside the window
abbrev pub fits_in : ℕ → List Buffer → ℕ → ℕ → Bool
fits_in window buffers size start = nat_le (start + size) window && list_all (is_apart start size) buffers

-- the least multiple of 8 that fits
unfoldable pub start_in : ℕ → List Buffer → ℕ → Option ℕ
start_in window buffers size = option_map (λ k. 8 * k) (least (window / 8) 0 (λ k. fits_in window buffers size (8 * k)))

-- with the new one the window's one-way buffers would take up over half of it
unfoldable pub over_budget_in : ℕ → List Buffer → ℕ → Bool
over_budget_in window buffers size = nat_lt window (2 * (sum_by (λ b. b.size) (filter (λ b. b.one_way) buffers) + size))

-- the place of a new buffer, or why there is none
unfoldable pub start_for : ℕ → List Buffer → Bool → ℕ → Result ℕ Cause
start_for window buffers one_way size =
    and_then (ok_or (start_in window buffers size) Cause.NoRoom) (unless (when (one_way && over_budget_in window buffers size) Cause.OverBudget))
