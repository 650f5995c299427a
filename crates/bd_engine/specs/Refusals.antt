-- Why an engine, a step or a run is refused.
use Rattle.std.specs.Prelude.{ℕ, ◌≤◌}
use Rattle.bd_ways.specs.Words.{Fault}
use Rattle.bd_uapi.specs.Limits.{IsSeats}
use Rattle.bd_uapi.specs.declared.fault.Fault.TheVariants as fault
pub use Rattle.bd_step.specs.Refusals.{FullOnly, MemoryOnly}

-- the fault is that of the number of seats, and that is outside, or memory was refused
abbrev pub IsSeatFault : ℕ → Fault → Type 0
IsSeatFault n fault.SeatCount = IsSeats n → ⊥
IsSeatFault n fault.NoMemory = IsSeats n
IsSeatFault n _ = ⊥

-- a live engine has 1 to 65536 seats
abbrev pub IsLiveSeats : ℕ → Type 0
IsLiveSeats n = (1 ≤ n) × (n ≤ 65536)

-- the fault is that of the number of seats, and that is outside, or memory was refused
abbrev pub IsLiveSeatFault : ℕ → Fault → Type 0
IsLiveSeatFault n fault.SeatCount = IsLiveSeats n → ⊥
IsLiveSeatFault n fault.NoMemory = IsLiveSeats n
IsLiveSeatFault n _ = ⊥
