-- When `new` fails.
use Rattle.std.specs.Prelude.{ℕ, ◌<◌, ◌≤◌}
use Rattle.bd_uapi.specs.{Limits.{most_seats, IsSeats}, declared.fault.Fault.{Fault}, declared.fault.Fault.TheVariants.{SeatCount, NoMemory}}

abbrev pub FaultFits : Fault → ℕ → Type 0
FaultFits SeatCount seats = 1 ≤ seats → most_seats < seats
FaultFits NoMemory seats = IsSeats seats
FaultFits _ seats = ⊥
