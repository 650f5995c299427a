-- The numbers of what came of a call.
use Rattle.std.specs.Prelude.{◌≡◌, ℕ}
use Rattle.bd_uapi.specs.declared.fault.Fault.{Fault}
use Rattle.bd_uapi.specs.declared.fault.Fault.TheVariants as fault
use Rattle.bd_c.specs.declared.status.Status.{Status}
use Rattle.bd_c.specs.declared.status.Status.TheVariants.{Done, NoMemory, Waiting, NotWaiting, Taken, NoSuchRequest, SeatCount, NoSeat, SeatsAway, NoJournal, NoSuchSeat, HistoryFull, NoCommand, Misuse, Unlawful}

abbrev pub number_of : Status → ℕ
number_of Done = 0
number_of NoMemory = 1
number_of Waiting = 2
number_of NotWaiting = 3
number_of Taken = 4
number_of NoSuchRequest = 5
number_of SeatCount = 6
number_of NoSeat = 7
number_of SeatsAway = 8
number_of NoJournal = 9
number_of NoSuchSeat = 10
number_of HistoryFull = 11
number_of NoCommand = 12
number_of Misuse = 13
number_of Unlawful = 14

-- why neither a driver nor a live engine was made
abbrev pub refusal_of : Fault → Status
refusal_of fault.SeatCount = SeatCount
refusal_of _ = NoMemory

-- the number is that of a status of which this is so
abbrev pub Reports : ℕ → (Status → Type 0) → Type 0
Reports n P = (s : Status) × (n ≡ number_of s) × P s
