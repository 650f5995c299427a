-- What is behind a driver's handle, and what becomes of it.
use Rattle.std.specs.Prelude.{◌≡◌, ℕ, ◌<◌, ◌≤◌, nat_lt, Bool, true, [], ◌∷◌, ◌++◌, None, vec_len}
use Rattle.std.specs.Arc.{arc_value}
use Rattle.bd_uapi.specs.Limits.{most_seats, IsSeats}
use Rattle.bd_spelling.specs.declared.record.Record.{Record}
use Rattle.bd_driver.specs.Together.{AllSeats, IsFinal, new_seats}
use Rattle.bd_c.specs.declared.host.Host.{Host}
use Rattle.bd_c.specs.declared.seat.OwnedSeat.{OwnedSeat}
use Rattle.bd_c.specs.declared.status.Status.{Status}
use Rattle.bd_c.specs.Keys.{host_key}
use Rattle.bd_c.specs.declared.status.Status.TheVariants.{NoMemory, SeatCount, NoSeat}

-- a new driver with this key and so many seats, all of them there, which have seen nothing yet
pub record Opens (count key : ℕ) (h : Host) : Type 0 where
  pub within : IsSeats count
  pub count_is : h.count ≡ count
  pub key_is : host_key h ≡ key
  pub driver : (arc_value h.keyed).driver.seats ≡ count
  pub seats : h.seats.items ≡ new_seats (arc_value h.keyed).driver.table count 0 count

-- Why no driver was made: the number of seats is out of its limits, or there was no memory.
abbrev pub IsRefusal : ℕ → Status → Type 0
IsRefusal count SeatCount = 1 ≤ count → most_seats < count
IsRefusal count NoMemory = IsSeats count
IsRefusal count _ = ⊥

-- What is behind the handle is still the same driver.
abbrev pub SameDriver : Host → Host → Type 0
SameDriver h k = (k.keyed ≡ h.keyed) × (k.count ≡ h.count)

-- fewer seats are there than the driver has
abbrev pub is_seat_away : Host → Bool
is_seat_away h = nat_lt (vec_len h.seats) h.count

-- the first seat that was there is handed out, with its driver, and is away then
abbrev pub Hands : Host → Host → OwnedSeat → Type 0
Hands h k seat =
    SameDriver h k × (h.seats.items ≡ seat.seat ∷ k.seats.items) × (arc_value seat.keyed ≡ arc_value h.keyed) × (seat.latest ≡ None)
    × (is_seat_away k ≡ true)

-- No seat is handed out: none was there, or there was no memory.
abbrev pub Keeps : Host → Host → Status → Type 0
Keeps h k NoSeat = (k ≡ h) × (h.seats.items ≡ [])
Keeps h k NoMemory = k ≡ h
Keeps h k _ = ⊥

-- The driver has a seat again that was away.
abbrev pub TakesBack : Host → Host → OwnedSeat → Type 0
TakesBack h k seat = SameDriver h k × (k.seats.items ≡ h.seats.items ++ seat.seat ∷ [])

-- All seats are there, and the record is the driver's whole history.
abbrev pub Ends : Host → Record → Type 0
Ends h r = (vec_len h.seats ≡ h.count)
    × (let d = (arc_value h.keyed).driver in AllSeats d.seats h.seats.items → IsFinal d.seats h.seats.items r.seats r.entries)
