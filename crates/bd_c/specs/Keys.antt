-- The keys of drivers, by which a driver knows its own seats.
use Rattle.std.specs.Prelude.{◌≡◌, ℕ, Option}
use Rattle.std.specs.Arc.{arc_value}
use Rattle.bd_c.specs.declared.held.Held.{Held}
use Rattle.bd_c.specs.declared.host.Host.{Host}
use Rattle.bd_c.specs.declared.seat.OwnedSeat.{OwnedSeat}
use Rattle.bd_c.specs.Behind.{Of, driver_of, seat_of}

-- The key that a driver was made with, by which it knows its seats.
abbrev pub host_key : Host → ℕ
host_key h = (arc_value h.keyed).key

-- The key of the driver that a seat was taken off.
abbrev pub seat_key : OwnedSeat → ℕ
seat_key s = (arc_value s.keyed).key

-- behind the handles are a driver and a seat whose driver has the same key
abbrev pub HaveOneKey : Option Held → Option Held → Type 0
HaveOneKey h s = Of driver_of h (λ x. Of seat_of s (λ y. seat_key y ≡ host_key x))
