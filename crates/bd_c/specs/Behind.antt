-- What is behind a handle: a driver, the history of one that has ended, a seat, a live engine, descriptors that are on their way, rings, or what
-- threads have sent.
use Rattle.std.specs.Prelude.{◌≡◌, ◌⊎◌, Option, Some, None, ⊤, IsSomeAnd}
use Rattle.bd_spelling.specs.declared.record.Record.{Record}
use Rattle.bd_ring.specs.declared.rings.Rings.{Rings}
use Rattle.bd_sendings.specs.declared.sendings.Sendings.{Sendings}
use Rattle.bd_tickets.specs.declared.shelves.Shelves.{Shelves}
use Rattle.bd_c.specs.declared.held.Held.{Held}
use Rattle.bd_c.specs.declared.held.Held.TheVariants as held
use Rattle.bd_c.specs.declared.host.Host.{Host}
use Rattle.bd_c.specs.declared.live.OwnedLive.{OwnedLive}
use Rattle.bd_c.specs.declared.seat.OwnedSeat.{OwnedSeat}
use Rattle.bd_c.specs.declared.status.Status.{Status}
use Rattle.bd_c.specs.declared.status.Status.TheVariants.{Done}

-- something is behind the handle
abbrev pub IsThere : Option Held → Type 0
IsThere h = (x : Held) × (h ≡ Some x)

-- What is behind the handle is of this kind, and P holds of it.
abbrev pub Of : {T : Type 0} → (Held → Option T) → Option Held → (T → Type 0) → Type 0
Of kind h P = IsSomeAnd h (λ v. IsSomeAnd (kind v) P)

-- What is behind the handle is of this kind before and after the call, and P holds of the two.
abbrev pub Over : {T : Type 0} → (Held → Option T) → Option Held → Option Held → (T → T → Type 0) → Type 0
Over kind h k P = Of kind h (λ x. Of kind k (P x))

-- What was asked for is behind the handle; or nothing is, and the status says why.
abbrev pub IsMade : (Option Held → Type 0) → (Status → Type 0) → Option Held → Status → Type 0
IsMade IsThis IsRefused h s = ((s ≡ Done) × IsThis h) ⊎ ((h ≡ None) × IsRefused s)

abbrev pub driver_of : Held → Option Host
driver_of (held.Driver x) = Some x
driver_of _ = None

abbrev pub history_of : Held → Option Record
history_of (held.History r) = Some r
history_of _ = None

abbrev pub seat_of : Held → Option OwnedSeat
seat_of (held.Seat x) = Some x
seat_of _ = None

abbrev pub live_of : Held → Option OwnedLive
live_of (held.Live x) = Some x
live_of _ = None

abbrev pub tickets_of : Held → Option Shelves
tickets_of (held.Tickets x) = Some x
tickets_of _ = None

abbrev pub rings_of : Held → Option Rings
rings_of (held.Rings x) = Some x
rings_of _ = None

abbrev pub sendings_of : Held → Option Sendings
sendings_of (held.Sendings x) = Some x
sendings_of _ = None

abbrev pub IsDriver : Option Held → Type 0
IsDriver h = Of driver_of h (λ x. ⊤)

-- the driver has ended, and this is its history
abbrev pub IsEnded : Option Held → Type 0
IsEnded h = Of history_of h (λ r. ⊤)

abbrev pub IsSeat : Option Held → Type 0
IsSeat h = Of seat_of h (λ x. ⊤)

abbrev pub IsLive : Option Held → Type 0
IsLive h = Of live_of h (λ x. ⊤)

abbrev pub IsTickets : Option Held → Type 0
IsTickets h = Of tickets_of h (λ x. ⊤)

abbrev pub IsRings : Option Held → Type 0
IsRings h = Of rings_of h (λ x. ⊤)

abbrev pub IsSendings : Option Held → Type 0
IsSendings h = Of sendings_of h (λ x. ⊤)
