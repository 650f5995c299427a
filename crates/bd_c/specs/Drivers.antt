-- What a call with a driver's handle does.
use Rattle.std.specs.Prelude.{◌≡◌, ℕ, false, Option, None}
use Rattle.std.specs.Arc.{arc_value}
use Rattle.bd_c.specs.declared.held.Held.{Held}
use Rattle.bd_c.specs.declared.status.Status.{Status}
use Rattle.bd_c.specs.declared.status.Status.TheVariants.{Done, NoMemory, SeatsAway}
use Rattle.bd_c.specs.Behind.{Of, Over, IsMade, driver_of, history_of, seat_of}
use Rattle.bd_c.specs.Hosts.{Opens, IsRefusal, Hands, Keeps, is_seat_away, TakesBack, Ends}

-- A new driver with this key is behind the handle; or nothing is, and the status says why.
abbrev pub OpensAt : ℕ → ℕ → Option Held → Status → Type 0
OpensAt count key h s = IsMade (λ k. Of driver_of k (Opens count key)) (IsRefusal count) h s

-- A seat of the driver is behind the other handle; or nothing is, and the status says why.
abbrev pub HandsAt : Option Held → Option Held → Option Held → Status → Type 0
HandsAt h k at s =
    IsMade (λ m. Over driver_of h k (λ x y. Of seat_of m (Hands x y))) (λ t. Over driver_of h k (λ x y. Keeps x y t)) at s

-- the seat is one of the driver
abbrev pub IsOwn : Option Held → Option Held → Type 0
IsOwn h s = Of driver_of h (λ x. Of seat_of s (λ y. y.seat.table ≡ (arc_value x.keyed).driver.table))

-- The driver has the seat again, whose handle has nothing then; or no seat of it was away, and nothing is done.
abbrev pub ReturnsAt : Option Held → Option Held → Option Held → Option Held → Status → Type 0
ReturnsAt h k s t Done = Over driver_of h k (λ x y. Of seat_of s (TakesBack x y)) × (t ≡ None)
ReturnsAt h k s t NoMemory = Of driver_of h (λ x. is_seat_away x ≡ false) × (k ≡ h) × (t ≡ s)
ReturnsAt h k s t _ = ⊥

-- The driver's handle has its history now; or seats of it are away, and nothing is done.
abbrev pub Finishes : Option Held → Option Held → Status → Type 0
Finishes h k Done = Of driver_of h (λ x. Of history_of k (Ends x))
Finishes h k SeatsAway = k ≡ h
Finishes h k _ = ⊥
