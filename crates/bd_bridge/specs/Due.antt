-- What somebody is due who is looked at.
use Rattle.std.specs.Prelude.{ℕ, ◌≡◌, Bool, true, Option, Some, None}
use Rattle.bd_bridge.specs.declared.{due.Due.{Due}, waiters.Waiter.{Waiter}}
use Rattle.bd_bridge.specs.declared.due.Due.TheVariants.{Nothing, Ringing, Reading}
use Rattle.bd_bridge.specs.Forgotten.{IsInformed}

-- it is of somebody who waits so; whose doorbell is to ring waits in no read
abbrev pub Fits : Option Waiter → Due → Type 0
Fits o Nothing = Unit {0}
Fits o (Ringing w rings) = (o ≡ Some w) × (rings ≡ true → w.reads ≡ None)
Fits o (Reading w reading) = (o ≡ Some w) × (w.reads ≡ Some reading)

-- by what the seat has to read: who is due nothing, and waits, is informed
abbrev pub IsRight : (ℕ → Bool → Type 0) → Option Waiter → ℕ → Due → Type 0
IsRight Sees o seat Nothing = (w : Waiter) → o ≡ Some w → IsInformed Sees seat w
IsRight Sees o seat (Ringing w rings) = Sees seat rings
IsRight Sees o seat (Reading w reading) = Sees seat true
