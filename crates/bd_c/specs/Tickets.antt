-- Descriptors that are on their way beside an engine, as C has them.
use Rattle.std.specs.Prelude.{◌≡◌, ◌+◌, ◌≤◌, ◌<◌, ℕ, Bool, true, false, List, length, Option, Some, None, is_some}
use Rattle.bd_tickets.specs.Held.{count_of}
use Rattle.bd_tickets.specs.Shelves.{held_on, on_way}
use Rattle.bd_tickets.specs.declared.shelves.Shelves.{Shelves}
use Rattle.bd_c.specs.Behind.{Of, IsMade, tickets_of}
use Rattle.bd_c.specs.Parts.{Fetches}
use Rattle.bd_c.specs.declared.held.Held.{Held}
use Rattle.bd_c.specs.declared.status.Status.{Status}
use Rattle.bd_c.specs.declared.status.Status.TheVariants as status

-- how often a descriptor is on its way, and which ones go with the parcel that the step at a place sends
abbrev pub often : Shelves → ℕ → ℕ
often x d = held_on x.lists.items d

abbrev pub with_parcel : Shelves → ℕ → Option (List ℕ)
with_parcel x step = on_way x.lists.items step

-- none is on its way
pub record AreNone (x : Shelves) : Type 0 where
  pub held : (d : ℕ) → often x d ≡ 0
  pub parcels : (s : ℕ) → with_parcel x s ≡ None

-- each is on its way as often as before, and with the same parcel
pub record AreSame (x y : Shelves) : Type 0 where
  pub held : (d : ℕ) → often y d ≡ often x d
  pub parcels : (s : ℕ) → with_parcel y s ≡ with_parcel x s

abbrev pub OthersStay : Shelves → Shelves → ℕ → Type 0
OthersStay x y step = (s : ℕ) → (s ≡ step → ⊥) → with_parcel y s ≡ with_parcel x s

-- there is nothing that is on its way behind the handle; or nothing at all, for want of memory
abbrev pub TicketsOpen : Option Held → Status → Type 0
TicketsOpen k s = IsMade (λ m. Of tickets_of m AreNone) (λ r. r ≡ status.NoMemory) k s

-- a parcel with these is on its way, and none was of its step before
pub record IsPut (x y : Shelves) (step : ℕ) (ds : List ℕ) : Type 0 where
  pub before : with_parcel x step ≡ None
  pub there : with_parcel y step ≡ Some ds
  pub held : (d : ℕ) → often y d ≡ often x d + count_of d ds
  pub others : OthersStay x y step

-- it is; or one of that step is already; or there was no memory
abbrev pub PutsTickets : Shelves → Shelves → ℕ → List ℕ → Status → Type 0
PutsTickets x y step ds status.Done = IsPut x y step ds
PutsTickets x y step ds status.Waiting = (is_some (with_parcel x step) ≡ true) × (y ≡ x)
PutsTickets x y step ds status.NoMemory = AreSame x y
PutsTickets x y step ds _ = ⊥

-- these are handed out, and no others
pub record AreTaken (x y : Shelves) (step : ℕ) (ds : List ℕ) : Type 0 where
  pub held : (d : ℕ) → often x d ≡ often y d + count_of d ds
  pub others : OthersStay x y step

-- there is no parcel of that step; or its descriptors are told, and are handed out if all of them fit
abbrev pub TakesTickets : Shelves → Shelves → ℕ → List ℕ → List ℕ → ℕ → ℕ → Bool → Type 0
TakesTickets x y step old new before count false = (with_parcel x step ≡ None) × (y ≡ x) × (new ≡ old) × (count ≡ before)
TakesTickets x y step old new before count true =
    (ds : List ℕ) × (with_parcel x step ≡ Some ds) × Fetches ds old new count
    × (length ds ≤ length old → AreTaken x y step ds) × (length old < length ds → y ≡ x)

-- a step is told whose parcel is on its way; or none is
abbrev pub TellsStep : Shelves → ℕ → ℕ → Bool → Type 0
TellsStep x old new true = is_some (with_parcel x new) ≡ true
TellsStep x old new false = ((d : ℕ) → often x d ≡ 0) × (new ≡ old)
