-- What the driver says of all its seats.
use Rattle.std.specs.Prelude.{◌++◌, ◌-◌, ◌⊎◌, ◌≡◌, ℕ, zero, suc, ◌+◌, ◌<◌, List, [], ◌∷◌}
use mathlib.Core.Option.{some}
use lib.ListN.{get_elem?}
use Rattle.atomic_table.specs.Seated.{TableId}
use Rattle.bd_space.specs.{declared.step.Entry.{Entry}, Histories.{IsHistory, BeginsWith, history_of}, declared.step.Request.{Request}}
use Rattle.bd_space.specs.declared.step.Answer.{Answer}
use Rattle.bd_driver.specs.{Views.{places_of, places, tick, seated}, declared.view.Tally.{Tally}, declared.view.View.{View}, declared.view.Handover.{Handover}}
use Rattle.bd_driver.specs.{declared.view.Handover.TheVariants.{Shut, Open, Waiting}, Mailboxes.{RunAt}, States.{SeatState}}

-- that many new seats of a table, by number from this one on
abbrev pub new_seats : TableId → ℕ → ℕ → ℕ → List SeatState
new_seats table seats who zero = []
new_seats table seats who (suc k) = record { table = table; view = seated seats who } ∷ new_seats table seats (who + 1) k

abbrev pub seat_state : TableId → View → SeatState
seat_state table v = record { table = table; view = v }

abbrev pub closed_hand : Handover → Handover
closed_hand Shut = Shut
closed_hand Open = Shut
closed_hand (Waiting r since) = Waiting r since

-- one load more has shut a mailbox that was open, and found it empty
abbrev pub shut_tally : Handover → Tally → Tally
shut_tally Shut t = t
shut_tally Open t = tick t 0
shut_tally (Waiting r since) t = t

-- a seat's view once its mailbox is shut, if it was open
abbrev pub closed_view : View → View
closed_view v = record v { handover = closed_hand v.handover; shuts = shut_tally v.handover v.shuts }

abbrev pub views_of : List SeatState → List View
views_of [] = []
views_of (s ∷ ss) = closed_view s.view ∷ views_of ss

-- no seat is missing
abbrev pub AllSeats : ℕ → List SeatState → Type 0
AllSeats seats states = (who : ℕ) → who < seats → (i : ℕ) × (s : SeatState) × (get_elem? states i ≡ some s) × (s.view.who ≡ who)

-- where its entries stand is what the seat knows as own; or it waits, and one run of what it posted stands there too
abbrev pub OwnEntries : List Entry → View → Type 0
OwnEntries entries v =
    (places_of v.who entries ≡ v.own)
    ⊎ ((r : Request) × (since : ℕ) × (answer : Answer) × (start : ℕ) × (end : ℕ) × (v.handover ≡ Waiting r since) × RunAt v.seats entries v.who r since answer start end × (places_of v.who entries ≡ v.own ++ places start (end - start)))

-- a lawful history for all these seats: each has seen a beginning of it, and knows its entries there
pub record IsFinal (seats : ℕ) (states : List SeatState) (count : ℕ) (entries : List Entry) : Type 0 where
  pub seats_are : count ≡ seats
  pub lawful : IsHistory (history_of seats entries)
  pub begins : (i : ℕ) (s : SeatState) → get_elem? states i ≡ some s → BeginsWith entries s.view.seen
  pub own : (i : ℕ) (s : SeatState) → get_elem? states i ≡ some s → OwnEntries entries s.view
