-- What a call with a seat does, by the driver's call of that name.
use Rattle.std.specs.Prelude.{◌≡◌, ◌≤◌, ℕ, List, length, vec_capacity, Bool, true, false, Option, Some, None}
use Rattle.std.specs.Arc.{arc_value}
use Rattle.bd_space.specs.declared.step.Request.{Request}
use Rattle.bd_space.specs.declared.step.Request.TheVariants.{Write}
use Rattle.bd_driver.specs.Rest.{is_waiting}
use Rattle.bd_driver.specs.Driver as driver
use Rattle.bd_driver.specs.Handing as handing
use Rattle.bd_driver.specs.Served as served
use Rattle.bd_driver.specs.declared.outcome.Outcome.{Outcome}
use Rattle.bd_driver.specs.declared.outcome.Outcome.TheVariants.{Back, Done as Answered}
use Rattle.bd_driver.specs.declared.outcome.Served.{Served}
use Rattle.bd_driver.specs.declared.page.Page.{Page}
use Rattle.bd_driver.specs.declared.view.View.{View}
use Rattle.bd_c.specs.Behind.{Over, seat_of}
use Rattle.bd_c.specs.Told.{told_of}
use Rattle.bd_c.specs.declared.answers.Told.{Told}
use Rattle.bd_c.specs.declared.seat.OwnedSeat.{OwnedSeat}
use Rattle.bd_c.specs.declared.held.Held.{Held}
use Rattle.bd_c.specs.declared.status.Status.{Status}
use Rattle.bd_c.specs.declared.status.Status.TheVariants.{Done, NoMemory, NoSuchRequest, Waiting, NotWaiting}

-- After the call the seat is of the same driver.
abbrev pub Stays : OwnedSeat → OwnedSeat → Type 0
Stays x y = (y.keyed ≡ x.keyed) × (y.seat.table ≡ x.seat.table)

-- The seat is as it was. How much room it keeps is nothing that C sees.
abbrev pub IsSame : OwnedSeat → OwnedSeat → Type 0
IsSame x y = (y.keyed ≡ x.keyed) × (y.seat ≡ x.seat) × (y.latest ≡ x.latest)

-- it keeps room for these bytes of a write
abbrev pub HasRoom : OwnedSeat → List ℕ → List ℕ → Type 0
HasRoom x stream area = (length stream ≤ vec_capacity x.stream) × (length area ≤ vec_capacity x.area)

-- Nothing was done: the seat is as it was, and so is what the caller has for an answer.
abbrev pub Nothing : OwnedSeat → OwnedSeat → Told → Told → Type 0
Nothing x y a b = IsSame x y × (b ≡ a)

-- an answer can be written there
abbrev pub IsPlace : Option Outcome → Type 0
IsPlace (Some (Answered answer start end)) = Unit {0}
IsPlace _ = ⊥

-- The seat keeps the outcome, and the caller is told it.
abbrev pub Keeps : OwnedSeat → Outcome → Told → Type 0
Keeps y o b = (y.latest ≡ Some o) × (b ≡ told_of o)

abbrev pub IsWaiting : OwnedSeat → Bool → Type 0
IsWaiting x waits = is_waiting x.seat.view.handover ≡ waits

-- The request has bytes that the library copies: it is a write.
abbrev pub HasBytes : Request → Type 0
HasBytes (Write stream area) = Unit {0}
HasBytes _ = ⊥

-- The request was made by a call of the driver, whose outcome is kept and told. Or nothing was done: a request was
-- handed over, or there was no memory for a copy of the bytes.
abbrev pub Asks : OwnedSeat → OwnedSeat → Request → Status → Told → Told → Type 0
Asks x y request Done a b = (o : Outcome) × Keeps y o b × driver.Calls x.seat.view y.seat.view request o
Asks x y request Waiting a b = IsWaiting x true × Nothing x y a b
Asks x y request NoMemory a b = HasBytes request × Nothing x y a b
Asks x y request _ a b = ⊥

-- the request that came back, if one did
abbrev pub given_back : Option Outcome → Option Request
given_back (Some (Back request why)) = Some request
given_back _ = None

-- The request that the latest call gave back was made by a call of the driver, whose outcome is kept and told. Or nothing was
-- done: it gave none back, or a request was handed over.
abbrev pub AsksAgain : OwnedSeat → OwnedSeat → Status → Told → Told → Type 0
AsksAgain x y Done a b = (request : Request) × (given_back x.latest ≡ Some request) × (o : Outcome) × Keeps y o b × driver.Calls x.seat.view y.seat.view request o
AsksAgain x y NoSuchRequest a b = (given_back x.latest ≡ None) × Nothing x y a b
AsksAgain x y Waiting a b = IsWaiting x true × Nothing x y a b
AsksAgain x y _ a b = ⊥

abbrev pub Looks : OwnedSeat → OwnedSeat → Page → Type 0
Looks x y page = (y.latest ≡ x.latest) × driver.LooksOnce x.seat.view y.seat.view page

abbrev pub Posts : OwnedSeat → OwnedSeat → Request → Status → Type 0
Posts x y request Done = (y.latest ≡ x.latest) × handing.Posts x.seat.view y.seat.view request
Posts x y request Waiting = IsWaiting x true × (y ≡ x)
Posts x y request NoMemory = HasBytes request × (y ≡ x)
Posts x y request _ = ⊥

abbrev pub Serves : OwnedSeat → OwnedSeat → Served → Type 0
Serves x y told = (y.latest ≡ x.latest) × served.Serves (arc_value x.keyed).driver.seats x.seat.view y.seat.view told

-- the driver did this to what was handed over, whose outcome is kept and told; or nothing was handed over, and nothing done
abbrev pub Fetched : (View → View → Outcome → Type 0) → OwnedSeat → OwnedSeat → Status → Told → Told → Type 0
Fetched Does x y Done a b = (o : Outcome) × Keeps y o b × Does x.seat.view y.seat.view o
Fetched Does x y NotWaiting a b = IsWaiting x false × Nothing x y a b
Fetched Does x y _ a b = ⊥

abbrev pub Collects : OwnedSeat → OwnedSeat → Status → Told → Told → Type 0
Collects x y s a b = Fetched handing.Collects x y s a b

abbrev pub Withdraws : OwnedSeat → OwnedSeat → Status → Told → Told → Type 0
Withdraws x y s a b = Fetched handing.Withdraws x y s a b

-- This holds of the seat that is behind the handle before and after the call, which is of the same driver then.
abbrev pub OverSeat : Option Held → Option Held → (OwnedSeat → OwnedSeat → Type 0) → Type 0
OverSeat h k P = Over seat_of h k (λ x y. Stays x y × P x y)

-- the request was made with the seat behind the handle, or nothing was done
abbrev pub AsksAt : Option Held → Option Held → Request → Told → Told → Status → Type 0
AsksAt h k request a b s = OverSeat h k (λ x y. Asks x y request s a b)
