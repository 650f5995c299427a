-- What a bridge's calls do: who waits, and what those who wait are told.
use Rattle.std.specs.Prelude.{◌≡◌, ◌≤◌, ◌==◌, ◌⊎◌, ℕ, Bool, true, false, Option, Some, None, Result, Ok, Err, option_map, IfSome, IsNone, if◌then◌else◌}
use Rattle.bd_space.specs.declared.step.Entry.{Entry}
use Rattle.bd_space.specs.declared.step.Step.TheVariants.{Read}
use Rattle.bd_space.specs.Histories.{History}
use Rattle.bd_engine.specs.Follows.{Follows}
use Rattle.bd_engine.specs.StepError.TheVariants as step_error
use Rattle.bd_bridge.specs.{Forgotten.{IsInformed, IsLeft}, Waiting.{at, seats_in}, Suspects.{suspects_in}, Settled.{HasSettled}, Signals.{signals_of, room_of, awakened}}
use Rattle.bd_bridge.specs.declared.{signal.Signal.{Signal}, waiters.{Waiter.{Waiter}}}
use Rattle.bd_bridge.specs.declared.signal.Signal.TheVariants as signal
use Rattle.bd_bridge_live.specs.Live.{FollowsTold, Sees, IsOf, CanWait, CanRest, after_read}
use Rattle.bd_bridge_live.specs.declared.live.NotMade.{NotMade}
use Rattle.bd_bridge_live.specs.declared.live.NotMade.TheVariants.{NoSuchSeat, Refused}
use Rattle.bd_c.specs.Status.{number_of}
use Rattle.bd_c.specs.Told.{placed}
use Rattle.bd_c.specs.Lives.{Watches, KeepsNotes, KeepsLists, IsAnswered}
use Rattle.bd_c.specs.declared.answers.Told.{Told}
use Rattle.bd_c.specs.declared.live.OwnedLive.{OwnedLive}
use Rattle.bd_c.specs.declared.bridges.SignalTold.{SignalTold}
use Rattle.bd_c.specs.declared.status.Status.{Status}
use Rattle.bd_c.specs.declared.status.Status.TheVariants as status

-- ---- who waits

-- nothing differs but how this seat's thread waits, and still nobody is forgotten
pub record OnlyWaits (x y : OwnedLive) (seat : ℕ) : Type 0 where
  pub engine : y.bridge.engine ≡ x.bridge.engine
  pub latest : y.latest ≡ x.latest
  pub ended : y.ended.items ≡ x.ended.items
  pub notes : KeepsNotes x y
  pub lists : KeepsLists x y
  pub seats : seats_in y.bridge.waiters ≡ seats_in x.bridge.waiters
  pub others : (t : ℕ) → (t ≡ seat → ⊥) → at y.bridge.waiters t ≡ at x.bridge.waiters t
  pub watches : (h : History) → Watches x h → Watches y h

-- The seat's thread waits so from now on; or it is no seat of a bridge, and nothing differs; or there was no memory, and it waits as before.
abbrev pub Awaits : (Option Waiter → Option Waiter → Type 0) → OwnedLive → OwnedLive → ℕ → Status → Type 0
Awaits Goes x y seat status.Done = OnlyWaits x y seat × Goes (at x.bridge.waiters seat) (at y.bridge.waiters seat)
Awaits Goes x y seat status.NoMemory = OnlyWaits x y seat × (at y.bridge.waiters seat ≡ at x.bridge.waiters seat)
Awaits Goes x y seat status.NoSuchSeat = (seats_in x.bridge.waiters ≤ seat) × (y ≡ x)
Awaits Goes x y seat _ = ⊥

-- it waits in a read, and its doorbell is as it was; who didn't wait has none
pub record BeginsToRead (room : ℕ) (defers leaves : Bool) (old new : Option Waiter) : Type 0 where
  pub reads : option_map (λ (w : Waiter). w.reads) new ≡ Some (Some (record { room = room; defers = defers; leaves = leaves }))
  pub doorbell : IfSome old (λ (o : Waiter). option_map (λ (w : Waiter). w.has_doorbell) new ≡ Some o.has_doorbell)
  pub rung : IfSome old (λ (o : Waiter). option_map (λ (w : Waiter). w.is_rung) new ≡ Some o.is_rung)
  pub has_none : IsNone old → option_map (λ (w : Waiter). w.has_doorbell) new ≡ Some false
  pub silent : IsNone old → option_map (λ (w : Waiter). w.is_rung) new ≡ Some false

-- What a number says of what a thread need not be told before the reply to a call of its own: 0, that it is told all; 1, that such may be read
-- for it meanwhile; 2, the same, and that what can rest is left to it. No other number says anything.
abbrev pub deferring_of : ℕ → Option (Bool × Bool)
deferring_of n = if n == 0 then Some (false, false) else (if n == 1 then Some (true, false) else (if n == 2 then Some (true, true) else None))

-- what says nothing changes nothing
abbrev pub WaitsByFlag : ℕ → ℕ → OwnedLive → OwnedLive → ℕ → Status → Type 0
WaitsByFlag room word x y seat s =
    ((s ≡ status.NoSuchRequest) × (deferring_of word ≡ None) × (y ≡ x))
    ⊎ ((defers leaves : Bool) × (deferring_of word ≡ Some (defers, leaves)) × Awaits (BeginsToRead room defers leaves) x y seat s)

-- it has a doorbell, which is silent, and waits in a read as it did; who didn't wait waits in none
pub record GetsDoorbell (old new : Option Waiter) : Type 0 where
  pub has : option_map (λ (w : Waiter). w.has_doorbell) new ≡ Some true
  pub silent : option_map (λ (w : Waiter). w.is_rung) new ≡ Some false
  pub reads : IfSome old (λ (o : Waiter). option_map (λ (w : Waiter). w.reads) new ≡ Some o.reads)
  pub reads_none : IsNone old → option_map (λ (w : Waiter). w.reads) new ≡ Some None

abbrev pub StopsReading : Option Waiter → Option Waiter → Type 0
StopsReading old new = new ≡ awakened old

abbrev pub StopsWaiting : Option Waiter → Option Waiter → Type 0
StopsWaiting old new = new ≡ None

-- ---- what they are told

-- where a read found neither memory nor a place in the history
abbrev pub status_of : NotMade → Status
status_of NoSuchSeat = status.NoSuchSeat
status_of (Refused step_error.NoMemory) = status.NoMemory
status_of (Refused step_error.HistoryFull) = status.HistoryFull

abbrev pub no_answer : Told
no_answer = placed 0 0 0

abbrev pub none_told : Bool → SignalTold
none_told left = record { kind = 0; seat = 0; wakes = false; rings = false; is_left = left; status = 0; answer = no_answer }

abbrev pub bell_told : ℕ → Bool → Bool → SignalTold
bell_told seat rings left = record { kind = 2; seat = seat; wakes = false; rings = rings; is_left = left; status = 0; answer = no_answer }

abbrev pub read_told : ℕ → Bool → Bool → Status → Told → SignalTold
read_told seat wakes left s answer = record { kind = 1; seat = seat; wakes = wakes; rings = false; is_left = left; status = number_of s; answer = answer }

-- no step was made
pub record MadeNone (x y : OwnedLive) : Type 0 where
  pub latest : y.latest ≡ x.latest
  pub ended : y.ended.items ≡ x.ended.items
  pub seats : y.bridge.engine.live.seats ≡ x.bridge.engine.live.seats
  pub follows : (h : History) → Follows x.bridge.engine.live h → Follows y.bridge.engine.live h

-- a read was made, with the room that the seat waits with; it is the latest step, and its answer is told
pub record MadeRead (x y : OwnedLive) (seat : ℕ) (e : Entry) (answer : Told) : Type 0 where
  pub kept : y.latest ≡ Some e
  pub entry : e ≡ record { seat = seat; step = Read (room_of (at x.bridge.waiters seat)); answer = e.answer }
  pub seats : y.bridge.engine.live.seats ≡ x.bridge.engine.live.seats
  pub answered : (h : History) → Follows x.bridge.engine.live h → IsAnswered h y seat (Read (room_of (at x.bridge.waiters seat))) e.answer answer

-- what is told of a signal
abbrev pub IsTold : OwnedLive → OwnedLive → Option (Signal (Result Entry NotMade)) → SignalTold → Type 0
IsTold x y None told = (told ≡ none_told told.is_left) × MadeNone x y
IsTold x y (Some (signal.Bell seat rings)) told = (told ≡ bell_told seat rings told.is_left) × MadeNone x y
IsTold x y (Some (signal.Read seat (Err why) wakes)) told = (told ≡ read_told seat wakes told.is_left (status_of why) no_answer) × MadeNone x y
IsTold x y (Some (signal.Read seat (Ok e) wakes)) told = (told ≡ read_told seat wakes told.is_left status.Done told.answer) × MadeRead x y seat e told.answer

-- So many looks were made, until one came to a signal, or none did. The signal was due, whoever gets none waits as before, and the engine
-- has made this read and nothing else. Where nobody is left, whoever waits is informed, or is left what can rest. Looks that come to no signal
-- come to an end.
pub record HasLooked (x y : OwnedLive) (looks : ℕ) (told : SignalTold) : Type 0 where
  pub signal : Option (Signal (Result Entry NotMade))
  pub is_told : IsTold x y signal told
  pub on : (h : History) → Watches x h → HasSettled FollowsTold Sees IsOf after_read CanWait CanRest h x.bridge.waiters (signals_of signal) y.bridge.engine y.bridge.waiters y.bridge.suspects y.bridge.resting
  pub settled : told.is_left ≡ false → (h : History) → Watches y h → (t : ℕ) (w : Waiter) → at y.bridge.waiters t ≡ Some w → IsInformed (Sees h) t w ⊎ IsLeft (CanRest h) t w
  pub progress : IsNone signal → suspects_in x.bridge.suspects ≤ looks → told.is_left ≡ false
  pub seats : seats_in y.bridge.waiters ≡ seats_in x.bridge.waiters
  pub notes : KeepsNotes x y
  pub lists : KeepsLists x y
