-- What a call with a live engine's handle does: the same after every history that the engine follows, none of which it keeps.
use Rattle.std.specs.Prelude.{◌≡◌, ◌≤◌, ◌<◌, ℕ, true, [], length, Option, Some, None, IsSome}
use Rattle.bd_space.specs.declared.step.Step.{Step}
use Rattle.bd_space.specs.declared.step.StepAnswer.{StepAnswer}
use Rattle.bd_space.specs.Steps.{step}
use Rattle.bd_space.specs.Histories.{History, space_after, extended, HasLivePlace, is_at_end}
use Rattle.bd_engine.specs.Follows.{Follows}
use Rattle.bd_engine.specs.Ending.{ended_between}
use Rattle.bd_engine.specs.Reached.{KeepsTold}
use Rattle.bd_engine.specs.Refusals.{IsLiveSeats}
use Rattle.bd_bridge.specs.{Forgotten.{NobodyIsForgotten}, Waiting.{at, seats_in}}
use Rattle.bd_bridge_live.specs.Live.{FollowsTold, Sees, IsOf, CanRest, IsCommand}
use Rattle.bd_c.specs.Behind.{Of, Over, IsMade, live_of}
use Rattle.bd_c.specs.Told.{told_of_step}
use Rattle.bd_c.specs.declared.answers.Told.{Told}
use Rattle.bd_c.specs.declared.live.OwnedLive.{OwnedLive}
use Rattle.bd_c.specs.declared.held.Held.{Held}
use Rattle.bd_c.specs.declared.status.Status.{Status}
use Rattle.bd_c.specs.declared.status.Status.TheVariants.{Done, NoMemory, Waiting, SeatCount, NoSuchSeat, HistoryFull}

-- Nobody who waits is forgotten: whoever waits is informed, or is still seen to. And whom a step has reached is known, or that it
-- isn't known.
pub record Watches (x : OwnedLive) (h : History) : Type 0 where
  pub follows : FollowsTold x.bridge.engine h
  pub watched : NobodyIsForgotten (Sees h) (IsOf h) (CanRest h) x.bridge.waiters x.bridge.suspects x.bridge.resting

-- the seat's thread may wait: the engine is a bridge
abbrev pub IsBridged : OwnedLive → ℕ → Type 0
IsBridged x seat = seat < seats_in x.bridge.waiters

-- a new engine follows this history, and has no entry; of so many seats it is kept who waits, and nobody does
pub record Begins (h : History) (waiting : ℕ) (x : OwnedLive) : Type 0 where
  pub follows : Follows x.bridge.engine.live h
  pub seats_are : x.bridge.engine.live.seats ≡ h.seats
  pub none : x.latest ≡ None
  pub ended : x.ended.items ≡ []
  pub noted : x.noted.items ≡ []
  pub changed : x.changed.items ≡ []
  pub reached : x.reached.items ≡ []
  pub whole : x.whole ≡ true
  pub waiting_are : seats_in x.bridge.waiters ≡ waiting
  pub nobody : (t : ℕ) → at x.bridge.waiters t ≡ None
  pub watches : Watches x h

-- Why no live engine was made: the number of seats is out of its limits, or there was no memory.
abbrev pub IsLiveRefusal : ℕ → Status → Type 0
IsLiveRefusal seats SeatCount = IsLiveSeats seats → ⊥
IsLiveRefusal seats NoMemory = IsLiveSeats seats
IsLiveRefusal seats _ = ⊥

-- what was noted of the seats is the same
pub record KeepsNotes (x y : OwnedLive) : Type 0 where
  pub noted : y.noted.items ≡ x.noted.items
  pub changed : y.changed.items ≡ x.changed.items

-- what was found of the todo lists is the same
pub record KeepsLists (x y : OwnedLive) : Type 0 where
  pub reached : y.reached.items ≡ x.reached.items
  pub whole : y.whole ≡ x.whole

-- after this history the answer is the space's, and is told, and those buffers are listed that ended; the history with the entry
-- more is then followed
pub record IsAnswered (h : History) (y : OwnedLive) (seat : ℕ) (x : Step) (answer : StepAnswer) (told : Told) : Type 0 where
  pub said : answer ≡ (step (space_after h) seat x).answer
  pub shown : told ≡ told_of_step answer (length h.entries) (length (extended h seat x answer).entries)
  pub ended : y.ended.items ≡ ended_between (space_after h) (space_after (extended h seat x answer))
  pub follows : Follows y.bridge.engine.live (extended h seat x answer)

-- The step was made, and its entry is kept: so is every history that was followed answered. Whatever was told of the todo lists is known
-- still; a bridge asks for them itself, and watches over who waits, which nobody does otherwise than before.
pub record Makes (x y : OwnedLive) (seat : ℕ) (z : Step) (told : Told) : Type 0 where
  pub answer : StepAnswer
  pub kept : y.latest ≡ Some (record { seat = seat; step = z; answer = answer })
  pub seats : y.bridge.engine.live.seats ≡ x.bridge.engine.live.seats
  pub answered : (h : History) → Follows x.bridge.engine.live h → IsAnswered h y seat z answer told
  pub notes : KeepsNotes x y
  pub lists : KeepsLists x y
  pub recalls : (IsBridged x seat → ⊥) → KeepsTold x.bridge.engine.live y.bridge.engine.live
  pub waits : y.bridge.waiters ≡ x.bridge.waiters
  pub watches : IsBridged x seat → (h : History) → Watches x h → Watches y (extended h seat z answer)

-- no step was made: what was followed is followed, the entry and the lists are the same, and nothing is told
pub record Rests (x y : OwnedLive) (seat : ℕ) (a b : Told) : Type 0 where
  pub kept : y.latest ≡ x.latest
  pub seats : y.bridge.engine.live.seats ≡ x.bridge.engine.live.seats
  pub follows : (h : History) → Follows x.bridge.engine.live h → Follows y.bridge.engine.live h
  pub told : b ≡ a
  pub ended : y.ended.items ≡ x.ended.items
  pub notes : KeepsNotes x y
  pub lists : KeepsLists x y
  pub recalls : (IsBridged x seat → ⊥) → KeepsTold x.bridge.engine.live y.bridge.engine.live
  pub waits : y.bridge.waiters ≡ x.bridge.waiters
  pub watches : IsBridged x seat → (h : History) → Watches x h → Watches y h

-- A step was made. Or none was: there is no such seat; the history is full, or would need a number past the limit; there
-- was no memory, which isn't said of a full history; or a thread would come to a seat that is noted to wait.
abbrev pub Steps : OwnedLive → OwnedLive → ℕ → Step → Status → Told → Told → Type 0
Steps x y seat z Done a b = Makes x y seat z b
Steps x y seat z NoSuchSeat a b = (x.bridge.engine.live.seats ≤ seat) × Rests x y seat a b
Steps x y seat z HistoryFull a b = ((h : History) → Follows x.bridge.engine.live h → is_at_end h seat (Some z) ≡ true) × Rests x y seat a b
Steps x y seat z NoMemory a b = ((h : History) → Follows x.bridge.engine.live h → HasLivePlace h) × Rests x y seat a b
Steps x y seat z Waiting a b = IsSome (at x.bridge.waiters seat) × (IsCommand z → ⊥) × Rests x y seat a b
Steps x y seat z _ a b = ⊥

-- A new live engine that follows this history is behind the handle, of so many of whose seats it is kept who waits; or nothing is, and the
-- status says why.
abbrev pub LiveOpensAt : History → ℕ → Option Held → Status → Type 0
LiveOpensAt h waiting k s = IsMade (λ m. Of live_of m (Begins h waiting)) (IsLiveRefusal h.seats) k s

-- the step was made with the live engine behind the handle, or none was
abbrev pub StepsAt : Option Held → Option Held → ℕ → Step → Told → Told → Status → Type 0
StepsAt h k seat z a b s = Over live_of h k (λ x y. Steps x y seat z s a b)
