-- A live engine as a bridge has it: its worlds are the histories that it follows.
use Rattle.std.specs.Prelude.{ℕ, ◌≡◌, ◌⊎◌, ◌≤◌, Bool, true, Option, Some, None, Result, Ok, Err}
use Rattle.bd_space.specs.declared.step.{Step.{Step}, Entry.{Entry}}
use Rattle.bd_space.specs.declared.space.Thread.{Thread}
use Rattle.bd_space.specs.Seats.{thread_in}
use Rattle.bd_space.specs.Histories.{History, space_after, extended, HasLivePlace, is_at_end, is_ready}
use Rattle.bd_space.specs.Steps.{step}
use Rattle.bd_engine.specs.Follows as engine
use Rattle.bd_engine.specs.Ending.{ended_between}
use Rattle.bd_step.specs.declared.step_error.StepError.TheVariants.{NoMemory, HistoryFull}
use Rattle.bd_engine.specs.Reached.{Recalls, has_work}
use Rattle.bd_attached.specs.Threads.{BringsNone}
use Rattle.bd_bridge_live.specs.Deferring.{may_wait, IsInCall, HasCompletionAlone}
use Rattle.bd_bridge_live.specs.declared.live.{LiveEngine.{LiveEngine}, NotMade.{NotMade}}
use Rattle.bd_bridge_live.specs.declared.live.NotMade.TheVariants.{NoSuchSeat, Refused}

-- it follows the history, and, unless it says otherwise, was told of its lists as they are after that
pub record FollowsTold (e : LiveEngine) (h : History) : Type 0 where
  pub follows : engine.Follows e.live h
  pub recalls : e.is_told ≡ true → Recalls e.live (has_work (space_after h))

-- What came of a step: its entry, which is kept where it was made, or why it wasn't. (That one was made and none is kept isn't said of any
-- step: MakesOrNot.)
abbrev pub answer_of : Result (Unit {0}) NotMade → Option Entry → Result Entry NotMade
answer_of (Err why) kept = Err why
answer_of (Ok _) None = Err NoSuchSeat
answer_of (Ok _) (Some e) = Ok e

-- what wasn't made isn't in it
abbrev pub after_step : History → ℕ → Step → Result Entry NotMade → History
after_step h seat x (Ok e) = extended h seat x e.answer
after_step h seat x (Err why) = h

abbrev pub after_read : History → ℕ → Result Entry NotMade → History
after_read h seat (Ok e) = extended h seat e.step e.answer
after_read h seat (Err why) = h

-- whether the seat is ready; of a seat whose thread has ended nothing is said
abbrev pub Sees : History → ℕ → Bool → Type 0
Sees h t b = (is_ready (space_after h) t ≡ b) ⊎ (thread_in (space_after h).threads t ≡ None)

abbrev pub IsOf : History → ℕ → ℕ → Type 0
IsOf h t p = (a : Thread) → thread_in (space_after h).threads t ≡ Some a → a.process ≡ p

-- by such a step no thread comes
abbrev pub IsCommand : Step → Type 0
IsCommand x = BringsNone x

-- its thread is in a call of its own, and was read nothing but what can wait for the reply
abbrev pub CanWait : History → ℕ → Result Entry NotMade → Type 0
CanWait h seat (Ok e) = IsInCall (space_after h) seat × (may_wait e.answer ≡ true)
CanWait h seat (Err why) = ⊥

-- it is in a call of its own, and has the completion of one to read and nothing else
abbrev pub CanRest : History → ℕ → Type 0
CanRest h seat = IsInCall (space_after h) seat × HasCompletionAlone (space_after h) seat

-- the step was made, and its entry tells the space's answer, and those buffers are listed that ended
pub record HasMade (x : LiveEngine) (seat : ℕ) (z : Step) (e : Entry) (y : LiveEngine) : Type 0 where
  pub seat_is : e.seat ≡ seat
  pub step_is : e.step ≡ z
  pub seats : y.live.seats ≡ x.live.seats
  pub answer : (h : History) → engine.Follows x.live h → e.answer ≡ (step (space_after h) seat z).answer
  pub follows : (h : History) → engine.Follows x.live h → engine.Follows y.live (extended h seat z e.answer)
  pub ended : (h : History) → engine.Follows x.live h → y.ended.items ≡ ended_between (space_after h) (space_after (extended h seat z e.answer))

-- why it wasn't: there is no such seat, the history is full, or there was no memory, which isn't said of a full history
abbrev pub IsWhy : LiveEngine → ℕ → Step → NotMade → Type 0
IsWhy x seat z NoSuchSeat = x.live.seats ≤ seat
IsWhy x seat z (Refused HistoryFull) = (h : History) → engine.Follows x.live h → is_at_end h seat (Some z) ≡ true
IsWhy x seat z (Refused NoMemory) = (h : History) → engine.Follows x.live h → HasLivePlace h

pub record HasNotMade (x : LiveEngine) (seat : ℕ) (z : Step) (why : NotMade) (y : LiveEngine) : Type 0 where
  pub seats : y.live.seats ≡ x.live.seats
  pub follows : (h : History) → engine.Follows x.live h → engine.Follows y.live h
  pub is_why : IsWhy x seat z why

-- its entry is kept, or what was kept is still
abbrev pub MakesOrNot : LiveEngine → Option Entry → ℕ → Step → Result (Unit {0}) NotMade → LiveEngine → Option Entry → Type 0
MakesOrNot x k seat z (Ok _) y k' = (e : Entry) × (k' ≡ Some e) × HasMade x seat z e y
MakesOrNot x k seat z (Err why) y k' = (k' ≡ k) × HasNotMade x seat z why y
