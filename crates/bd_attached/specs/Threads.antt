-- What steps leave of threads.
use Rattle.std.specs.Prelude.{ℕ, ◌≡◌, ◌⊎◌, Some, None}
use Rattle.bd_space.specs.declared.space.Thread.{Thread}
use Rattle.bd_space.specs.declared.step.Step.{Step}
use Rattle.bd_space.specs.declared.step.Step.TheVariants.{Open, Attach, SetManager, SetSpam, Command, Read, ExitThread, ExitProcess}
use Rattle.bd_space.specs.Seats.{thread_in}
use Rattle.bd_space.specs.Steps.{step}
use Rattle.bd_space.specs.Histories.{History, space_after}

-- another seat's thread is afterwards what it was, or there is none
abbrev pub OthersStay : History → ℕ → Type 0
OthersStay h seat = (x : Step) (t : ℕ) → (t ≡ seat → ⊥)
    → (thread_in (step (space_after h) seat x).space.threads t ≡ thread_in (space_after h).threads t) ⊎ (thread_in (step (space_after h) seat x).space.threads t ≡ None)

-- if the seat that makes the step had a thread and has one now, it is of the same process
abbrev pub ActorStays : History → ℕ → Type 0
ActorStays h seat = (x : Step) (a b : Thread) → thread_in (space_after h).threads seat ≡ Some a
    → thread_in (step (space_after h) seat x).space.threads seat ≡ Some b → b.process ≡ a.process

abbrev pub AllStay : History → ℕ → Type 0
AllStay h seat = (limit : ℕ) → (step (space_after h) seat (Read limit)).space.threads ≡ (space_after h).threads

-- a step by which no thread comes
abbrev pub BringsNone : Step → Type 0
BringsNone (Open pid euid window) = ⊥
BringsNone (Attach pid) = ⊥
BringsNone SetManager = Unit {0}
BringsNone (SetSpam on) = Unit {0}
BringsNone (Command c parcel) = Unit {0}
BringsNone (Read limit) = Unit {0}
BringsNone ExitThread = Unit {0}
BringsNone ExitProcess = Unit {0}

abbrev pub NoneComes : History → ℕ → Type 0
NoneComes h seat = (x : Step) → BringsNone x → thread_in (space_after h).threads seat ≡ None → thread_in (step (space_after h) seat x).space.threads seat ≡ None

pub record Stay (h : History) (seat : ℕ) : Type 0 where
  pub others : OthersStay h seat
  pub actor : ActorStays h seat
  pub comes : NoneComes h seat
  pub reads : AllStay h seat

abbrev pub ThreadsStay : Type 0
ThreadsStay = (h : History) (seat : ℕ) → Stay h seat
