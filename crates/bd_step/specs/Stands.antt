-- What the tables of an engine stand for: a space.
use Rattle.std.specs.Prelude.{ℕ, ◌≡◌, ◌+◌, ◌≤◌, true, List, Option}
use Rattle.bd_ways.specs.Words.{Identity, Process, Space}
use Rattle.bd_space.specs.Names.{has_number_past_limit}
use Rattle.bd_ways.specs.Tables as tables
use Rattle.bd_laws.specs.Tidy.{IsTidy}
use Rattle.bd_processes.specs.declared.table.ProcessTable.{ProcessTable}
use Rattle.bd_processes.specs.Stands.{ProcessesAre}
use Rattle.bd_objects.specs.Stands as objects
use Rattle.bd_objects.specs.Room as object_rooms
use Rattle.bd_objects.specs.declared.room.Room.{Room}
use Rattle.bd_calls.specs.Stands as calls
use Rattle.bd_calls.specs.Room as call_rooms
use Rattle.bd_calls.specs.Stacked.{IsStacked, TakesCalls}
use Rattle.bd_calls.specs.Told as told
use Rattle.bd_buffers.specs.WindowsStand.{WindowsOf}
use Rattle.bd_step.specs.declared.tables.Tables.{Tables}

-- the place of the next step, the live processes, the context manager's object
pub record Own (steps : ℕ) (processes : List Process) (manager : Option Identity) (steps' : ℕ) (processes' : ProcessTable) (manager' : Option Identity) : Type 0 where
  pub steps_are : steps ≡ steps'
  pub processes_are : ProcessesAre processes' processes
  pub manager_is : manager ≡ manager'

-- every member was made by a step before this place
pub record StandsAt (bound : ℕ) (t : Tables) (s : Space) : Type 0 where
  pub own : Own s.steps s.processes s.manager t.steps t.processes t.manager
  pub objects_stand : objects.StandsFor t.objects s
  pub calls_stand : calls.StandsFor t.calls s
  pub windows_stand : WindowsOf t.windows bound s.processes s.buffers

-- before a step
abbrev pub Before : Tables → Space → Type 0
Before t s = StandsAt s.steps t s

-- within one, which may have made a process or a buffer
abbrev pub Within : Tables → Space → Type 0
Within t s = StandsAt (s.steps + 1) t s

-- ---- what the tables tell of the spaces that they stand for, and what they make of them

-- of each, x is what f says
abbrev pub Tells : {A : Type 0} → Tables → A → (Space → A) → Type 0
Tells t x f = (n : ℕ) → tables.Tells (StandsAt n t) x f

-- before a step
abbrev pub TellsBefore : {A : Type 0} → Tables → A → (Space → A) → Type 0
TellsBefore t x f = tables.Tells (Before t) x f

-- within one
abbrev pub TellsWithin : {A : Type 0} → Tables → A → (Space → A) → Type 0
TellsWithin t x f = tables.Tells (Within t) x f

-- of each in which a thread's innermost frame is its newest
abbrev pub TellsOfStacked : {A : Type 0} → Tables → A → (Space → A) → Type 0
TellsOfStacked t x f = (n : ℕ) → tables.TellsWhere (StandsAt n t) IsStacked x f

-- of such a one before a step
abbrev pub TellsBeforeOfStacked : {A : Type 0} → Tables → A → (Space → A) → Type 0
TellsBeforeOfStacked t x f = tables.TellsWhere (Before t) IsStacked x f

-- a change of the tables makes what f makes of each
abbrev pub Makes : Tables → Tables → (Space → Space) → Type 0
Makes old new f = (n : ℕ) → tables.Makes (StandsAt n old) (StandsAt n new) f

-- of each in which a thread's innermost frame is its newest, and all were made before
abbrev pub MakesOfStacked : Tables → Tables → (Space → Space) → Type 0
MakesOfStacked old new f = (n : ℕ) → tables.MakesWhere (StandsAt n old) TakesCalls (StandsAt n new) f

-- within a step
abbrev pub MakesWithin : Tables → Tables → (Space → Space) → Type 0
MakesWithin old new f = tables.Makes (Within old) (Within new) f

-- the same, of a space in which nothing is pending
abbrev pub MakesOfTidy : Tables → Tables → (Space → Space) → Type 0
MakesOfTidy old new f = tables.MakesWhere (Within old) IsTidy (Within new) f

-- from before a step to within it
abbrev pub Begins : Tables → Tables → (Space → Space) → Type 0
Begins old new f = tables.Makes (Before old) (Within new) f

-- what f makes needs a number past the limit
abbrev pub PassesLimit : Tables → (Space → Space) → Type 0
PassesLimit t f = (s : Space) → Before t s → has_number_past_limit (f s).names ≡ true

-- ---- what was told of the todo lists

-- whatever was told of them: it is known still
abbrev pub KeepsTold : Tables → Tables → Type 0
KeepsTold old new = told.KeepsTold old.calls new.calls

-- ---- room

-- a change makes at most so many work items, and adds at most so many frames and one-way calls
pub record Uses (old new : Tables) (frames turns works : ℕ) : Type 0 where
  pub works_fit : call_rooms.work_room old.calls ≤ call_rooms.work_room new.calls + works
  pub frames_count : call_rooms.frame_count new.calls ≤ call_rooms.frame_count old.calls + frames
  pub turns_count : call_rooms.turn_count new.calls ≤ call_rooms.turn_count old.calls + turns

abbrev pub UsesNothing : Tables → Tables → Type 0
UsesNothing old new = Uses old new 0 0 0

-- room for the work items of the calls that may close, and for so many more
abbrev pub CanFollow : Tables → ℕ → Type 0
CanFollow t works = call_rooms.frame_count t.calls + works ≤ call_rooms.work_room t.calls

-- room for a step: this among the objects, for so many work items, a thread, a frame, a one-way call, for a call that
-- ripens and for those that may close
pub record HasRoom (t : Tables) (room : Room) (works : ℕ) : Type 0 where
  pub in_objects : object_rooms.HasRoom t.objects room
  pub threads_fit : 1 ≤ call_rooms.thread_room t.calls
  pub frames_fit : 1 ≤ call_rooms.frame_room t.calls
  pub turns_fit : 1 ≤ call_rooms.turn_room t.calls
  pub can_follow : CanFollow t (works + 2)

-- ---- what a reserve does

-- the room that it makes: this among the objects, and what the calls' table reserves for so many work items
pub record IsReserved (t : Tables) (room : Room) (works : ℕ) : Type 0 where
  pub in_objects : object_rooms.HasRoom t.objects room
  pub in_calls : call_rooms.HasRoom t.calls works

-- what had room still has it
pub record KeepsRoom (old new : Tables) : Type 0 where
  pub in_processes : new.processes ≡ old.processes
  pub in_objects : object_rooms.UsesNothing old.objects new.objects
  pub in_calls : call_rooms.UsesNothing old.calls new.calls
  pub in_windows : new.windows ≡ old.windows
