-- The run of a request that is one step, or of a write: how far it has come, and how it goes on.
use Rattle.std.specs.Prelude.{ℕ, Bool, true, false, ◌+◌, ◌≡◌, ◌≤◌, ◌<◌, ◌==◌, List, [], ◌∷◌, ◌++◌, length, drop, Option, Some, None, Result, Ok, Err, if◌then◌else◌}
use Rattle.bd_ways.specs.Words.{Command, Note, Fault, Step, StepAnswer, Entry, Answer, Request, Space}
use Rattle.bd_uapi.specs.declared.fault.Fault.TheVariants as fault
use Rattle.bd_codec.specs.{Reading.{command_at}, Spelling.{command_bytes, IsCommand}}
use Rattle.bd_space.specs.declared.step.StepAnswer.TheVariants as gave
use Rattle.bd_space.specs.declared.step.Stop.TheVariants as stop
use Rattle.bd_space.specs.declared.step.Answer.TheVariants.{Wrote, Refused}
use Rattle.bd_space.specs.declared.step.Request.TheVariants.{Write}
use Rattle.bd_space.specs.Histories.{History, space_after, HasPlace}
use Rattle.bd_space.specs.Writes.{readable, commands_of, Written, written, wrote}
use Rattle.bd_space.specs.Runs.{run, single, first_step, AllBy, HasRun, HasEntry, IsAtLimit}
use Rattle.bd_step.specs.declared.step_error.StepError.{StepError}
use Rattle.bd_step.specs.declared.step_error.StepError.TheVariants.{NoMemory, HistoryFull}
use Rattle.bd_engine.specs.Refusals.{FullOnly, MemoryOnly}
use Rattle.bd_engine.specs.declared.write.Progress.{Progress}
use Rattle.bd_engine.specs.declared.write.Going.{Going}
use Rattle.bd_engine.specs.declared.write.Going.TheVariants as going

-- ---- what a request is run by

abbrev pub IsWrite : Request → Type 0
IsWrite (Write stream area) = Unit {0}
IsWrite _ = ⊥

pub record IsOneStep (request : Request) (x : Step) : Type 0 where
  pub runs : (s : Space) (seat : ℕ) → run s seat request ≡ single s seat x
  pub first : first_step request ≡ Some x

-- ---- how a write goes on

-- the answer to a write that ended so
abbrev pub ended : Progress → Going → Answer
ended p going.On = Wrote p.consumed p.notes.items None
ended p (going.Stops y) = Wrote p.consumed p.notes.items (Some y)
ended p (going.Refused x) = Refused x

-- How a write goes on: from here, or not at all, with this answer.
pub data Course : Type 0 where
  GoesOn : Progress → Course
  Ends : Answer → Course

abbrev pub course_of : Progress → Going → Course
course_of p going.On = GoesOn p
course_of p (going.Stops y) = Ends (ended p (going.Stops y))
course_of p (going.Refused x) = Ends (ended p (going.Refused x))

abbrev pub course_or : Progress → Result Going StepError → Result Course StepError
course_or p (Ok g) = Ok (course_of p g)
course_or p (Err why) = Err why

-- ---- what is answered

-- the answer is to a write, and has no notes
abbrev pub is_unnoted : Answer → Bool
is_unnoted (Wrote consumed [] stop) = true
is_unnoted _ = false

pub record IsSame (old new : Progress) : Type 0 where
  pub consumed : new.consumed ≡ old.consumed
  pub count : new.count ≡ old.count
  pub notes : new.notes.items ≡ old.notes.items

pub record IsAt (p : Progress) (consumed count : ℕ) (notes : List (ℕ × Note)) : Type 0 where
  pub consumed_is : p.consumed ≡ consumed
  pub count_is : p.count ≡ count
  pub notes_are : p.notes.items ≡ notes

abbrev pub stopped : Progress → ℕ → Fault → Answer
stopped p size x = Wrote (p.consumed + size) p.notes.items (Some (stop.Fault x))

-- The answer to a write whose step at hand was refused: it is refused as a whole if that was its first, and else stops there.
abbrev pub refused : Progress → ℕ → Fault → Answer
refused p size x = if p.count == 0 then Refused x else stopped p size x

abbrev pub GoesTo : Course → ℕ → ℕ → List (ℕ × Note) → Type 0
GoesTo (GoesOn p) consumed count notes = IsAt p consumed count notes
GoesTo (Ends a) consumed count notes = ⊥

-- How a write goes on after a command of this size, which was answered so.
abbrev pub IsAfter : Progress → StepAnswer → ℕ → Course → Type 0
IsAfter p (gave.Stopped x) size r = r ≡ Ends (Wrote (p.consumed + size) p.notes.items (Some (stop.Cause x)))
IsAfter p (gave.Refused x) size r = r ≡ Ends (refused p size x)
IsAfter p (gave.Noted n) size r = GoesTo r (p.consumed + size) (p.count + 1) (p.notes.items ++ (p.count, n) ∷ [])
IsAfter p _ size r = GoesTo r (p.consumed + size) (p.count + 1) p.notes.items

abbrev pub fault_of : StepError → Fault
fault_of NoMemory = fault.NoMemory
fault_of HistoryFull = fault.HistoryFull

-- How a write goes on whose step wasn't taken, for this reason.
abbrev pub IsCutAt : Progress → StepError → Result Course StepError → Type 0
IsCutAt p why r = r ≡ (if p.count == 0 then Err why else Ok (Ends (stopped p 0 (fault_of why))))

-- a write was refused before its first step: only one that has an entry is, and want of memory isn't said of a full history
pub record IsTurnedAway (h : History) (seat : ℕ) (request : Request) (why : StepError) : Type 0 where
  pub full : FullOnly why (IsAtLimit h seat request)
  pub memory : MemoryOnly why (HasPlace h)
  pub some : HasEntry h seat request

-- ---- what was done

-- What was written, with what was written before it.
abbrev pub joined : List Entry → ℕ → List (ℕ × Note) → Written → Written
joined run consumed notes w = record { entries = run ++ w.entries; consumed = consumed + w.consumed; notes = notes ++ w.notes; stop = w.stop }

-- The first of these entries, if there is one, wasn't refused.
abbrev pub IsUnrefused : List Entry → Type 0
IsUnrefused [] = Unit {0}
IsUnrefused (e ∷ es) = (w : Written) → wrote w (e ∷ []) ≡ Wrote w.consumed w.notes w.stop

-- the first commands of the stream were run, and whatever follows them goes on from here
pub record IsProgress (old now : History) (seat : ℕ) (stream area : List ℕ) (consumed count : ℕ) (notes : List (ℕ × Note)) : Type 0 where
  -- the entries so far, the commands that they are of, and how many more may be looked for
  pub run : List Entry
  pub done : List (Command × ℕ)
  pub fuel : ℕ
  -- the history is longer by the entries
  pub seats : now.seats ≡ old.seats
  pub grown : now.entries ≡ old.entries ++ run
  pub by_seat : AllBy seat run
  pub unrefused : IsUnrefused run
  pub entries_counted : length run ≡ count
  pub commands_counted : length done ≡ count
  -- what the whole write has done is what was done so far, joined with what the rest does
  pub goes_on : (cs : List (Command × ℕ)) (fault : Option Fault) → written (space_after old) seat area 0 (done ++ cs) fault
      ≡ joined run consumed notes (written (space_after now) seat area count cs fault)
  -- the stream's commands are those, and then those that the rest of it begins with
  pub commands : (commands_of stream).commands ≡ done ++ (readable fuel (drop consumed stream)).commands
  pub fault : (commands_of stream).fault ≡ (readable fuel (drop consumed stream)).fault
  pub enough : length stream ≤ consumed + fuel
  pub within : consumed ≤ length stream
  pub few : count ≤ consumed
  pub short : length stream ≤ 4096

abbrev pub HasCome : History → History → ℕ → List ℕ → List ℕ → Progress → Type 0
HasCome old now seat stream area p = IsProgress old now seat stream area p.consumed p.count p.notes.items

-- the command at a place of a stream
pub record IsNext (stream : List ℕ) (at : ℕ) (c : Command) (size : ℕ) : Type 0 where
  pub read : command_at (drop at stream) ≡ Ok (c, size)
  pub some : 0 < size
  pub fits : at + size ≤ length stream

-- the bytes spell the command, each number of which has its width
abbrev pub IsSpelled : Command → List ℕ → Type 0
IsSpelled c bytes = (bytes ≡ command_bytes c) × IsCommand c

-- the write goes on from a place, or has ended
abbrev pub IsCourse : History → History → ℕ → List ℕ → List ℕ → ℕ → Course → Type 0
IsCourse old new seat stream area at (GoesOn p) = HasCome old new seat stream area p × (p.consumed ≡ at)
IsCourse old new seat stream area at (Ends a) = HasRun old new seat (Write stream area) a (length old.entries) (length new.entries)
