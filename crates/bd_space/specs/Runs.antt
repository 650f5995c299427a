-- The run of a request: the entries that it makes, and its answer.
use Rattle.std.specs.Prelude.{ℕ, ◌≡◌, ◌≢◌, ◌⊎◌, true, List, [], ◌∷◌, ◌++◌, length, Option, Some, zero, suc, ◌<◌, take, None}
use Rattle.bd_space.specs.{Words.{Step, StepAnswer, Entry, Request, Answer, Space, Command, Fault}, Steps.step, Histories.{History, space_after, is_at_limit, history_of, HasPlace}, Writes.{commands_of, step_of_command, Run, write, written, run_of_written}}

-- ---- a write that want of memory or the full history stops after the first n of its commands

-- the run of the first n of its commands, with this fault as the stop
unfoldable pub write_first : Space → ℕ → List ℕ → List ℕ → ℕ → Fault → Run
write_first s seat stream area n fault = run_of_written (written s seat area 0 (take n (commands_of stream).commands) (Some fault))

-- the step of the command after the first n
abbrev pub step_after : List ℕ → ℕ → List (Command × ℕ) → Option Step
step_after area n [] = None
step_after area zero (c ∷ cs) = Some (step_of_command area c.0)
step_after area (suc n) (c ∷ cs) = step_after area n cs

-- memory may stop it where the history has a place left, the history only where it has reached its limits
abbrev pub MayStop : Fault → History → ℕ → Option Step → Type 0
MayStop Fault.NoMemory h seat x = HasPlace h
MayStop Fault.HistoryFull h seat x = is_at_limit h seat x ≡ true
MayStop _ h seat x = ⊥

pub record IsCutShort (h : History) (seat : ℕ) (stream area : List ℕ) (es : List Entry) (answer : Answer) : Type 0 where
  pub count : ℕ
  pub fault : Fault
  pub some : 0 < count
  pub fewer : count < length (write (space_after h) seat stream area).entries
  pub entries : es ≡ (write_first (space_after h) seat stream area count fault).entries
  pub answered : answer ≡ (write_first (space_after h) seat stream area count fault).answer
  pub why : MayStop fault (history_of h.seats (h.entries ++ es)) seat (step_after area count (commands_of stream).commands)

-- ---- the run of any request

-- the answer of a request that isn't a write
abbrev pub answered : StepAnswer → Answer
answered StepAnswer.Opened = Answer.Opened
answered StepAnswer.Exited = Answer.Exited
answered (StepAnswer.Got a b c) = Answer.Got a b c
answered (StepAnswer.Refused x) = Answer.Refused x
answered _ = Answer.Set

abbrev pub single : Space → ℕ → Step → Run
single s seat x =
    let answer = (step s seat x).answer in record { entries = record { seat = seat; step = x; answer = answer } ∷ []; answer = answered answer }

unfoldable pub run : Space → ℕ → Request → Run
run s seat (Request.Open pid euid window) = single s seat (Step.Open pid euid window)
run s seat (Request.Attach pid) = single s seat (Step.Attach pid)
run s seat Request.SetManager = single s seat Step.SetManager
run s seat (Request.SetSpam on) = single s seat (Step.SetSpam on)
run s seat (Request.Write stream area) = write s seat stream area
run s seat (Request.Read limit) = single s seat (Step.Read limit)
run s seat Request.ExitThread = single s seat Step.ExitThread
run s seat Request.ExitProcess = single s seat Step.ExitProcess

-- the step that a request begins with
abbrev pub first_step : Request → Option Step
first_step (Request.Open pid euid window) = Some (Step.Open pid euid window)
first_step (Request.Attach pid) = Some (Step.Attach pid)
first_step Request.SetManager = Some Step.SetManager
first_step (Request.SetSpam on) = Some (Step.SetSpam on)
first_step (Request.Write stream area) = step_after area 0 (commands_of stream).commands
first_step (Request.Read limit) = Some (Step.Read limit)
first_step Request.ExitThread = Some Step.ExitThread
first_step Request.ExitProcess = Some Step.ExitProcess

-- ---- what a driver knows of a run

abbrev pub IsCut : History → ℕ → Request → List Entry → Answer → Type 0
IsCut h seat (Request.Write stream area) es answer = IsCutShort h seat stream area es answer
IsCut h seat _ es answer = ⊥

pub record IsWhole (run : Run) (es : List Entry) (answer : Answer) : Type 0 where
  pub all : es ≡ run.entries
  pub said : answer ≡ run.answer

-- these entries and this answer are a run of the request by this seat after this history
unfoldable pub IsRun : History → ℕ → Request → List Entry → Answer → Type 0
IsRun h seat request es answer = IsWhole (run (space_after h) seat request) es answer ⊎ IsCut h seat request es answer

-- every entry is this seat's
abbrev pub AllBy : ℕ → List Entry → Type 0
AllBy seat [] = Unit {0}
AllBy seat (e ∷ es) = (e.seat ≡ seat) × AllBy seat es

-- one run was made, which stands from one place up to another
pub record HasRun (old new : History) (seat : ℕ) (request : Request) (answer : Answer) (from to : ℕ) : Type 0 where
  pub seats : new.seats ≡ old.seats
  pub run : List Entry
  pub grown : new.entries ≡ old.entries ++ run
  pub by_seat : AllBy seat run
  pub is_run : IsRun old seat request run answer
  pub starts : from ≡ length old.entries
  pub ends : to ≡ length new.entries

-- the request's run after this history has an entry
abbrev pub HasEntry : History → ℕ → Request → Type 0
HasEntry h seat request = (run (space_after h) seat request).entries ≢ []

-- the history is full, or the request's first step would need a number past the limit
abbrev pub IsAtLimit : History → ℕ → Request → Type 0
IsAtLimit h seat request = is_at_limit h seat (first_step request) ≡ true
