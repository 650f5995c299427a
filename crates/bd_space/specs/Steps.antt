-- Every step of a space.
use Rattle.std.specs.Prelude.{ℕ, suc, ◌%◌, ◌==◌, nat_le, Bool, true, false, not, ◌&&◌, ◌||◌, [], ◌∷◌, ◌++◌, Option, Some, None, is_some}
use Rattle.bd_space.specs.Words.{Note, Fault, Identity, Step, StepAnswer, Process, Manager, when, first_of, ok_or, Space, Actor, Command, Parcel, changed}
use Rattle.bd_space.specs.{Seats.{actor, thread_in, process_with_pid}, References.{reference_of, own_in}, Outcomes.{Outcome, refused, accepted, by_check}, Spam.spam_step, Transactions.transaction_step, Replies.reply_step}
use Rattle.bd_space.specs.{Freeing.free_step, Asking.{ask_check, ask, drop_check, drop_asked, done_check, acknowledge}, Deaths.{request_check, requested, clear_check, cleared, told_death, death_done}, ReadItems.read_step, ThreadExits.exit_thread_step, ProcessExits.exit_process_step}

-- ---- the step of a command

-- the thread of the seat is in the loop from now on, or out of it
unfoldable pub with_looping : Space → ℕ → Bool → Space
with_looping s seat looping = record s { threads = changed (λ t. t.seat == seat) (λ t. record t { looping = looping }) s.threads }

unfoldable pub command_step : Space → Actor → Command → Option Parcel → Outcome
command_step s a (Command.Transaction d) parcel = transaction_step s a d parcel
command_step s a (Command.Reply d) parcel = reply_step s a d parcel
command_step s a (Command.FreeBuffer ptr) parcel = free_step s a.process.made ptr
command_step s a (Command.Increfs n) parcel = by_check s (λ o. ask s a.process.made o false) (ask_check s a.process.made n false)
command_step s a (Command.Acquire n) parcel = by_check s (λ o. ask s a.process.made o true) (ask_check s a.process.made n true)
command_step s a (Command.Release n) parcel = by_check s (λ o. drop_asked s a.process.made o true) (drop_check s a.process.made n true)
command_step s a (Command.Decrefs n) parcel = by_check s (λ o. drop_asked s a.process.made o false) (drop_check s a.process.made n false)
command_step s a (Command.IncrefsDone ptr cookie) parcel =
    by_check s (λ x. acknowledge s x.id false) (done_check s a.process.made ptr cookie false)
command_step s a (Command.AcquireDone ptr cookie) parcel =
    by_check s (λ x. acknowledge s x.id true) (done_check s a.process.made ptr cookie true)
command_step s a Command.EnterLooper parcel = accepted (with_looping s a.thread.seat true)
command_step s a Command.ExitLooper parcel = accepted (with_looping s a.thread.seat false)
command_step s a (Command.RequestDeathNotification n cookie) parcel =
    by_check s (λ o. requested s a.process.made o cookie) (request_check s a.process.made n)
command_step s a (Command.ClearDeathNotification n cookie) parcel =
    by_check s (cleared s a.thread.seat) (clear_check s a.process.made n cookie)
command_step s a (Command.DeadBinderDone cookie) parcel =
    by_check s (death_done s a.thread.seat) (ok_or (told_death s a.process.made cookie) Note.NoneTold)

-- ---- opening, attaching, and becoming the manager

abbrev pub is_pid : ℕ → Bool
is_pid pid = nat_le 1 pid && nat_le pid 2147483647

abbrev pub is_window : ℕ → Bool
is_window n = (n % 4096 == 0) && nat_le 4096 n && nat_le n 4194304

abbrev pub open_fault : Space → ℕ → ℕ → ℕ → Option Fault
open_fault s seat pid window =
    first_of (
    when (not (is_pid pid)) Fault.PidRange
    ∷ when (not (is_window window)) Fault.WindowSize
    ∷ when (is_some (thread_in s.threads seat)) Fault.HasProcess
    ∷ when (is_some (process_with_pid s.processes pid)) Fault.PidTaken
    ∷ [])

unfoldable pub with_thread : Space → ℕ → ℕ → Space
with_thread s seat p = record s { threads = s.threads ++ record { made = s.steps; seat = seat; process = p; looping = false } ∷ [] }

unfoldable pub with_process : Space → ℕ → ℕ → ℕ → Space
with_process s pid euid window =
    record s { processes = s.processes ++ record { made = s.steps; pid = pid; euid = euid; window = window; spam_detection = false } ∷ [] }

abbrev pub open_outcome : Space → ℕ → ℕ → ℕ → ℕ → Option Fault → Outcome
open_outcome s seat pid euid window (Some x) = refused s x
open_outcome s seat pid euid window None = record { answer = StepAnswer.Opened; space = with_thread (with_process s pid euid window) seat s.steps }

unfoldable pub open_step : Space → ℕ → ℕ → ℕ → ℕ → Outcome
open_step s seat pid euid window = open_outcome s seat pid euid window (open_fault s seat pid window)

abbrev pub attach_outcome : Space → ℕ → Option Process → Bool → Outcome
attach_outcome s seat q true = refused s Fault.HasProcess
attach_outcome s seat None false = refused s Fault.NoSuchPid
attach_outcome s seat (Some q) false = record { answer = StepAnswer.Opened; space = with_thread s seat q.made }

unfoldable pub attach_step : Space → ℕ → ℕ → Outcome
attach_step s seat pid = attach_outcome s seat (process_with_pid s.processes pid) (is_some (thread_in s.threads seat))

-- there is one, or the process has an object with ptr 0
abbrev pub is_manager_busy : Space → ℕ → Bool
is_manager_busy s p = is_some s.manager || is_some (own_in s.objects p 0)

-- its object has ptr 0 and cookie 0, and is told
unfoldable pub with_manager : Space → ℕ → Space
with_manager s p =
    let o : Identity = record { place = s.steps; index = 0 } in
    record s {
      manager = Some o;
      objects = s.objects ++ record { id = o; owner = p; ptr = 0; cookie = 0; told_weak = true; told_strong = true } ∷ [];
      references = s.references ++ reference_of s.steps 0 o true Manager ∷ [];
    }

abbrev pub manager_outcome : Space → ℕ → Bool → Outcome
manager_outcome s p true = refused s Fault.ManagerBusy
manager_outcome s p false = record { answer = StepAnswer.Set; space = with_manager s p }

unfoldable pub manager_step : Space → Actor → Outcome
manager_step s a = manager_outcome s a.process.made (is_manager_busy s a.process.made)

-- ---- all steps

-- the step of a live thread; a seat without one is refused
abbrev pub by_actor : Space → Option Actor → (Actor → Outcome) → Outcome
by_actor s None f = refused s Fault.NoProcess
by_actor s (Some a) f = f a

unfoldable pub change : Space → ℕ → Step → Outcome
change s seat (Step.Open pid euid window) = open_step s seat pid euid window
change s seat (Step.Attach pid) = attach_step s seat pid
change s seat Step.SetManager = by_actor s (actor s seat) (manager_step s)
change s seat (Step.SetSpam on) = by_actor s (actor s seat) (spam_step s on)
change s seat (Step.Command c parcel) = by_actor s (actor s seat) (λ a. command_step s a c parcel)
change s seat (Step.Read limit) = by_actor s (actor s seat) (λ a. read_step s a limit)
change s seat Step.ExitThread = by_actor s (actor s seat) (exit_thread_step s)
change s seat Step.ExitProcess = by_actor s (actor s seat) (exit_process_step s)

unfoldable pub counted : Space → Space
counted s = record s { steps = suc s.steps }

-- the answer of a step, and the space after it
abbrev pub step : Space → ℕ → Step → Outcome
step s seat x = let o = change s seat x in record { answer = o.answer; space = counted o.space }
