-- The law NoStepIsNeeded: a note and a fault come of a space that is left as it is.
use Rattle.bd_laws.proofs.words.Logic.{arith, ◌≡◌, ℕ, Bool, true, false, cond, Option, Some, None, Result, Ok, Err, refl, ap}
use Rattle.bd_laws.proofs.words.Types.{Actor, Step, Open, Attach, SetManager, SetSpam, Command, Read, ExitThread, ExitProcess, Buffer, Frame, Note, Cause, Process, Parcel, TransactionData}
use Rattle.bd_laws.proofs.words.Space.{Space, Outcome, actor, by_actor, by_check, change, counted, step, open_step, open_outcome, attach_step, attach_outcome, manager_step, manager_outcome, spam_step, read_step, exit_thread_step, exit_process_step, read_taking, command_step, free_step, free_outcome, reply_step, reply_to, reply_outcome, transaction_step, transaction_outcome, Delivery}
use Rattle.bd_laws.proofs.words.Types.{Accepted, Noted, NotHandedOut}
use Rattle.bd_laws.proofs.words.Space.{completed, without_buffer}
use Rattle.bd_laws.specs.Idle.{is_note_or_fault}
use Rattle.bd_laws.specs.Laws.{NoStepIsNeeded}

abbrev LeftIfNoted : Space → Outcome → Type 0
LeftIfNoted s o = is_note_or_fault o.answer ≡ true → o.space ≡ s

by : (s : Space) (o : Option Actor) (f : Actor → Outcome) → ((a : Actor) → LeftIfNoted s (f a)) → LeftIfNoted s (by_actor s o f)
by s o f k = search arith

checked : {A : Type 0} (s : Space) (f : A → Space) (r : Result A Note) → LeftIfNoted s (by_check s f r)
checked s f r = search arith

transacts : (s : Space) (a : Actor) (d : TransactionData) (r : Result Delivery Cause) → LeftIfNoted s (transaction_outcome s a d r)
transacts s a d r = search arith

answers : (s : Space) (a : Actor) (d : TransactionData) (f : Frame) (r : Result Delivery Cause) → LeftIfNoted s (reply_outcome s a d f r)
answers s a d f r = search arith

replies : (s : Space) (a : Actor) (d : TransactionData) (parcel : Option Parcel) (o : Option Frame) → LeftIfNoted s (reply_to s a d parcel o)
replies s a d parcel o = search (arith, answers)

frees : (s : Space) (o : Option Buffer) → LeftIfNoted s (free_outcome s o)
frees s None e = refl
frees s (Some b) e = at b.handed e
  where
    at : (h : Bool) → LeftIfNoted s (cond {A = Outcome} h (record { answer = Accepted; space = completed (without_buffer s b.made) }) (record { answer = Noted NotHandedOut; space = s }))
    at h = search arith

changes : (s : Space) (seat : ℕ) (x : Step) → LeftIfNoted s (change s seat x)
unfolding change open_step attach_step manager_step spam_step read_step exit_thread_step exit_process_step read_taking command_step free_step reply_step transaction_step
changes s seat (Open pid euid window) = search arith
changes s seat (Attach pid) = search arith
changes s seat SetManager = by s (actor s seat) _ (λ a. search arith)
changes s seat (SetSpam on) = by s (actor s seat) _ (λ a. search arith)
changes s seat (Command c parcel) = by s (actor s seat) _ (λ a. search (arith, checked, transacts, replies, frees))
changes s seat (Read limit) = by s (actor s seat) _ (λ a. search arith)
changes s seat ExitThread = by s (actor s seat) _ (λ a. search arith)
changes s seat ExitProcess = by s (actor s seat) _ (λ a. search arith)

pub no_step_needed : NoStepIsNeeded
no_step_needed s seat x e = ap counted (changes s seat x e)
