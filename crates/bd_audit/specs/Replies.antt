-- Replies, and the calls that they answer.
use Rattle.std.specs.Prelude.{ℕ, ◌-◌, ◌≡◌, ◌<◌, true, false, List, [], Option, Some, None, option_map, option_and_then}
use Rattle.bd_ways.specs.Words.{list_any, TransactionData, Fault, Step, Parcel, Entry, Work, Actor, Thread, Space}
use Rattle.std.specs.List.{slice_get}
use Rattle.bd_uapi.specs.declared.command.Command.TheVariants.{Transaction, Reply}
use Rattle.bd_space.specs.declared.step.Step.TheVariants.{Command, Read}
use Rattle.bd_space.specs.declared.step.StepAnswer.TheVariants.{Accepted}
use Rattle.bd_space.specs.Space.{opening}
use Rattle.bd_space.specs.Seats.{actor, thread_in}
use Rattle.bd_space.specs.Frames.{innermost, made_of, is_frame}
use Rattle.bd_space.specs.Todo.{list_to_read, is_call}
use Rattle.bd_space.specs.Transactions.{is_one_way}
use Rattle.bd_space.specs.Steps.{step}
use Rattle.bd_space.specs.ReadItems.{taken, read_fault}
use Rattle.bd_space.specs.Histories.{History, IsHistory, after, next}
use Rattle.bd_todo.specs.TodoList.{first_reply_in}
use Rattle.bd_audit.specs.Gifts.{Stands}
use Rattle.bd_audit.specs.Laws.{space_at}

-- ---- what a step reads

-- The items that a reading takes, unless it is refused: then it takes none.
abbrev pub items_unless : Option Fault → List Work → List Work
items_unless (Some x) ws = []
items_unless None ws = ws

abbrev pub items_read : Space → ℕ → Option Actor → List Work
items_read s limit None = []
items_read s limit (Some a) = items_unless (read_fault limit (list_to_read s a.thread)) (taken s (limit - 4) (list_to_read s a.thread))

-- the work items that a step takes: none, unless it is a reading
abbrev pub items_taken : Space → ℕ → Step → List Work
items_taken s seat (Read limit) = items_read s limit (actor s seat)
items_taken s seat _ = []

-- ---- the call that a reading answers

-- the reply whose item the step takes
unfoldable pub reply_taken : Space → Entry → Option ℕ
reply_taken s e = first_reply_in (items_taken s e.seat e.step)

-- the reply whose item the reading at this place took
unfoldable pub reply_taken_at : History → ℕ → Option ℕ
reply_taken_at h place = option_and_then (reply_taken (space_at h place)) (slice_get h.entries place)

-- where the innermost frame of the thread that steps was made
unfoldable pub frame_of : Space → Entry → Option ℕ
frame_of s e = option_map made_of (innermost s e.seat)

-- the call that a reply answers: its frame was the innermost one of the thread that replies
unfoldable pub call_closed_at : History → ℕ → Option ℕ
call_closed_at h place = option_and_then (frame_of (space_at h place)) (slice_get h.entries place)

-- the call that is answered by the reading at this place
unfoldable pub call_answered : History → ℕ → Option ℕ
call_answered h place = option_and_then (call_closed_at h) (reply_taken_at h place)

-- ---- threads by their identity: a seat may exit and attach again

-- where the live thread of the seat was made
abbrev pub made_in : List Thread → ℕ → Option ℕ
made_in threads seat = option_map (λ t. t.made) (thread_in threads seat)

abbrev pub thread_made : Space → ℕ → Option ℕ
thread_made s seat = made_in s.threads seat

-- ---- the law: replies reach their callers

-- the step is one of the thread made at m: an accepted two-way transaction
pub record Calls (s : Space) (e : Entry) (m : ℕ) : Type 0 where
  pub by : thread_made s e.seat ≡ Some m
  pub fields : TransactionData
  pub parcel : Option Parcel
  pub command : e.step ≡ Command (Transaction fields) parcel
  pub two_way : is_one_way fields ≡ false
  pub accepted : (step s e.seat e.step).answer ≡ Accepted

-- a reading to which the call made at c is handed out
abbrev pub HandsOutCall : ℕ → Space → Entry → Type 0
HandsOutCall c s e = list_any (λ w. is_call c w.kind) (items_taken s e.seat e.step) ≡ true

-- The step is a reading of the thread made at m, to which the call made at c is handed out.
pub record TakesCall (s : Space) (e : Entry) (c m : ℕ) : Type 0 where
  pub by : thread_made s e.seat ≡ Some m
  pub taken : HandsOutCall c s e

-- an accepted reply of the thread made at m, which closes the frame made at c, its innermost one
pub record AnswersCall (s : Space) (e : Entry) (c m : ℕ) : Type 0 where
  pub by : thread_made s e.seat ≡ Some m
  pub fields : TransactionData
  pub parcel : Option Parcel
  pub command : e.step ≡ Command (Reply fields) parcel
  pub accepted : (step s e.seat e.step).answer ≡ Accepted
  pub innermost : frame_of s e ≡ Some c
  pub closes : list_any (is_frame c) (next s e).frames ≡ false

-- Of the entry at this place, and of the space that those before it lead to, P holds.
abbrev pub At : List Entry → ℕ → (Space → Entry → Type 0) → Type 0
At es place P = (before : List Entry) × (e : Entry) × Stands es place before e × P (after opening before) e

-- the reading at s takes the reply made at w: that answers one call, of the thread that reads at s, which was handed out
-- once, to the thread that replies at w; and no other reading answers it
pub record Answered (h : History) (s w : ℕ) : Type 0 where
  pub call : ℕ
  pub handed : ℕ
  pub caller : ℕ
  pub server : ℕ
  pub answers : call_answered h s ≡ Some call
  pub called : At h.entries call (λ z e. Calls z e caller)
  pub taken : At h.entries handed (λ z e. TakesCall z e call server)
  pub once : (p : ℕ) → At h.entries p (HandsOutCall call) → p ≡ handed
  pub replied : At h.entries w (λ z e. AnswersCall z e call server)
  pub read : At h.entries s (λ z e. thread_made z e.seat ≡ Some caller)
  pub call_first : call < handed
  pub handed_next : handed < w
  pub reply_next : w < s
  pub alone : (r : ℕ) → call_answered h r ≡ Some call → r ≡ s

abbrev pub RepliesReachTheirCallers : Type 0
RepliesReachTheirCallers = (h : History) → IsHistory h → (s w : ℕ) → reply_taken_at h s ≡ Some w → Answered h s w
