-- The call that a reading answers, said of the three steps alone: the call, the reply, the reading.
use Rattle.std.specs.Prelude.{ℕ, ◌≡◌, ◌==◌, Bool, true, Option, Some}
use Rattle.bd_ways.specs.Words.{list_any, is_some_and, TransactionData, Parcel, Entry, Work, Space}
use Rattle.bd_uapi.specs.declared.command.Command.TheVariants.{Reply}
use Rattle.bd_space.specs.declared.step.Step.TheVariants.{Command}
use Rattle.bd_space.specs.declared.step.StepAnswer.TheVariants.{Accepted}
use Rattle.bd_space.specs.Steps.{step}
use Rattle.bd_space.specs.Histories.{History}
use Rattle.bd_todo.specs.TodoList.{reply_of}
use Rattle.bd_audit.specs.Replies.{thread_made, items_taken, Calls, At}
use Rattle.bd_audit.specs.Latest.{Closes}

-- an accepted BC_REPLY, which closes the frame made at c
pub record ClosesByReply (s : Space) (e : Entry) (c : ℕ) : Type 0 where
  pub fields : TransactionData
  pub parcel : Option Parcel
  pub command : e.step ≡ Command (Reply fields) parcel
  pub accepted : (step s e.seat e.step).answer ≡ Accepted
  pub closes : Closes s e c

-- the Reply that the step at w made
abbrev pub is_reply_of : ℕ → Work → Bool
is_reply_of w x = is_some_and (reply_of x.kind) (λ b. b == w)

-- The step is a reading of the thread made at m, which takes the Reply that the step at w made.
pub record TakesReply (s : Space) (e : Entry) (w m : ℕ) : Type 0 where
  pub by : thread_made s e.seat ≡ Some m
  pub taken : list_any (is_reply_of w) (items_taken s e.seat e.step) ≡ true

-- the reading at s answers the call made at c: its thread made that call, and what it takes is the Reply of the BC_REPLY that
-- closed the call's frame
pub record IsCallOf (h : History) (s c : ℕ) : Type 0 where
  pub caller : ℕ
  pub reply : ℕ
  pub called : At h.entries c (λ z e. Calls z e caller)
  pub replied : At h.entries reply (λ z e. ClosesByReply z e c)
  pub read : At h.entries s (λ z e. TakesReply z e reply caller)

-- The reading at s answers the call that was found, and no other; where none was found it answers none.
pub record IsAnswerOf (h : History) (s : ℕ) (found : Option ℕ) : Type 0 where
  pub is : (c : ℕ) → found ≡ Some c → IsCallOf h s c
  pub only : (c : ℕ) → IsCallOf h s c → found ≡ Some c
