-- The step of BC_REPLY.
use Rattle.std.specs.Prelude.{ℕ, false, Option, Some, None, Result, Ok, Err, option_and_then}
use Rattle.bd_space.specs.{Words.{TransactionData, Return, Cause, Parcel, Frame, OfThread, WorkKind, ok_or, and_then, Space, Actor}, Seats.actor, Frames.{served_innermost, closed}, Todo.{owe, tell_caller}, Parcels.sending_of, Delivery.{Delivery, delivered, placed_for}, Outcomes.{Outcome, accepted, stopped}}

-- the live thread that made the call, and its process
unfoldable pub caller_of : Space → Frame → Option Actor
caller_of s f = option_and_then (actor s) f.caller

-- what is to be delivered to the caller of the frame, or the first cause against it
unfoldable pub reply_check : Space → Actor → TransactionData → Option Parcel → Frame → Result Delivery Cause
reply_check s a d parcel f =
    and_then (ok_or (caller_of s f) Cause.CallerGone)
    (λ c. and_then (sending_of s a.process.made d parcel) (placed_for s d c.process None false))

-- the frame closes, who replied has a completion to read, and a caller that lives the reply
unfoldable pub replied : Space → Actor → TransactionData → Frame → Delivery → Space
replied s a d f v =
    tell_caller (owe (delivered (closed s f.made) a d v) (OfThread a.thread.seat) (WorkKind.Complete false)) f (WorkKind.Reply s.steps)

-- a refused reply closes the frame too: who replied has a completion to read, and a caller that lives a failed reply
unfoldable pub reply_refused : Space → ℕ → Frame → Space
reply_refused s seat f = tell_caller (closed (owe s (OfThread seat) (WorkKind.Refusal Return.TransactionComplete)) f.made) f (WorkKind.Verdict Return.FailedReply)

abbrev pub reply_outcome : Space → Actor → TransactionData → Frame → Result Delivery Cause → Outcome
reply_outcome s a d f (Err x) = stopped x (reply_refused s a.thread.seat f)
reply_outcome s a d f (Ok v) = accepted (replied s a d f v)

-- what is answered is the innermost call that the thread serves
abbrev pub reply_to : Space → Actor → TransactionData → Option Parcel → Option Frame → Outcome
reply_to s a d parcel None = stopped Cause.NoCall (owe s (OfThread a.thread.seat) (WorkKind.Refusal Return.FailedReply))
reply_to s a d parcel (Some f) = reply_outcome s a d f (reply_check s a d parcel f)

unfoldable pub reply_step : Space → Actor → TransactionData → Option Parcel → Outcome
reply_step s a d parcel = reply_to s a d parcel (served_innermost s a.thread.seat)
