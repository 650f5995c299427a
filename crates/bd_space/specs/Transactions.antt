-- The step of BC_TRANSACTION.
use Rattle.std.specs.Prelude.{ℕ, ◌%◌, ◌^◌, ◌==◌, Bool, true, false, ◌&&◌, [], ◌∷◌, ◌++◌, Option, Some, None, Result, Ok, Err, is_some, is_none, option_map, option_and_then, if◌then◌else◌}
use Rattle.bd_space.specs.Words.{TransactionData, Return, Cause, Identity, Parcel, Process, Callee, Pending, OfThread, WorkKind, when, first_of, ok_or, unless, and_then, Space, Actor}
use Rattle.bd_space.specs.{Seats.process_in, References.{object_in, owned_in}, Names.strongly_named, Frames.{innermost, served_innermost, goes_to, made_of}, Todo.{owe, has_unread}, Parcels.sending_of, Delivery.{Delivery, delivered, placed_for}, Spam.is_spam, Outcomes.{Outcome, accepted, stopped}}

abbrev pub is_one_way : TransactionData → Bool
is_one_way d = d.flags.0 % 2 == 1

-- the handle is the low half of the target
abbrev pub handle_of : TransactionData → ℕ
handle_of d = d.target % 2 ^ 32

-- ---- whom it goes to

-- the object, unless the process owns it
abbrev pub not_own : Space → ℕ → Identity → Result Identity Cause
not_own s p o = unless (when (owned_in s.objects p o) Cause.OwnManager) o

-- 0 is the context manager's object, which its own process may not call; any other handle has to be strongly named
unfoldable pub target_of : Space → ℕ → ℕ → Result Identity Cause
target_of s p handle =
    if handle == 0 then and_then (ok_or s.manager Cause.NoManager) (not_own s p) else ok_or (strongly_named s p handle) Cause.NotStronglyNamed

unfoldable pub owner_of : Space → Identity → Option Process
owner_of s o = option_and_then (λ x. process_in s.processes x.owner) (object_in s.objects o)

unfoldable pub callee_of : Space → ℕ → ℕ → Result Callee Cause
callee_of s p handle =
    and_then (target_of s p handle) (λ o. ok_or (option_map (λ q. record { object = o; process = q }) (owner_of s o)) Cause.DeadOwner)

-- ---- what is tested

-- what keeps the caller from calling and waiting
unfoldable pub caller_cause : Space → ℕ → Option Cause
caller_cause s seat =
    first_of (
    when (is_some (innermost s seat) && is_none (served_innermost s seat)) Cause.NotServing
    ∷ when (has_unread s seat) Cause.Unread
    ∷ [])

-- the whole test: what is to be delivered, or the first cause against it
unfoldable pub transaction_check : Space → Actor → TransactionData → Option Parcel → Result Delivery Cause
transaction_check s a d parcel =
    and_then (callee_of s a.process.made (handle_of d))
    (λ c. and_then (unless (if is_one_way d then None else caller_cause s a.thread.seat) c)
    (λ c. and_then (sending_of s a.process.made d parcel) (placed_for s d c.process (Some c.object) (is_one_way d))))

-- ---- what changes

-- a two-way call makes a frame and is due at once
unfoldable pub call_out : Space → ℕ → ℕ → Space
call_out s seat p =
    record (owe s (goes_to s seat p) (WorkKind.Call s.steps)) {
      frames = s.frames ++ record { made = s.steps; caller = Some seat; server = Pending; parent = option_map made_of (innermost s seat) } ∷ [];
    }

-- a one-way call is due once it is ripe
abbrev pub called : Space → ℕ → ℕ → Bool → Space
called s seat p true = s
called s seat p false = call_out s seat p

unfoldable pub transacted : Space → Actor → TransactionData → Delivery → Space
transacted s a d v =
    let z = delivered s a d v in
    called (owe z (OfThread a.thread.seat) (WorkKind.Complete (is_spam z a v))) a.thread.seat v.receiver.made v.one_way

-- ---- what it answers

-- what is left for the writer of a refused transaction
abbrev pub refusal : Cause → Return
refusal Cause.NoManager = Return.DeadReply
refusal Cause.DeadOwner = Return.DeadReply
refusal _ = Return.FailedReply

abbrev pub transaction_outcome : Space → Actor → TransactionData → Result Delivery Cause → Outcome
transaction_outcome s a d (Err x) = stopped x (owe s (OfThread a.thread.seat) (WorkKind.Refusal (refusal x)))
transaction_outcome s a d (Ok v) = accepted (transacted s a d v)

unfoldable pub transaction_step : Space → Actor → TransactionData → Option Parcel → Outcome
transaction_step s a d parcel = transaction_outcome s a d (transaction_check s a d parcel)
