-- What can wait for the reply to a call.
use Rattle.std.specs.Prelude.{ℕ, zero, suc, ◌+◌, ◌≡◌, ◌==◌, Bool, true, false, not, ◌&&◌, nat_le, List, [], ◌∷◌, length, drop, Option, Some, None, unwrap_or, if◌then◌else◌}
use Rattle.bd_uapi.specs.Bytes.{word_at}
use Rattle.bd_space.specs.declared.step.{StepAnswer.{StepAnswer}}
use Rattle.bd_space.specs.declared.step.StepAnswer.TheVariants.{Opened, Set, Exited, Accepted, Noted, Stopped, Got, Refused}
use Rattle.bd_space.specs.declared.space.{Work.{Work}, WorkKind.{WorkKind}}
use Rattle.bd_space.specs.declared.space.WorkKind.TheVariants.{Complete}
use Rattle.bd_space.specs.declared.space.TodoList.TheVariants.{OfThread}
use Rattle.bd_space.specs.Todo.{work_on}
use Rattle.bd_space.specs.Space.{Space}
use Rattle.bd_engine.specs.Looks.{innermost_of}

-- Returns of which a thread in a call of its own need not be told before the reply, by their codes: BR_NOOP, BR_TRANSACTION_COMPLETE, and what
-- an owner is told of the objects that it has sent along, BR_INCREFS and BR_ACQUIRE. How many bytes follow the code.
abbrev pub size_behind : ℕ → Option ℕ
size_behind code =
    if code == 0x720c then Some 0 else if code == 0x7206 then Some 0 else if code == 0x80107207 then Some 16 else if code == 0x80107208 then Some 16 else None

abbrev pub is_whole : Option ℕ → ℕ → Bool
is_whole None n = false
is_whole (Some k) n = nat_le (4 + k) n

-- the bytes are such returns, n at most
abbrev pub all_can_wait : ℕ → List ℕ → Bool
all_can_wait zero bytes = length bytes == 0
all_can_wait (suc n) bytes =
    if length bytes == 0 then true
    else is_whole (size_behind (word_at 0 bytes)) (length bytes) && all_can_wait n (drop (4 + unwrap_or (size_behind (word_at 0 bytes)) 0) bytes)

abbrev pub may_wait : StepAnswer → Bool
may_wait Opened = false
may_wait Set = false
may_wait Exited = false
may_wait Accepted = false
may_wait (Noted note) = false
may_wait (Stopped cause) = false
may_wait (Got stream bytes offsets) = all_can_wait (length stream) stream
may_wait (Refused fault) = false

-- the seat's thread is in a call, and in none that it serves inside of that
abbrev pub IsInCall : Space → ℕ → Type 0
IsInCall s seat = (made : ℕ) × (innermost_of s seat ≡ Some (made, false))

-- that a call or reply was taken, and nothing to report of it
abbrev pub is_completion : WorkKind → Bool
is_completion (Complete spam) = not spam
is_completion _ = false

abbrev pub is_completion_alone : List Work → Bool
is_completion_alone [] = false
is_completion_alone (w ∷ []) = is_completion w.kind
is_completion_alone (w ∷ _ ∷ _) = false

-- it is all that is on the thread's own list
abbrev pub HasCompletionAlone : Space → ℕ → Type 0
HasCompletionAlone s seat = is_completion_alone (work_on s.todo (Some (OfThread seat))) ≡ true
