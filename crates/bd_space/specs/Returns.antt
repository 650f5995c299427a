-- The returns that work items give, and their bytes.
use Rattle.std.specs.Prelude.{ℕ, ◌+◌, not, ◌&&◌, List, [], ◌∷◌, ◌++◌, length, map, Option, Some, None, find, option_map, option_and_then, unwrap_or, if◌then◌else◌, pos}
use Rattle.bd_space.specs.{Words.{concat, option_to_list, TransactionData, Return, return_bytes, Object, Reference, Buffer, Work, WorkKind, round_up, Space}, Seats.actor, References.{held_in, strong_in, object_in}, Frames.is_frame, Freeing.{pointer, is_made_at}, Deaths.is_notification}

abbrev pub buffer_in : List Buffer → ℕ → Option Buffer
buffer_in buffers made = find (is_made_at made) buffers

-- of a two-way call by a thread that lives the caller's pid, of any other 0
unfoldable pub sender_pid : Space → ℕ → ℕ
sender_pid s made =
    unwrap_or (option_map (λ a. a.process.pid) (option_and_then (actor s) (option_and_then (λ f. f.caller) (find (is_frame made) s.frames)))) 0

-- a call has its object's ptr and cookie; a reply, or a call whose object is gone, has 0 in their place
unfoldable pub data_of : Space → Buffer → TransactionData
data_of s b = let target = option_and_then (object_in s.objects) b.target in record {
  target = unwrap_or (option_map (λ o. o.ptr) target) 0;
  cookie = unwrap_or (option_map (λ o. o.cookie) target) 0;
  code = b.code;
  flags = b.flags;
  sender_pid = pos (sender_pid s b.made);
  sender_euid = b.euid;
  data_size = length b.bytes;
  offsets_size = length b.offsets;
  buffer = pointer b;
  offsets = pointer b + round_up (length b.bytes);
}

-- what an owner is told, by the references as they stand
abbrev pub notice_returns : List Reference → Object → List Return
notice_returns references x =
    (if held_in references x.id && not x.told_weak then (Return.Increfs x.ptr x.cookie ∷ []) else [])
    ++ (if strong_in references x.id && not x.told_strong then (Return.Acquire x.ptr x.cookie ∷ []) else [])
    ++ (if x.told_strong && not (strong_in references x.id) then (Return.Release x.ptr x.cookie ∷ []) else [])
    ++ (if x.told_weak && not (held_in references x.id) then (Return.Decrefs x.ptr x.cookie ∷ []) else [])

abbrev pub returns_of_object : List Reference → Option Object → List Return
returns_of_object references None = []
returns_of_object references (Some x) = notice_returns references x

unfoldable pub returns_of : Space → WorkKind → List Return
returns_of s (WorkKind.Notice o) = returns_of_object s.references (object_in s.objects o)
returns_of s (WorkKind.Complete spam) = (if spam then Return.OnewaySpamSuspect else Return.TransactionComplete) ∷ []
returns_of s (WorkKind.Refusal r) = r ∷ []
returns_of s (WorkKind.Call b) = option_to_list (option_map (λ x. Return.Transaction (data_of s x)) (buffer_in s.buffers b))
returns_of s (WorkKind.Reply b) = option_to_list (option_map (λ x. Return.Reply (data_of s x)) (buffer_in s.buffers b))
returns_of s (WorkKind.Verdict r) = r ∷ []
returns_of s (WorkKind.Death n) = option_to_list (option_map (λ x. Return.DeadBinder x.cookie) (find (is_notification n) s.deaths))
returns_of s (WorkKind.Cleared cookie) = Return.ClearDeathNotificationDone cookie ∷ []

abbrev pub bytes_read : Space → Work → List ℕ
bytes_read s w = concat (map return_bytes (returns_of s w.kind))

-- the bytes of a BR_NOOP, and then of the items
unfoldable pub stream_of : Space → List Work → List ℕ
stream_of s ws = return_bytes Return.Noop ++ concat (map (bytes_read s) ws)
