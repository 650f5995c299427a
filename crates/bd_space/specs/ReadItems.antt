-- A read: the items that it takes, what reading them changes, and its step.
use Rattle.std.specs.Prelude.{ℕ, ◌+◌, ◌-◌, ◌==◌, nat_lt, Bool, true, false, List, [], ◌∷◌, ◌++◌, length, map, Option, Some, None, option_and_then, if◌then◌else◌}
use Rattle.bd_space.specs.Words.{list_any, flat_map, Return, Identity, Object, Reference, Frame, Buffer, Work, DeathNotification, Handshake, Serving, WorkKind, Told, first_of, is_some_and, same, changed, Space, Fault, StepAnswer, when, Actor}
use Rattle.bd_space.specs.{References.{reference_of, held_in, strong_in}, Todo.{notice_of, death_of, hands_out, is_call, without_taken, list_to_read}, Notices.follow, Outcomes.{Outcome, refused}, Freeing.is_made_at, Returns.{buffer_in, returns_of, bytes_read, stream_of}}

-- nothing is read after a BR_TRANSACTION, BR_REPLY or BR_DEAD_BINDER
abbrev pub ends_read : WorkKind → Bool
ends_read (WorkKind.Call b) = true
ends_read (WorkKind.Reply b) = true
ends_read (WorkKind.Death n) = true
ends_read _ = false

-- item after item is taken while 68 bytes or more are left, up to one that ends the read
abbrev pub taken : Space → ℕ → List Work → List Work
taken s left [] = []
taken s left (w ∷ ws) =
    if nat_lt left 68 then [] else
    (w ∷ (if ends_read w.kind then [] else taken s (left - length (bytes_read s w)) ws))

-- ---- what changes

-- the buffer that the first of these items that hands one over speaks of, if it lives
unfoldable pub buffer_taken : Space → List Work → Option Buffer
buffer_taken s ws = option_and_then (buffer_in s.buffers) (first_of (map (λ w. hands_out w.kind) ws))

-- the owner is to acknowledge a BR_INCREFS and a BR_ACQUIRE
abbrev pub shakes : Return → List Bool
shakes (Return.Increfs ptr cookie) = false ∷ []
shakes (Return.Acquire ptr cookie) = true ∷ []
shakes _ = []

abbrev pub handshakes_for : ℕ → ℕ → Identity → List Bool → List Reference
handshakes_for place k o [] = []
handshakes_for place k o (strong ∷ rest) = reference_of place k o strong Handshake ∷ handshakes_for place (k + 1) o rest

abbrev pub handshakes_of : Space → ℕ → WorkKind → List Reference
handshakes_of s k kind = elim (notice_of kind) [ None ↦ [] | Some o ↦ handshakes_for s.steps k o (flat_map shakes (returns_of s kind)) ]

-- numbered from k in the order of the reading
abbrev pub handshakes : Space → ℕ → List Work → List Reference
handshakes s k [] = []
handshakes s k (w ∷ ws) = let hs = handshakes_of s k w.kind in hs ++ handshakes s (k + length hs) ws

-- an owner that is told knows what is so
abbrev pub is_told_by : List Work → Identity → Bool
is_told_by ws o = list_any (λ w. is_some_and (notice_of w.kind) (same o)) ws

abbrev pub told_of : List Reference → Object → Object
told_of references x = record x { told_weak = held_in references x.id; told_strong = strong_in references x.id }

abbrev pub hand_out : Buffer → Buffer
hand_out b = record b { handed = true }

abbrev pub handed_buffers : List Buffer → Option Buffer → List Buffer
handed_buffers buffers None = buffers
handed_buffers buffers (Some b) = changed (is_made_at b.made) hand_out buffers

-- the reader of a two-way call serves its frame
abbrev pub serve : ℕ → Frame → Frame
serve seat f = record f { server = Serving seat }

abbrev pub is_told_of_death : List Work → DeathNotification → Bool
is_told_of_death ws x = list_any (λ w. is_some_and (death_of w.kind) (λ n. n == x.made)) ws

-- the space after these items were read by the thread of this seat, before what follows
unfoldable pub read_by : Space → ℕ → List Work → Space
read_by s seat ws = record s {
  objects = changed (λ x. is_told_by ws x.id) (told_of s.references) s.objects;
  references = s.references ++ handshakes s 0 ws;
  frames = changed (λ f. list_any (λ w. is_call f.made w.kind) ws) (serve seat) s.frames;
  buffers = handed_buffers s.buffers (buffer_taken s ws);
  deaths = changed (is_told_of_death ws) (λ x. record x { phase = Told }) s.deaths;
  todo = without_taken ws s.todo;
}

-- ---- the step

abbrev pub got : List ℕ → Option Buffer → StepAnswer
got stream None = StepAnswer.Got stream [] []
got stream (Some b) = StepAnswer.Got stream b.bytes b.offsets

-- there is nothing to read
abbrev pub none_due : List Work → Bool
none_due [] = true
none_due (w ∷ ws) = false

abbrev pub read_fault : ℕ → List Work → Option Fault
read_fault limit ws = first_of (when (nat_lt limit 72) Fault.ReadTooSmall ∷ when (none_due ws) Fault.Again ∷ [])

unfoldable pub read_taking : Space → ℕ → List Work → Outcome
read_taking s seat ws = record { answer = got (stream_of s ws) (buffer_taken s ws); space = follow (read_by s seat ws) }

unfoldable pub read_step : Space → Actor → ℕ → Outcome
read_step s a limit =
    elim (read_fault limit (list_to_read s a.thread)) [
      | Some x ↦ refused s x
      | None ↦ read_taking s a.thread.seat (taken s (limit - 4) (list_to_read s a.thread))
    ]
