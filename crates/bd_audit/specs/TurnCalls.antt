-- The turns of an object: its one-way calls, by the places where they were made, each with the reading to which it was
-- handed out and the step that took its buffer.
use Rattle.std.specs.Prelude.{ℕ, ◌≡◌, ◌<◌, ◌==◌, Bool, true, false, List, Option, Some, None, Ok}
use Rattle.bd_ways.specs.Words.{list_any, TransactionData, Identity, Parcel, Entry, Actor, Space}
use Rattle.std.specs.List.{slice_get, AllPairs}
use Rattle.bd_uapi.specs.declared.command.Command.TheVariants.{Transaction}
use Rattle.bd_space.specs.declared.step.Step.TheVariants.{Command}
use Rattle.bd_space.specs.declared.step.StepAnswer.TheVariants.{Accepted}
use Rattle.bd_space.specs.Space.{opening}
use Rattle.bd_space.specs.Seats.{actor}
use Rattle.bd_space.specs.Transactions.{is_one_way, handle_of, target_of}
use Rattle.bd_space.specs.Freeing.{is_made_at}
use Rattle.bd_space.specs.Steps.{step}
use Rattle.bd_space.specs.Histories.{History, IsHistory, after, next}
use Rattle.bd_audit.specs.declared.turns.Turn.{Turn}
use Rattle.bd_audit.specs.Replies.{HandsOutCall, At}

-- an accepted one-way transaction on the object, which its handle names for the process that steps
pub record CallsOneWay (s : Space) (e : Entry) (o : Identity) : Type 0 where
  pub actor_is : Actor
  pub acts : actor s e.seat ≡ Some actor_is
  pub fields : TransactionData
  pub parcel : Option Parcel
  pub command : e.step ≡ Command (Transaction fields) parcel
  pub one_way : is_one_way fields ≡ true
  pub target : target_of s actor_is.process.made (handle_of fields) ≡ Ok o
  pub accepted : (step s e.seat e.step).answer ≡ Accepted

-- the buffer made at c lives
abbrev pub has_buffer : Space → ℕ → Bool
has_buffer s c = list_any (is_made_at c) s.buffers

-- The buffer made at c lives before the step, and no more after it.
abbrev pub EndsBuffer : ℕ → Space → Entry → Type 0
EndsBuffer c s e = (has_buffer s c ≡ true) × (has_buffer (next s e) c ≡ false)

-- What a turn says of its call: where it was made; where it was handed out, and that it was so nowhere else; and where its
-- buffer went. A buffer comes with its call, so that it lives until the turn ends.
pub record TellsOf (es : List Entry) (o : Identity) (t : Turn) : Type 0 where
  pub made : At es t.made (λ z e. CallsOneWay z e o)
  pub handed : (p : ℕ) → t.handed ≡ Some p → At es p (HandsOutCall t.made)
  pub unhanded : (p : ℕ) → At es p (HandsOutCall t.made) → t.handed ≡ Some p
  pub ended : (p : ℕ) → t.ended ≡ Some p → At es p (EndsBuffer t.made)
  pub unended : (p : ℕ) → At es p (EndsBuffer t.made) → t.ended ≡ Some p
  pub lives : t.ended ≡ None → has_buffer (after opening es) t.made ≡ true

abbrev pub IsEarlier : Turn → Turn → Type 0
IsEarlier t u = t.made < u.made

-- the turns of an object in these entries: each tells of its call, each accepted one-way transaction on the object has one,
-- and they stand in the order in which the calls were made
pub record AreTurns (es : List Entry) (o : Identity) (ts : List Turn) : Type 0 where
  pub tells : (i : ℕ) (t : Turn) → slice_get ts i ≡ Some t → TellsOf es o t
  pub all : (c : ℕ) → At es c (λ z e. CallsOneWay z e o) → list_any (λ t. t.made == c) ts ≡ true
  pub rising : AllPairs IsEarlier ts

-- each object has its turns, and they are one list
abbrev pub TurnsTellOfCalls : Type 0
TurnsTellOfCalls = (h : History) → IsHistory h → (o : Identity)
    → (ts : List Turn) × AreTurns h.entries o ts × ((us : List Turn) → AreTurns h.entries o us → us ≡ ts)

-- when the later one is handed out, the earlier was so already, and its buffer has gone
abbrev pub IsTakenBefore : Turn → Turn → Type 0
IsTakenBefore t u = (p : ℕ) → u.handed ≡ Some p → (q : ℕ) × (e : ℕ) × (t.handed ≡ Some q) × (t.ended ≡ Some e) × (q < p) × (e < p)

-- In every history, of each two turns of an object the earlier is taken before the later.
abbrev pub TurnsAreTaken : Type 0
TurnsAreTaken = (h : History) → IsHistory h → (o : Identity) (ts : List Turn) → AreTurns h.entries o ts → AllPairs IsTakenBefore ts
