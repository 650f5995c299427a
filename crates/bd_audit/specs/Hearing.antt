-- What an owner hears of one of its objects, and what it acknowledges.
use Rattle.std.specs.Prelude.{ℕ, zero, suc, ◌-◌, ◌≡◌, ◌&&◌, ◌==◌, ◌≤◌, ◌⊎◌, Bool, true, false, List, [], ◌∷◌, ◌++◌, Option, Some, None, length, find, filter, if◌then◌else◌, filter_map}
use Rattle.bd_ways.specs.Words.{list_any, list_all, beq, Return, Identity, Entry, Step, StepAnswer, Actor, Work, same, is_some_and, Space}
use Rattle.bd_uapi.specs.declared.command.Command as command
use Rattle.bd_uapi.specs.declared.command.Command.TheVariants as bc
use Rattle.bd_uapi.specs.declared.command.Return.TheVariants as br
use Rattle.bd_space.specs.declared.step.Step.TheVariants.{Command, Read}
use Rattle.bd_space.specs.declared.step.StepAnswer.TheVariants.{Accepted, Got}
use Rattle.bd_space.specs.Space.{opening}
use Rattle.bd_space.specs.Seats.{actor}
use Rattle.bd_space.specs.References.{owned_in}
use Rattle.bd_space.specs.Todo.{is_notice, list_to_read}
use Rattle.bd_space.specs.Notices.{has_notice_in, wants_notice}
use Rattle.bd_space.specs.Returns.{returns_of}
use Rattle.bd_space.specs.ReadItems.{taken}
use Rattle.bd_space.specs.Histories.{History, IsHistory, next, after, space_after}

-- one of the four returns was read, or one of the two commands accepted
pub data Event : Type 0 where
  increfs : Event
  acquire : Event
  release : Event
  decrefs : Event
  increfs_done : Event
  acquire_done : Event

-- ---- the events of one object in a history

abbrev pub event_of : Return → Option Event
event_of (br.Increfs ptr cookie) = Some increfs
event_of (br.Acquire ptr cookie) = Some acquire
event_of (br.Release ptr cookie) = Some release
event_of (br.Decrefs ptr cookie) = Some decrefs
event_of _ = None

-- what these items tell of the object, in the order in which they are read
abbrev pub heard_in : Space → Identity → List Work → List Event
heard_in s o [] = []
heard_in s o (w ∷ ws) = (if is_notice o w.kind then filter_map event_of (returns_of s w.kind) else []) ++ heard_in s o ws

-- p's object with this ptr and cookie is this one
abbrev pub names_own : Space → Identity → ℕ → ℕ → ℕ → Bool
names_own s o p ptr cookie = is_some_and (find (λ x. (x.owner == p) && (x.ptr == ptr) && (x.cookie == cookie)) s.objects) (λ x. same x.id o)

-- what this command of p's acknowledges of the object
abbrev pub acknowledged : Space → Identity → ℕ → command.Command → List Event
acknowledged s o p (bc.IncrefsDone ptr cookie) = if names_own s o p ptr cookie then (increfs_done ∷ []) else []
acknowledged s o p (bc.AcquireDone ptr cookie) = if names_own s o p ptr cookie then (acquire_done ∷ []) else []
acknowledged s o p _ = []

abbrev pub is_got : StepAnswer → Bool
is_got (Got stream bytes offsets) = true
is_got _ = false

abbrev pub is_accepted : StepAnswer → Bool
is_accepted Accepted = true
is_accepted _ = false

-- the events of a step with this answer
abbrev pub heard_by : Space → Identity → Actor → Step → StepAnswer → List Event
heard_by s o a (Read limit) answer = if is_got answer then heard_in s o (taken s (limit - 4) (list_to_read s a.thread)) else []
heard_by s o a (Command c parcel) answer = if is_accepted answer then acknowledged s o a.process.made c else []
heard_by s o a _ answer = []

abbrev pub heard_at : Space → Identity → Entry → List Event
heard_at s o e = elim (actor s e.seat) [ None ↦ [] | Some a ↦ heard_by s o a e.step e.answer ]

abbrev pub heard_from : Space → Identity → List Entry → List Event
heard_from s o [] = []
heard_from s o (e ∷ es) = heard_at s o e ++ heard_from (next s e) o es

-- what is heard and acknowledged of the object, in the order of the history
unfoldable pub heard_of : Identity → History → List Event
heard_of o h = heard_from opening o h.entries

-- ---- the order of these events

abbrev pub is_return : Event → Bool
is_return increfs = true
is_return acquire = true
is_return release = true
is_return decrefs = true
is_return _ = false

abbrev pub same_event : Event → Event → Bool
same_event increfs increfs = true
same_event acquire acquire = true
same_event release release = true
same_event decrefs decrefs = true
same_event increfs_done increfs_done = true
same_event acquire_done acquire_done = true
same_event _ _ = false

-- BR_ACQUIRE and BR_RELEASE, in turn and n times each.
abbrev pub by_turns : ℕ → List Event
by_turns zero = []
by_turns (suc n) = acquire ∷ release ∷ by_turns n

-- All that an owner may be told of an object: BR_INCREFS first, then n times BR_ACQUIRE with its BR_RELEASE, and last BR_DECREFS.
abbrev pub telling : ℕ → List Event
telling n = increfs ∷ by_turns n ++ decrefs ∷ []

-- the return is among these events, and after the last one of it is this acknowledgement, or (false) it isn't
abbrev pub IsAnswered : Event → Event → Bool → List Event → Type 0
IsAnswered v done answered es =
    (early : List Event) × (late : List Event) × (es ≡ early ++ v ∷ late) × (list_any (same_event v) late ≡ false) × (list_any (same_event done) late ≡ answered)

-- The returns are a beginning of a telling. Before a BR_RELEASE the BR_ACQUIRE before it was acknowledged, and before a
-- BR_DECREFS the BR_INCREFS. What a BC_ACQUIRE_DONE or a BC_INCREFS_DONE acknowledges was read, and had no acknowledgement.
pub record InOrder (es : List Event) : Type 0 where
  pub told : (n : ℕ) × (rest : List Event) × (filter is_return es ++ rest ≡ telling n)
  pub before_release : (front back : List Event) → es ≡ front ++ release ∷ back → IsAnswered acquire acquire_done true front
  pub before_decrefs : (front back : List Event) → es ≡ front ++ decrefs ∷ back → IsAnswered increfs increfs_done true front
  pub before_acquire_done : (front back : List Event) → es ≡ front ++ acquire_done ∷ back → IsAnswered acquire acquire_done false front
  pub before_increfs_done : (front back : List Event) → es ≡ front ++ increfs_done ∷ back → IsAnswered increfs increfs_done false front

-- Of every object in every history, what its owner hears and acknowledges is in this order.
abbrev pub OwnersHearInOrder : Type 0
OwnersHearInOrder = (h : History) → IsHistory h → (o : Identity) → InOrder (heard_of o h)

-- ---- who hears

-- the step is one of the object's owner's threads
abbrev pub is_by_owner : Space → Identity → Entry → Bool
is_by_owner s o e = is_some_and (actor s e.seat) (λ a. owned_in s.objects a.process.made o)

-- of the events of an object each is by its owner
abbrev pub OnlyOwnersHear : Type 0
OnlyOwnersHear = (h : History) → IsHistory h → (o : Identity) (front back : List Entry) (e : Entry) → h.entries ≡ front ++ e ∷ back
    → (heard_at (after opening front) o e ≡ []) ⊎ (is_by_owner (after opening front) o e ≡ true)

-- ---- what is to be heard

-- of an object there is a Notice exactly while its owner lives and was told other than what is so, and never two
abbrev pub NoticesAreDue : Type 0
NoticesAreDue = (h : History) → IsHistory h
    → (list_all (λ x. beq (has_notice_in (space_after h).todo x.id) (wants_notice (space_after h).processes (space_after h).references x)) (space_after h).objects ≡ true)
    × ((o : Identity) → length (filter (λ w. is_notice o w.kind) (space_after h).todo) ≤ 1)
