-- What holds of each thread that waits, and of all threads of a process.
use Rattle.std.specs.Prelude.{◌≡◌, ◌+◌, ◌≤◌, ◌⊎◌, ℕ, Bool, true, false, not, ◌&&◌, ◌||◌, if◌then◌else◌, List, [], ◌∷◌}
use Rattle.bd_reader.specs.declared.facts.{Facts.{Facts}}
use Rattle.bd_reader.specs.declared.reader.{Reader.{Reader}}
use Rattle.bd_waiting.specs.declared.waits.{Waits.{Waits}, Told.{Told}, Calls.{Calls}}
use Rattle.bd_waiting.specs.declared.requests.{Ending.{Ending}}
use Rattle.bd_waiting.specs.declared.waits.Place.TheVariants as place
use Rattle.bd_waiting.specs.declared.requests.Begin.TheVariants as begin
use Rattle.bd_waiting.specs.declared.requests.End.TheVariants as end
use Rattle.bd_waiting.specs.declared.requests.Why.TheVariants as why
use Rattle.bd_waiting.specs.declared.requests.Cancel.TheVariants as cancel
use Rattle.bd_waiting.specs.declared.loopers.{Loopers.{Loopers}}
use Rattle.bd_waiting.specs.Waits.{waits_on, place_of, wanted_of, calls_of, made_by, noted}
use Rattle.bd_waiting.specs.Requests.{begins_by, ends_by, cancels_by}
use Rattle.bd_waiting.specs.Loopers.{front_of, asked_for, came_to}

-- ---- who is told of

abbrev pub is_told_of : Told → Bool
is_told_of t = t.has_bell || t.reads

-- Who waits in a read and has a seat is told of, unless the herald of its process's idle threads is in its place.
abbrev pub WhoWaitsIsToldOf : Type 0
WhoWaitsIsToldOf = (f : Facts) (calling : ℕ) (own : Bool) (w : Waits) → w.has_seat ≡ true → waits_on w ≡ true
    → (w.is_idle && not w.is_herald) ≡ false → is_told_of (wanted_of f calling own w) ≡ true

-- a thread that stands among the idle ones of its process, what is so of it, and whether it has something of its own
abbrev pub Idle : Type 0
Idle = Waits × Facts × Bool

-- who stands first is the herald
abbrev pub behind : List Idle → List Idle
behind [] = []
behind (i ∷ is) = (record (i.0) { is_idle = true; is_herald = false }, i.1, i.2) ∷ behind is

abbrev pub standing : List Idle → List Idle
standing [] = []
standing (i ∷ is) = (record (i.0) { is_idle = true; is_herald = true }, i.1, i.2) ∷ behind is

abbrev pub count_told : List Idle → ℕ
count_told [] = 0
count_told (i ∷ is) = (if is_told_of (wanted_of (i.1) 0 (i.2) (i.0)) then 1 else 0) + count_told is

-- Of all idle threads of a process one is told of, where the first of them waits in a read.
abbrev pub OneTellsForAll : Type 0
OneTellsForAll = (i : Idle) (is : List Idle) → (i.0).has_seat ≡ true → waits_on (i.0) ≡ true → count_told (standing (i ∷ is)) ≡ 1

-- Of who has no doorbell, and waits otherwise than before, it need not be asked whether it has something of its own.
abbrev pub WhoHasNoBellNeedNotBeAsked : Type 0
WhoHasNoBellNeedNotBeAsked = (f : Facts) (calling : ℕ) (a b alone ending : Bool) (w : Waits) → w.polls ≡ false
    → noted f calling a alone ending w ≡ noted f calling b alone ending w

-- Who neither waits in a read nor has a doorbell, and of whom nothing was told, stands nowhere, and nothing is to be told of it.
abbrev pub has_calls : Calls → Bool
has_calls c = c.stops_waiting || c.stops_reading || c.gives_bell || c.reads

pub record WhoIsAwayIsNotToldOf : Type 0 where
  pub place : (is_idle own : Bool) (w : Waits) → w.is_reading ≡ false → w.polls ≡ false → place_of is_idle own w ≡ place.Nowhere
  pub calls : (f : Facts) (calling : ℕ) (own : Bool) (w : Waits) → w.is_reading ≡ false → w.polls ≡ false → w.told.has_bell ≡ false → w.told.reads ≡ false
      → has_calls (calls_of w.told (wanted_of f calling own w)) ≡ false

-- ---- how it is told

-- What is told once the calls are made is what is wanted: so there is none to be made then. Only one of them stops.
pub record ItTellsWhatIsWanted : Type 0 where
  pub bell : (t w : Told) → (made_by (calls_of t w) t).has_bell ≡ w.has_bell
  pub reads : (t w : Told) → (made_by (calls_of t w) t).reads ≡ w.reads
  pub limit : (t w : Told) → w.reads ≡ true → (made_by (calls_of t w) t).limit ≡ w.limit
  pub defers : (t w : Told) → w.reads ≡ true → (made_by (calls_of t w) t).defers ≡ w.defers
  pub one_stops : (t w : Told) → ((calls_of t w).stops_waiting && (calls_of t w).stops_reading) ≡ false

-- ---- requests

-- A read that may not wait doesn't, nor one that has something to be answered with, or is to come back; and one that waits is answered where
-- a signal has come.
pub record AReadThatMayNotWaitIsAnswered : Type 0 where
  pub begins : (size : ℕ) (there return : Bool) (s : Reader) → ((begins_by size there false return s ≡ begin.Fetches) ⊎ (begins_by size there false return s ≡ begin.ComesBack))
  pub no_wait : (e : Ending) → e.may_wait ≡ false → ends_by e ≡ end.Waits → ⊥
  pub there : (e : Ending) → e.is_put_off ≡ false → e.reads ≡ true → e.is_reading ≡ true → e.has_failed ≡ false → e.is_at_once ≡ true → e.is_there ≡ true → ends_by e ≡ end.Answers
  pub interrupted : cancels_by true why.IsInterrupted ≡ cancel.Interrupts

-- ---- loopers

-- No more threads have come and are still to come than may, however often reads are answered and threads come.
pub record NoMoreComeThanMay : Type 0 where
  pub asked : (room : ℕ) (looper waits : Bool) (l : Loopers) → l.started + l.requested ≤ l.max
      → (asked_for (front_of room looper waits l) l).started + (asked_for (front_of room looper waits l) l).requested ≤ l.max
  pub came : (code : ℕ) (l : Loopers) → l.started + l.requested ≤ l.max → (came_to code l).started + (came_to code l).requested ≤ l.max
