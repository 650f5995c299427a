-- What those who wait are told, and where the engine has got by that.
use Rattle.std.specs.Prelude.{ℕ, ◌≡◌, ◌==◌, ◌≤◌, ◌&&◌, Bool, true, false, List, [], ◌∷◌, Option, Some, None, option_map, IsSome, count_by, if◌then◌else◌}
use Rattle.bd_bridge.specs.declared.{signal.Signal.{Signal}, waiters.{Waiter.{Waiter}, Waiters.{Waiters}}}
use Rattle.bd_bridge.specs.declared.signal.Signal.TheVariants.{Read, Bell}
use Rattle.bd_bridge.specs.Waiting.{at}

-- ---- how somebody waits after a signal

-- who is woken from a read waits on by its doorbell, if it has one, and else no more
abbrev pub awake : Waiter → Option Waiter
awake w = if w.has_doorbell then Some (record w { reads = None }) else None

abbrev pub awakened : Option Waiter → Option Waiter
awakened None = None
awakened (Some w) = awake w

abbrev pub after_signal : {R : Type 0} → Signal R → ℕ → Option Waiter → Option Waiter
after_signal (Read seat read woken) t o = if woken && (seat == t) then awakened o else o
after_signal (Bell seat rings) t o = if seat == t then option_map (λ (w : Waiter). record w { is_rung = rings }) o else o

-- the first of them comes first
abbrev pub after_signals : {R : Type 0} → List (Signal R) → ℕ → Option Waiter → Option Waiter
after_signals [] t o = o
after_signals (x ∷ xs) t o = after_signals xs t (after_signal x t o)

abbrev pub seat_of : {R : Type 0} → Signal R → ℕ
seat_of (Read seat read woken) = seat
seat_of (Bell seat rings) = seat

-- whether the seat is woken from its read
abbrev pub wakes : {R : Type 0} → ℕ → Signal R → Bool
wakes t (Read seat read woken) = woken && (seat == t)
wakes t (Bell seat rings) = false

-- ---- where the engine has got

-- a read is a step of the engine's, a doorbell none
abbrev pub world_after : {W R : Type 0} → (W → ℕ → R → W) → W → Signal R → W
world_after has_read h (Read seat read woken) = has_read h seat read
world_after has_read h (Bell seat rings) = h

abbrev pub world_if : {W R : Type 0} → (W → ℕ → R → W) → W → Option (Signal R) → W
world_if has_read h None = h
world_if has_read h (Some x) = world_after has_read h x

abbrev pub world_then : {W R : Type 0} → (W → ℕ → R → W) → W → List (Signal R) → W
world_then has_read h [] = h
world_then has_read h (x ∷ xs) = world_then has_read (world_after has_read h x) xs

-- ---- which signals are right

abbrev pub is_reading : Option Waiter → Bool
is_reading None = false
is_reading (Some w) = elim w.reads [ None ↦ false | Some r ↦ true ]

-- it reads, and may be left waiting with what it has read
abbrev pub may_defer : Option Waiter → Bool
may_defer None = false
may_defer (Some w) = elim w.reads [ None ↦ false | Some r ↦ r.defers ]

-- what the seat has read is nothing that it has to be told at once, now that it has read it
abbrev pub WaitsAfter : {W R : Type 0} → (W → ℕ → R → W) → (W → ℕ → R → Type 0) → W → ℕ → R → Type 0
WaitsAfter has_read CanWait h seat read = CanWait (has_read h seat read) seat read

-- Somebody who waits so is due this. A read: it waits in one, and had something to read. It is woken, unless it may be left waiting, and what
-- it has read can wait. A doorbell: it rings from now on where the seat has something to read, and is silent where it has nothing.
abbrev pub IsDue : {R : Type 0} → (ℕ → Bool → Type 0) → (ℕ → R → Type 0) → Option Waiter → Signal R → Type 0
IsDue Sees Waits o (Read seat read woken) = (is_reading o ≡ true) × Sees seat true × (woken ≡ false → (may_defer o ≡ true) × Waits seat read)
IsDue Sees Waits o (Bell seat rings) = IsSome o × Sees seat rings

-- each of them was due when it came
abbrev pub AreDue : {W R : Type 0} → (W → ℕ → Bool → Type 0) → (W → ℕ → R → W) → (W → ℕ → R → Type 0) → W → (ℕ → Option Waiter) → List (Signal R) → Type 0
AreDue Sees has_read CanWait h f [] = Unit {0}
AreDue Sees has_read CanWait h f (x ∷ xs) =
    IsDue (Sees h) (WaitsAfter has_read CanWait h) (f (seat_of x)) x × AreDue Sees has_read CanWait (world_after has_read h x) (λ t. after_signal x t (f t)) xs

-- those who waited have had these signals
pub record HaveHad {W R : Type 0} (Sees : W → ℕ → Bool → Type 0) (has_read : W → ℕ → R → W) (CanWait : W → ℕ → R → Type 0) (h : W) (old : Waiters) (signals : List (Signal R)) (new : Waiters) : Type 0 where
  -- whoever got none waits as before
  pub waiting : (t : ℕ) → at new t ≡ after_signals signals t (at old t)
  pub due : AreDue Sees has_read CanWait h (at old) signals
  -- nobody was woken twice
  pub once : (t : ℕ) → count_by (wakes t) signals ≤ 1

-- ---- what the engine has made of it

-- what came of a read, with what is kept of it, is its answer
abbrev pub answered : {S K R : Type 0} → (S → K → R) → K → Signal S → Signal R
answered answer kept (Read seat outcome woken) = Read seat (answer outcome kept) woken
answered answer kept (Bell seat rings) = Bell seat rings

abbrev pub room_of : Option Waiter → ℕ
room_of None = 0
room_of (Some w) = elim w.reads [ None ↦ 0 | Some r ↦ r.room ]

-- A read was made by the engine as it was, with the room that the seat waited with. A doorbell leaves it as it is, and what is kept.
abbrev pub IsMade : {E K S : Type 0} → (E → K → ℕ → ℕ → S → E → K → Type 0) → E → K → Option Waiter → Signal S → E → K → Type 0
IsMade MadeRead e k o (Read seat outcome woken) e' k' = MadeRead e k seat (room_of o) outcome e' k'
IsMade MadeRead e k o (Bell seat rings) e' k' = (e' ≡ e) × (k' ≡ k)

-- none, or one alone
abbrev pub signals_of : {R : Type 0} → Option (Signal R) → List (Signal R)
signals_of None = []
signals_of (Some x) = x ∷ []
