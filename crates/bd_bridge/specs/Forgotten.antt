-- That nobody who waits is forgotten: what is so between any two events.
use Rattle.std.specs.Prelude.{ℕ, ◌≡◌, Bool, true, false, Some, None, ◌⊎◌, IsSome}
use Rattle.bd_bridge.specs.declared.{waiters.{Waiter.{Waiter}, Waiters.{Waiters}}, suspects.Suspects.{Suspects}, resting.Resting.{Resting}}
use Rattle.bd_bridge.specs.{Suspects.{is_suspect}, Resting.{is_resting}, Waiting.{at}}

-- its doorbell rings where it has something to read and only there, and where it waits in a read it has nothing
abbrev pub IsInformed : (ℕ → Bool → Type 0) → ℕ → Waiter → Type 0
IsInformed Sees t w = Sees t w.is_rung × (IsSome w.reads → w.is_rung ≡ false)

-- it waits in a read that leaves what can rest
abbrev pub may_rest : Waiter → Bool
may_rest w = elim w.reads [ None ↦ false | Some r ↦ r.leaves ]

-- it waits in a read that leaves what can rest, and has nothing else; its doorbell is silent
abbrev pub IsLeft : (ℕ → Type 0) → ℕ → Waiter → Type 0
IsLeft CanRest t w = (may_rest w ≡ true) × (w.is_rung ≡ false) × CanRest t

-- it is still to be looked at; or is left what it has, and will be looked at after the next step
abbrev pub IsSeenTo : (ℕ → Type 0) → Suspects → Resting → ℕ → Waiter → Type 0
IsSeenTo CanRest suspects resting t w = (is_suspect suspects t ≡ true) ⊎ ((is_resting resting t ≡ true) × IsLeft CanRest t w)

-- Whoever waits is informed, or is still seen to. And the process for which it is noted is that of its thread, since by that it is found
-- again.
pub record NobodyIsForgotten (Sees : ℕ → Bool → Type 0) (IsOf : ℕ → ℕ → Type 0) (CanRest : ℕ → Type 0) (waiters : Waiters) (suspects : Suspects) (resting : Resting) : Type 0 where
  pub placed : (t : ℕ) (w : Waiter) → at waiters t ≡ Some w → IsOf t w.process
  pub informed : (t : ℕ) (w : Waiter) → at waiters t ≡ Some w → IsInformed Sees t w ⊎ IsSeenTo CanRest suspects resting t w

-- nobody but this seat, which is being looked at
pub record NobodyIsForgottenBut (seat : ℕ) (Sees : ℕ → Bool → Type 0) (IsOf : ℕ → ℕ → Type 0) (CanRest : ℕ → Type 0) (waiters : Waiters) (suspects : Suspects) (resting : Resting) : Type 0 where
  pub placed : (t : ℕ) (w : Waiter) → at waiters t ≡ Some w → IsOf t w.process
  pub informed : (t : ℕ) (w : Waiter) → (t ≡ seat → ⊥) → at waiters t ≡ Some w → IsInformed Sees t w ⊎ IsSeenTo CanRest suspects resting t w
