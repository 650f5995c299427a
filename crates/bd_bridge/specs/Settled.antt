-- What a settling has done so far.
use Rattle.std.specs.Prelude.{ℕ, Bool, List}
use Rattle.bd_bridge.specs.declared.{signal.Signal.{Signal}, waiters.Waiters.{Waiters}, suspects.Suspects.{Suspects}, resting.Resting.{Resting}}
use Rattle.bd_bridge.specs.{Forgotten.{NobodyIsForgotten}, Signals.{HaveHad, world_then}}

-- From a world h on: the engine has made the reads that were signalled and nothing else, still nobody is forgotten, and those who waited have
-- had these signals.
pub record HasSettled {S W R : Type 0} (Follows : S → W → Type 0) (Sees : W → ℕ → Bool → Type 0) (IsOf : W → ℕ → ℕ → Type 0) (has_read : W → ℕ → R → W) (CanWait : W → ℕ → R → Type 0) (CanRest : W → ℕ → Type 0)
    (h : W) (old : Waiters) (signals : List (Signal R)) (engine : S) (new : Waiters) (suspects : Suspects) (resting : Resting) : Type 0 where
  pub follows : Follows engine (world_then has_read h signals)
  pub watched : NobodyIsForgotten (Sees (world_then has_read h signals)) (IsOf (world_then has_read h signals)) (CanRest (world_then has_read h signals)) new suspects resting
  pub had : HaveHad Sees has_read CanWait h old signals new
