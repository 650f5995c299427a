-- Frames as stacks: what a thread came into last it is in innermost.
use Rattle.std.specs.Prelude.{ℕ, ◌≡◌}
use Rattle.bd_ways.specs.Words.{Space}
use Rattle.bd_space.specs.Frames.{innermost_in}
use Rattle.bd_ways.specs.Tables as tables
pub use Rattle.bd_frames.specs.Words.{newest_in}
pub use Rattle.bd_frames.specs.Places.{IsAfter}
use Rattle.bd_calls.specs.{declared.table.CallTable.{CallTable}, Stands.{StandsFor}}

-- it is each thread's innermost: so it is between two steps, but not of any frames that a table may hold
abbrev pub IsStacked : Space → Type 0
IsStacked s = (seat : ℕ) → innermost_in s.frames seat ≡ newest_in s.frames seat

-- of every such space that the table stands for x is what f says
abbrev pub TellsOfStacked : {A : Type 0} → CallTable → A → (Space → A) → Type 0
TellsOfStacked t x f = tables.TellsWhere (StandsFor t) IsStacked x f

-- and all of them were made before the step: so a call may come in
pub record TakesCalls (s : Space) : Type 0 where
  pub stacked : IsStacked s
  pub before : IsAfter 0 s.frames s.steps

-- the step at this place makes one by f from every such space
abbrev pub MakesOfStackedAt : ℕ → CallTable → CallTable → (Space → Space) → Type 0
MakesOfStackedAt place old new f =
    tables.MakesWhere (StandsFor old) (λ s. tables.IsAt place s × TakesCalls s) (StandsFor new) f
