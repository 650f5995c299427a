-- A process that is new.
use Rattle.std.specs.Prelude.{◌≡◌, ◌<◌, List, All, None}
use Rattle.bd_space.specs.declared.space.Process.{Process}
use Rattle.bd_space.specs.Seats.{process_with_pid}

-- The process was opened after all of these, and none of them has its pid.
pub record IsNewIn (processes : List Process) (process : Process) : Type 0 where
  pub newest : All (λ q. q.made < process.made) processes
  pub free : process_with_pid processes process.pid ≡ None
