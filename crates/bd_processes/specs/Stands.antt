-- What a table of processes stands for: the list of the live processes of a space.
use Rattle.std.specs.Prelude.{ℕ, ◌≡◌, List, AllPairs, option_map}
use Rattle.bd_space.specs.declared.space.Process.{Process}
use Rattle.bd_space.specs.Seats.{process_with_pid}
use Rattle.bd_keys.specs.Look.{look}
use Rattle.bd_processes.specs.declared.table.ProcessTable.{ProcessTable}
use Rattle.bd_processes.specs.Keys.{pid_key}
use Rattle.bd_processes.specs.Order.{IsRising}

pub record ProcessesAre (t : ProcessTable) (processes : List Process) : Type 0 where
  pub items_are : t.list.items ≡ processes
  pub rising : IsRising processes
  pub apart : AllPairs (λ a b. a.pid ≡ b.pid → ⊥) processes
  pub found : (pid : ℕ) → look t.by_pid (pid_key pid) ≡ option_map (λ q. q.made) (process_with_pid processes pid)

-- The new table stands for every list of processes that the old one stands for.
abbrev pub IsKept : ProcessTable → ProcessTable → Type 0
IsKept old new = (processes : List Process) → ProcessesAre old processes → ProcessesAre new processes
