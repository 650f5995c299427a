-- Entries as they are printed.
use Rattle.std.specs.Prelude.{◌≡◌, ℕ, Some}
use Rattle.std.specs.List.{slice_get}
use Rattle.bd_space.specs.Histories.{History}
use Rattle.bd_player.specs.declared.entries.Made.{Made}
use Rattle.bd_audit.specs.Replays.{beginning}
use Rattle.bd_player.specs.Pids.{pid_in}

-- the entry at this place, and the pid of the process that made it
pub record IsEntryAt (h : History) (place : ℕ) (m : Made) : Type 0 where
  pub place_is : m.place ≡ place
  pub entry : slice_get h.entries place ≡ Some m.entry
  pub pid : m.pid ≡ pid_in (beginning place h) h.entries m.entry
