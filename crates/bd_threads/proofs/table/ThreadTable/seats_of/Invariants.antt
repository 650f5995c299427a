use Rattle.std.proofs.Common.{◌≡◌, ◌++◌, ◌==◌, map, filter, drop}
use Rattle.bd_space.specs.{declared.space.Thread.{Thread}, ProcessExits.{seat_of}}
use Rattle.bd_threads.specs.Rows.{live}
use Rattle.bd_threads.proofs.table.ThreadTable.seats_of.Given as goal

abbrev pub invariant-loop-row : goal.invariant-loop-row
invariant-loop-row l =
    map seat_of (filter (λ (t : Thread). t.process == l.process) (live l.self.rows.items))
    ≡ l.seats.items ++ map seat_of (filter (λ (t : Thread). t.process == l.process) (live (drop l.row-index l.self.rows.items)))
