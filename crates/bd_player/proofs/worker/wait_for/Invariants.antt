use Rattle.std.proofs.Common.{◌≡◌}
use Rattle.bd_player.specs.Workers.{Waits}
use Rattle.bd_player.proofs.worker.wait_for.Given as goal

abbrev pub invariant-loop-turn : goal.invariant-loop-turn
invariant-loop-turn g l = (l.seat.table ≡ l.initial.seat.table) × (l.initial.seat.table ≡ g.D.Desk.table l.desk) × Waits l.turn l.stamp l.initial.seat.view l.seat.view
