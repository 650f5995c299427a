use Rattle.std.proofs.Common.{◌≡◌, false}
use Rattle.bd_driver.specs.Rest.{is_waiting}
use Rattle.bd_player.specs.Workers.{Tries}
use Rattle.bd_player.proofs.worker.call.Given as goal

abbrev pub invariant-loop-turn : goal.invariant-loop-turn
invariant-loop-turn g l =
    (l.seat.table ≡ l.initial.seat.table) × (l.initial.seat.table ≡ g.D.Desk.table l.desk) × (is_waiting l.seat.view.handover ≡ false)
    × (l.request ≡ l.fn.request) × Tries l.turn l.initial.seat.view l.seat.view
