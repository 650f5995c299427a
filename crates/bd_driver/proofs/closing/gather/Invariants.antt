use Rattle.bd_driver.proofs.Words.{All, Each, Idle, List, SeatState, [], views_of, ◌++◌, ◌≡◌}
use Rattle.bd_driver.proofs.closing.gather.Given as goal

abbrev pub invariant-loop-seat : goal.invariant-loop-seat
invariant-loop-seat l =
    (rest : List SeatState) × (l.keeper.table_id ≡ l.table.shared.table_id) × (l.keeper.me ≡ (views_of rest, [])) × (l.initial.seats.items ≡ l.seats.items ++ rest) × Each Idle (views_of rest)
    × All (λ (s : SeatState). s.table ≡ l.table.shared.table_id) l.seats.items

abbrev pub decreases-loop-seat : goal.decreases-loop-seat
decreases-loop-seat l = goal.left-loop-seat l
