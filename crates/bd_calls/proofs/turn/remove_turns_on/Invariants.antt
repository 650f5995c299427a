use Rattle.bd_turns.specs.{declared.table.TurnTable.{TurnTable}, Room.{Uses}, Stands.{Makes}}
use Rattle.bd_calls.proofs.Losing.{left}
use Rattle.bd_calls.proofs.turn.remove_turns_on.Given as goal

-- what is still to go makes of these what the whole makes of the first
abbrev pub invariant-loop-work : goal.invariant-loop-work
invariant-loop-work l = record {
  turns : (t : TurnTable) → Makes l.turns t (left l.work-iterator) → Makes l.initial.turns t (left l.initial.work-iterator);
  uses : Uses l.initial.turns l.turns 0;
}
