use Rattle.std.proofs.Common.{Bool, List, take}
use Rattle.bd_ways.specs.Words.{Thread, TodoList, Work}
use Rattle.bd_todo.specs.Stands.{WorksAre}
use Rattle.bd_calls.specs.Ready.{AreSeen, told_after}
use Rattle.bd_calls.proofs.ready.ReadySeats.note_lists_of.Given as goal

abbrev pub invariant-loop-work : goal.invariant-loop-work
invariant-loop-work l = (ts : List Thread) (told : TodoList → Bool) (ws : List Work) → WorksAre l.todo ws
    → AreSeen l.initial.self ts told → AreSeen l.self ts (told_after ws (take l.work-index l.taken) told)
