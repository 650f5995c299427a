use Rattle.std.proofs.Common.{◌≡◌, ◌≤◌, ◌++◌, List, drop, length, vec_capacity}
use Rattle.bd_ways.specs.Words.{Work}
use Rattle.bd_todo.specs.Stands.{WorksAre}
use Rattle.bd_calls.specs.Marks.{changed_lists}
use Rattle.bd_calls.proofs.marks.list_changed.Given as goal

abbrev pub invariant-loop-mark : goal.invariant-loop-mark
invariant-loop-mark l = record {
  -- those that were put there and those that are left are all
  left : (ws : List Work) → WorksAre l.todo ws → l.reached.items ++ changed_lists ws (drop l.mark-index l.marks) ≡ changed_lists ws l.marks;
  few : length l.reached.items ≤ l.mark-index;
  room : vec_capacity l.fn.reached ≤ vec_capacity l.reached;
}
