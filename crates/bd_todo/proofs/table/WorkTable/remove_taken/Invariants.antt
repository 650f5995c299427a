use Rattle.std.proofs.Common.{◌≡◌, ◌≤◌, List, drop}
use Rattle.bd_space.specs.{declared.space.Work.{Work}, Todo.{without_taken}}
use Rattle.bd_todo.specs.Stands.{WorksAre, work_room}
use Rattle.bd_todo.proofs.table.WorkTable.remove_taken.Given as goal

abbrev pub invariant-loop-item : goal.invariant-loop-item
invariant-loop-item l = record {
  uses : work_room l.fn.self ≤ work_room l.self;
  left : (l0 : List Work) → WorksAre l.fn.self l0 → (mid : List Work) × WorksAre l.self mid × (without_taken l.taken l0 ≡ without_taken (drop l.item-index l.taken) mid);
}
