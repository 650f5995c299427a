use Rattle.std.proofs.Common.{◌≡◌, ◌≤◌, ◌+◌, not, List, length, filter}
use Rattle.bd_space.specs.{declared.space.Work.{Work}, Todo.{is_on}}
use Rattle.bd_todo.specs.Stands.{WorksAre, work_room}
use Rattle.bd_todo.proofs.table.WorkTable.pop_all.Given as goal

abbrev pub invariant-loop : goal.invariant-loop
invariant-loop l = record {
  uses : work_room l.fn.self ≤ work_room l.self;
  left : (l0 : List Work) → WorksAre l.fn.self l0
      → (mid : List Work) × WorksAre l.self mid × (filter (λ w. not (is_on l.fn.list w)) mid ≡ filter (λ w. not (is_on l.fn.list w)) l0) × (length mid + l.counter ≤ length l0);
}
