use Rattle.std.proofs.Common.{Bool, ◌≡◌, ◌≤◌, List}
use Rattle.bd_keys.specs.Tables.{AnswersBy}
use Rattle.bd_space.specs.declared.space.Work.{Work}
use Rattle.bd_chains.specs.Rows.{Row}
use Rattle.bd_todo.specs.Stands.{RowsAre, work_room}
use Rattle.bd_todo.proofs.Sweeping.{Swept}
use Rattle.bd_todo.proofs.table.WorkTable.retain.Given as goal

abbrev pub invariant-loop-x : goal.invariant-loop-x
invariant-loop-x g l = record {
  uses : work_room l.fn.self ≤ work_room l.self;
  same : l.f ≡ l.fn.f;
  swept : (p : Work → Bool) → AnswersBy (λ w b. g.F.Fn.post l.fn.f (w, tt) b) p → (rs : List (Row Work)) → RowsAre l.fn.self rs → Swept p l.x l.self rs;
}
