use Rattle.std.proofs.Common.{◌≡◌, ◌≤◌, ◌==◌, List}
use Rattle.bd_space.specs.declared.space.Work.{Work}
use Rattle.bd_chains.specs.Rows.{Row}
use Rattle.bd_todo.specs.{Rows.{seen_by}, QueuesStand.{Shows}}
use Rattle.bd_todo.proofs.queues.count_at.Given as goal

abbrev pub invariant-loop-x : goal.invariant-loop-x
invariant-loop-x l = record {
  few : l.count ≤ l.x;
  so_far : (rs : List (Row Work)) → Shows l.queues rs → l.count ≡ seen_by (λ w. w.id.place == l.fn.place) l.x rs;
}
