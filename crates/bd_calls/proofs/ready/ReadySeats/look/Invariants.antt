use Rattle.std.proofs.Common.{◌≡◌, ℕ, List, get_or}
use Rattle.bd_ways.specs.Words.{Thread, Work}
use Rattle.bd_space.specs.Todo.{has_work_in}
use Rattle.bd_todo.specs.Stands.{WorksAre}
use Rattle.bd_threads.specs.Listed.{listed}
use Rattle.bd_calls.specs.{Ready.{AreSeen}, Grouped.{whole}}
use Rattle.bd_calls.proofs.ready.ReadySeats.look.Given as goal

abbrev pub invariant-loop-seat : goal.invariant-loop-seat
invariant-loop-seat l = record {
  seen : (ts : List Thread) (ws : List Work) → listed l.threads ≡ ts → WorksAre l.todo ws → AreSeen l.initial.self ts (has_work_in ws) → AreSeen l.self ts (has_work_in ws);
  whole : (k : ℕ) → get_or l.self.groups k whole ≡ whole;
}
