use Rattle.std.proofs.Common.{sym, arith}
use Rattle.bd_todo.specs.Registered.{Registered}
use Rattle.bd_todo.proofs.WorksStand.{all_at}
use Rattle.bd_todo.proofs.table.WorkTable.index_at.Goals as goal

pub returns-then-place-self : goal.returns-then-place-self
returns-then-place-self c = λ l h. all_at c.args.self.now c.args.place l h (omega arith)

pub returns-then-self-place : goal.returns-then-self-place
unfolding Registered
returns-then-self-place c = λ l h. sym (h.registered.none_later c.args.place (omega arith))
