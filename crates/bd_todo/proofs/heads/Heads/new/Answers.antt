use Rattle.std.proofs.Common.{None, replicate}
use Rattle.bd_todo.specs.{Keys.{list_key}, Heads.{head_at}}
use Rattle.bd_todo.proofs.HeadRows.{none_has, no_heads}
use Rattle.bd_todo.proofs.heads.Heads.new.Goals as goal

pub returns : goal.returns
unfolding head_at
returns c = none_has (replicate 31 None) c.new.result.all (no_heads 31) (λ l. c.new.ensures (list_key l))
