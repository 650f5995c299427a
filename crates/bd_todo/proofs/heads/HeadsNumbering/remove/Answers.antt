use Rattle.std.proofs.Common.{None, sym, ◌∙◌}
use Rattle.bd_todo.specs.Heads.{head_at}
use Rattle.bd_todo.proofs.HeadRows.{row_put, key_put}
use Rattle.bd_todo.proofs.heads.HeadsNumbering.remove.Goals as goal

pub returns-in-Some-clause-numbers : goal.returns-in-Some-clause-numbers
unfolding head_at
returns-in-Some-clause-numbers c =
    let t = c.args.self.now in
    row_put t.threads t.others.all c.args.list c.in-Some.at None (sym c.row.ensures ∙ c.in-Some.is)

pub returns-in-None-clause-numbers : goal.returns-in-None-clause-numbers
unfolding head_at
returns-in-None-clause-numbers c =
    let t = c.args.self.now in
    key_put t.threads t.others.all c.remove.new.self.all c.args.list None (sym c.row.ensures ∙ c.in-None.is) (rw c.list_key.ensures at c.remove.ensures.numbers)
