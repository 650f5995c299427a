use Rattle.bd_todo.specs.{Keys.{list_key}, Heads.{head_at}}
use Rattle.bd_todo.proofs.HeadRows.{same_numbers}
use Rattle.bd_todo.proofs.heads.HeadsNumbering.reserve.Goals as goal

pub returns-clause-numbers : goal.returns-clause-numbers
unfolding head_at
returns-clause-numbers c =
    let t = c.args.self.now in
    same_numbers t.threads t.others.all c.reserve.new.self.all (λ l. c.reserve.ensures.numbers (list_key l))
