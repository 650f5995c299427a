use Rattle.std.proofs.Common.{sym, ◌∙◌}
use Rattle.bd_todo.proofs.Queueing.{works_are}
use Rattle.bd_todo.proofs.table.WorkTable.works_on.Goals as goal

pub returns : goal.returns
returns c = λ l h.
    let s = h.queues_stand in
    c.items_on.ensures s.rows s.shows.holds ∙ works_are c.args.self.now.queues l s c.args.list c.of.result (sym c.of.ensures)
