use Rattle.std.proofs.Common.{sym, ◌∙◌}
use Rattle.bd_todo.proofs.Queueing.{unread_are}
use Rattle.bd_todo.proofs.table.WorkTable.keeps_from_calling.Goals as goal

pub returns : goal.returns
returns c = λ l h.
    let s = h.queues_stand in
    c.has_counted.ensures s.rows s.shows.holds ∙ unread_are c.args.self.now.queues l s c.args.list c.of.result (sym c.of.ensures)
