use Rattle.std.proofs.Common.{sym, ap, is_some, ◌∙◌}
use Rattle.bd_todo.proofs.Queueing.{front_any, front_found}
use Rattle.bd_todo.proofs.queues.front.Goals as goal

pub returns : goal.returns
returns c = record {
  any = λ todo s. ap is_some (c.first.ensures s.rows s.shows.holds) ∙ front_any c.args.queues.now todo s c.args.list c.of.result (sym c.of.ensures);
  some = λ rs s. front_found c.args.queues.now rs s c.args.list c.of.result c.first.result (sym c.of.ensures) (c.first.ensures rs s.holds);
}
