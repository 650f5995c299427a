use Rattle.std.proofs.Common.{sym, subst}
use Rattle.bd_space.specs.Todo.{owe, with_work}
use Rattle.bd_todo.specs.Stands.{WorksAre}
use Rattle.bd_calls.proofs.{Seats.{told_same, noted_seen, pushed_told}, Marking.{told_on, pushed_beside}}
use Rattle.bd_calls.specs.Told.{Recalls}
use Rattle.bd_calls.proofs.table.CallTable.owe.Goals as goal

pub returns-clause-stands : goal.returns-clause-stands
unfolding owe
returns-clause-stands c = λ s h at. record {
  threads_are = h.threads_are;
  frames_are = h.frames_are;
  todo_are = subst (λ n. WorksAre c.push.new.self (with_work n s.todo c.args.list c.args.kind)) (sym at) (c.push.ensures.stands s.todo h.todo_are);
  turns_are = h.turns_are;
  ready_are = told_same c.note.new.self s.threads _ _ (pushed_told s.steps s.todo c.args.list c.args.kind) (noted_seen c.args.self.now.ready c.note.new.self s.threads _ _ _ c.note.ensures h.ready_are);
}

pub returns-clause-told : goal.returns-clause-told
unfolding Recalls
returns-clause-told c = λ told k.
    told_on c.mark.new.self _ _ (λ ws. with_work c.args.place ws c.args.list c.args.kind) told c.push.ensures.stands
    (λ ws list out. pushed_beside c.args.place ws c.args.list c.args.kind list (c.mark.ensures.marked list out).1) (c.mark.ensures.recalls told k)
