use Rattle.bd_space.specs.Notices.{still_due, work_goes}
use Rattle.bd_calls.proofs.table.CallTable.retain_work.Goals as goal

pub returns-clause-stands : goal.returns-clause-stands
unfolding work_goes
returns-clause-stands g c = λ s stands answers. record {
  threads_are = stands.threads_are;
  frames_are = stands.frames_are;
  todo_are = c.retain_kinds.ensures.stands (still_due s.processes s.objects s.references s.deaths) answers s.todo stands.todo_are;
  turns_are = stands.turns_are;
  ready_are = c.forget_all.ensures _ _;
}
