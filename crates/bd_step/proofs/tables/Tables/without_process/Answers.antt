use Rattle.bd_step.proofs.Words.{None, Some, ap, if◌then◌else◌, option_and_then, owned_in, sym, without_process, ◌∙◌}
use Rattle.bd_step.proofs.tables.Tables.without_process.Goals as goal

pub returns-clause-stands : goal.returns-clause-stands
unfolding without_process
returns-clause-stands c = λ s h. record {
  own = record {
    steps_are = h.own.steps_are;
    processes_are = c.remove.ensures.stands s.processes h.own.processes_are;
    manager_is = ap (option_and_then (λ o. if owned_in s.objects c.args.p o then None else Some o)) h.own.manager_is ∙ sym (c.manager_without-self.ensures s h.objects_stand);
  };
  objects_stand = c.without_process.ensures.stands s h.objects_stand;
  calls_stand = c.end_process.ensures.stands s h.calls_stand;
  windows_stand = c.close.ensures s h.windows_stand;
}
