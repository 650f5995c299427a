use Rattle.bd_step.proofs.Words.{Identity, Some, ap, with_manager}
use Rattle.bd_step.proofs.tables.Tables.with_manager.Goals as goal

pub returns-clause-stands : goal.returns-clause-stands
unfolding with_manager
returns-clause-stands c = λ s h new. record {
  own = record {
    steps_are = h.own.steps_are;
    processes_are = h.own.processes_are;
    manager_is = ap (λ place. let o : Identity = record { place = place; index = 0 } in Some o) h.own.steps_are;
  };
  objects_stand = c.with_manager.ensures.stands s h.objects_stand new;
  calls_stand = h.calls_stand;
  windows_stand = h.windows_stand;
}
