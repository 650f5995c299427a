use Rattle.bd_objects.proofs.Words.{with_phase}
use Rattle.bd_objects.proofs.table.ObjectTable.with_phase.Goals as goal

pub returns-clause-stands : goal.returns-clause-stands
unfolding with_phase
returns-clause-stands c = λ s h.
    record { records_are = h.records_are; names_are = h.names_are; deaths_are = c.set_phase.ensures.stands s.deaths h.deaths_are }
