use Rattle.bd_objects.proofs.Words.{without_death}
use Rattle.bd_objects.proofs.table.ObjectTable.without_death.Goals as goal

pub returns-clause-stands : goal.returns-clause-stands
unfolding without_death
returns-clause-stands c = λ s h.
    record { records_are = h.records_are; names_are = h.names_are; deaths_are = c.remove.ensures.stands s.deaths h.deaths_are }
