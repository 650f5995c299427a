use Rattle.bd_objects.proofs.Words.{without_buffer}
use Rattle.bd_objects.proofs.table.ObjectTable.without_buffer.Goals as goal

pub returns-clause-stands : goal.returns-clause-stands
unfolding without_buffer
returns-clause-stands c = λ s h.
    record { records_are = c.remove_buffer.ensures.stands s.objects s.references h.records_are; names_are = c.remove_buffer.ensures.settled s.names h.names_are; deaths_are = h.deaths_are }

pub returns-clause-gone : goal.returns-clause-gone
returns-clause-gone c = λ s h. c.remove_buffer.ensures.gone s.objects s.references h.records_are
