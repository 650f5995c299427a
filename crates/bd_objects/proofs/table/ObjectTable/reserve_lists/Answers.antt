use Rattle.bd_objects.proofs.table.ObjectTable.reserve_lists.Goals as goal

pub returns-clause-stands : goal.returns-clause-stands
returns-clause-stands c = λ s h. record {
  records_are = c.reserve.ensures.stands s.objects s.references (c.reserve_objects.ensures.stands s.objects s.references h.records_are);
  names_are = c.reserve.ensures.settled s.names (c.reserve_objects.ensures.settled s.names h.names_are);
  deaths_are = c.reserve-2.ensures.stands s.deaths h.deaths_are;
}
