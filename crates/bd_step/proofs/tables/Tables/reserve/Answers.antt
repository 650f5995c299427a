use Rattle.bd_step.proofs.tables.Tables.reserve.Goals as goal

pub returns-in_err-reserve-clause-stands : goal.returns-in_err-reserve-clause-stands
returns-in_err-reserve-clause-stands c = λ s h. record {
  own = h.own;
  objects_stand = c.reserve.ensures.stands s h.objects_stand;
  calls_stand = h.calls_stand;
  windows_stand = h.windows_stand;
}
