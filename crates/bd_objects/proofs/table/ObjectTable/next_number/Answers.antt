use Rattle.bd_objects.proofs.table.ObjectTable.next_number.Goals as goal

pub returns : goal.returns
returns c = λ s h. c.next_number.ensures s.names h.names_are.stands
