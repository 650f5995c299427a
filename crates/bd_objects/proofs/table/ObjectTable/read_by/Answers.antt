use Rattle.bd_objects.proofs.Words.{RecordsAre, handshakes, read_by, subst, ◌++◌}
use Rattle.bd_objects.proofs.{Holding.{holds_alike}, Owners.{told_alike}}
use Rattle.bd_objects.proofs.table.ObjectTable.read_by.Goals as goal

pub returns-clause-stands : goal.returns-clause-stands
unfolding read_by
returns-clause-stands c = λ seat s h at.
    let ws = c.args.taken.now in
    let refs = s.references ++ handshakes s 0 ws in
    record {
      records_are = subst (λ xs. RecordsAre c.tell_owners.new.records xs refs) (told_alike s.references refs ws s.objects (holds_alike s ws))
          (c.tell_owners.ensures.stands s.objects refs (c.add_handshakes.ensures.stands s at h.records_are));
      names_are = c.tell_owners.ensures.names s.names (c.add_handshakes.ensures.names s.names h.names_are);
      deaths_are = c.read.ensures.stands s.deaths h.deaths_are;
    }
