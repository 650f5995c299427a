use Rattle.bd_objects.proofs.Words.{DeathsAre, RecordsAre, Settled, refl, subst, sym, tell_deaths}
use Rattle.bd_objects.proofs.Telling.{Told_all}
use Rattle.bd_objects.proofs.table.ObjectTable.tell_deaths.Goals as goal

pub returns-clause-stands : goal.returns-clause-stands
unfolding tell_deaths
returns-clause-stands c = λ s h.
    let told = Told_all s.objects c.args.p s.deaths s refl in
    let t = c.args.self.now in
    record {
      records_are = subst (λ xs. RecordsAre t.records xs (tell_deaths s c.args.p).references) (sym told.objects_are) (subst (RecordsAre t.records s.objects) (sym told.references_are) h.records_are);
      names_are = subst (Settled t.records) (sym told.names_are) h.names_are;
      deaths_are = subst (λ xs. DeathsAre c.queue_due.new.self xs) (sym told.deaths_are) (c.queue_due.ensures.stands s.objects s.deaths (s.references, h.records_are) h.deaths_are);
    }
