use Rattle.bd_step.proofs.{Words.{StandsFor, StandsIn, subst, thread_goes}, Handed.{lost_on}}
use Rattle.bd_step.proofs.tables.Tables.thread_goes.Goals as goal

pub returns-clause-stands : goal.returns-clause-stands
unfolding thread_goes
returns-clause-stands c = λ s h.
    let lost = lost_on s c.args.seat _ (c.works_on-works.ensures s h.calls_stand) in
    record {
      own = h.own;
      objects_stand = subst (StandsFor c.end_handed.new.objects) lost (c.end_handed.ensures.objects s h.objects_stand);
      calls_stand = c.thread_goes.ensures.stands s h.calls_stand;
      windows_stand = subst (StandsIn c.end_handed.new.windows) lost (c.end_handed.ensures.windows s h.windows_stand);
    }
