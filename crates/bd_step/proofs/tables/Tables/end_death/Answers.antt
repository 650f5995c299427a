use Rattle.bd_step.proofs.{Words.{death_ended, without_death, ◌+◌}, Changing.{with_objects}}
use Rattle.bd_step.proofs.tables.Tables.end_death.Goals as goal

pub returns-clause-stands : goal.returns-clause-stands
unfolding death_ended without_death
returns-clause-stands c = λ s h.
    c.add_work.ensures.stands (without_death s c.args.x.made)
    (with_objects (s.steps + 1) c.args.self.now s _ _ _ _ _ h (c.without_death.ensures.stands s h.objects_stand))
