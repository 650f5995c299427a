use Rattle.bd_step.proofs.{Words.{NoneTold, ap, by_check, death_done, done_local, ok_or, sym}, Accepting.{accepts_alone, notes}, Meeting.{taken_step}}
use Rattle.bd_step.proofs.tables.Tables.death_done.Goals as goal

pub returns-in-None-clause-step : goal.returns-in-None-clause-step
returns-in-None-clause-step c = taken_step _ _ _ _ _ (
    notes _ _ _ _ (λ s h by. sym (ap (λ o. by_check s (death_done s c.args.actor.thread.seat) (ok_or o NoneTold)) (c.in-None.ensures s h.objects_stand))))

pub returns-clause-step : goal.returns-clause-step
returns-clause-step c = taken_step _ _ _ _ _ (
    accepts_alone _ c.reserve.new.self _ _ _ (λ s. death_done s c.args.actor.thread.seat c.in-Some.x) c.reserve.ensures.stands (λ s h by. c.acknowledge_death.ensures.stands s)
    (λ s h by. done_local s c.args.actor.thread.seat c.args.actor.process.made c.args.cookie c.in-Some.x by.tidy (sym (c.in-Some.ensures s h.objects_stand)))
    (λ s h by. sym (ap (λ o. by_check s (death_done s c.args.actor.thread.seat) (ok_or o NoneTold)) (c.in-Some.ensures s h.objects_stand))))
