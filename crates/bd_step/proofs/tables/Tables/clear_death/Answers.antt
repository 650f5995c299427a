use Rattle.bd_step.proofs.{Words.{clear_check, cleared, cleared_local, sym}, Accepting.{checked_notes, checked_accepts_alone}, Clearing.{cleared_there}, Meeting.{taken_step}}
use Rattle.bd_step.proofs.tables.Tables.clear_death.Goals as goal

pub returns-in-Err-clause-step : goal.returns-in-Err-clause-step
returns-in-Err-clause-step c = taken_step _ _ _ _ _ (
    checked_notes _ _ (λ s. cleared s c.args.actor.thread.seat) (λ s. clear_check s c.args.actor.process.made c.args.n c.args.cookie) _
    (λ s h. c.in-Err.ensures s h.objects_stand))

pub returns-clause-step : goal.returns-clause-step
returns-clause-step c = taken_step _ _ _ _ _ (
    checked_accepts_alone _ _ (λ s. cleared s c.args.actor.thread.seat) (λ s. clear_check s c.args.actor.process.made c.args.n c.args.cookie) _
    (λ s h. c.in-Ok.ensures s h.objects_stand) _ _ c.reserve.ensures.stands (λ s h by. c.clear_request.ensures.stands s)
    (λ s h by. cleared_local s c.args.actor.thread.seat c.in-Ok.x by.tidy (cleared_there s c.args.actor.process.made c.args.n c.args.cookie c.in-Ok.x (sym (c.in-Ok.ensures s h.objects_stand)))))
