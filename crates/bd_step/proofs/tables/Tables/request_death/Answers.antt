use Rattle.bd_step.proofs.{Words.{request_check, requested, requested_local, sym}, Accepting.{checked_notes, checked_accepts_alone}, Meeting.{taken_step}, New.{new_death}}
use Rattle.bd_step.proofs.tables.Tables.request_death.Goals as goal

pub returns-in-Err-clause-step : goal.returns-in-Err-clause-step
returns-in-Err-clause-step c = taken_step _ _ _ _ _ (
    checked_notes _ _ (λ s o. requested s c.args.actor.process.made o c.args.cookie) (λ s. request_check s c.args.actor.process.made c.args.n) _
    (λ s h. c.in-Err.ensures s h.objects_stand))

pub returns-clause-step : goal.returns-clause-step
returns-clause-step c = taken_step _ _ _ _ _ (
    checked_accepts_alone _ _ (λ s o. requested s c.args.actor.process.made o c.args.cookie) (λ s. request_check s c.args.actor.process.made c.args.n) _
    (λ s h. c.in-Ok.ensures s h.objects_stand) _ _ c.reserve.ensures.stands
    (λ s h by w. c.add_request.ensures.stands s w (new_death s _ c.args.actor.process.made c.args.n c.in-Ok.o w.own.steps_are by.tidy (sym (c.in-Ok.ensures s h.objects_stand))))
    (λ s h by. requested_local s c.args.actor.process.made c.args.n c.args.cookie c.in-Ok.o by.tidy.quiet (sym (c.in-Ok.ensures s h.objects_stand))))
