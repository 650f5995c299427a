use Rattle.bd_step.proofs.{Words.{drop_asked, drop_check}, Accepting.{checked_notes, checked_accepts}, Meeting.{taken_step}}
use Rattle.bd_step.proofs.tables.Tables.drop_asked.Goals as goal

pub returns-in-Err-clause-step : goal.returns-in-Err-clause-step
returns-in-Err-clause-step c = taken_step _ _ _ _ _ (
    checked_notes _ _ (λ s o. drop_asked s c.args.actor.process.made o c.args.strong) (λ s. drop_check s c.args.actor.process.made c.args.n c.args.strong) _
    (λ s h. c.in-Err.ensures s h.objects_stand))

pub returns-clause-step : goal.returns-clause-step
returns-clause-step c = taken_step _ _ _ _ _ (
    checked_accepts _ _ (λ s o. drop_asked s c.args.actor.process.made o c.args.strong) (λ s. drop_check s c.args.actor.process.made c.args.n c.args.strong) _
    (λ s h. c.in-Ok.ensures s h.objects_stand) _ _ c.reserve.ensures.stands (λ s before by h. c.release_asked.ensures.stands s h by.tidy))
