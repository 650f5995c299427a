use Rattle.bd_step.proofs.{Words.{ManagerBusy, manager_outcome, manager_step, refl, sym, with_manager, ◌∙◌}, Meeting.{taken_step, meets, in_case, is_refused}, New.{new_manager}, Standing.{within}}
use Rattle.bd_step.proofs.tables.Tables.set_manager.Goals as goal

pub returns-then-is_manager_busy-clause-step : goal.returns-then-is_manager_busy-clause-step
unfolding manager_step
returns-then-is_manager_busy-clause-step c = taken_step _ _ _ _ _ (
    meets _ _ _ _ _ (λ s h by.
    in_case _ _ (manager_outcome s c.args.actor.process.made) _ _ (sym (c.is_manager_busy.ensures s h) ∙ c.if-is_manager_busy.true)
    (is_refused _ s ManagerBusy h)))

pub returns-clause-step : goal.returns-clause-step
unfolding manager_step with_manager
returns-clause-step c = taken_step _ _ _ _ _ (
    meets _ _ _ _ _ (λ s h by.
    in_case _ _ (manager_outcome s c.args.actor.process.made) _ _ (sym (c.is_manager_busy.ensures s h) ∙ c.if-is_manager_busy.false)
    (record {
      answered = refl;
      stands =
          let w = within _ s (c.reserve.ensures.stands s h) in
          c.with_manager.ensures.stands s w (new_manager s _ c.args.actor.process.made w.own.steps_are by.tidy (sym (c.is_manager_busy.ensures s h) ∙ c.if-is_manager_busy.false));
    })))
