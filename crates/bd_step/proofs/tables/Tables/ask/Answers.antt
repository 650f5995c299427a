use Rattle.bd_step.proofs.{Words.{Outcome, ap, ask, ask_check, by_check, has_number_past_limit, subst, sym, true, ◌≡◌}, Accepting.{checked_notes, checked_accepts}, Meeting.{taken_step}, Refusals.{full_if}}
use Rattle.bd_step.proofs.tables.Tables.ask.Goals as goal

pub returns-in-Err-clause-step : goal.returns-in-Err-clause-step
returns-in-Err-clause-step c = taken_step _ _ _ _ _ (
    checked_notes _ _ (λ s o. ask s c.args.actor.process.made o c.args.strong) (λ s. ask_check s c.args.actor.process.made c.args.n c.args.strong) _
    (λ s h. c.in-Err.ensures s h.objects_stand h.own.manager_is))

pub returns-in-Ok-add_asked-clause-step : goal.returns-in-Ok-add_asked-clause-step
returns-in-Ok-add_asked-clause-step c = taken_step _ _ _ _ _ (
    checked_accepts _ _ (λ s o. ask s c.args.actor.process.made o c.args.strong) (λ s. ask_check s c.args.actor.process.made c.args.n c.args.strong) _
    (λ s h. c.in-Ok.ensures s h.objects_stand h.own.manager_is) _ _ c.reserve.ensures.stands
    (λ s before by h. c.in-Ok-add_asked.ensures.stands s h (record { tidy = by.tidy; checked = (c.args.n, sym (c.in-Ok.ensures s before.objects_stand before.own.manager_is)) })))

pub returns-in-Err-add_asked-clause-step : goal.returns-in-Err-add_asked-clause-step
returns-in-Err-add_asked-clause-step c = record {
  ok = tt;
  err = λ s h. c.in-Err-add_asked.ensures.kept s (c.reserve.ensures.stands s h);
  full = λ s h by. full_if _ _ (subst (λ (o : Outcome). has_number_past_limit o.space.names ≡ true)
      (ap (by_check s (λ o. ask s c.args.actor.process.made o c.args.strong)) (c.in-Ok.ensures s h.objects_stand h.own.manager_is))
      (c.in-Err-add_asked.ensures.full s (c.reserve.ensures.stands s h)));
}
