use Rattle.bd_step.proofs.{Words.{NoSuchPid, Option, Process, ap, attach_outcome, attach_step, false, is_some, process_with_pid, refl, sym, thread_in, with_thread, ◌+◌, ◌∙◌}, Meeting.{taken_step, meets, in_case, is_refused}, New.{is_none}, Standing.{within}}
use Rattle.bd_uapi.specs.declared.fault.Fault.TheVariants.{HasProcess}
use Rattle.bd_step.proofs.tables.Tables.attach.Goals as goal

pub returns-then-is_some-clause-step : goal.returns-then-is_some-clause-step
unfolding attach_step
returns-then-is_some-clause-step c = taken_step _ _ _ _ _ (
    meets _ _ _ _ _ (λ s h by.
    in_case _ _ (attach_outcome s c.args.seat (process_with_pid s.processes c.args.pid)) _ _
    (ap is_some (sym (c.thread.ensures s h.calls_stand)) ∙ sym c.is_some.ensures ∙ c.if-is_some.true) (is_refused _ s HasProcess h)))

pub returns-in_default-clause-step : goal.returns-in_default-clause-step
unfolding attach_step
returns-in_default-clause-step c = taken_step _ _ _ _ _ (
    meets _ _ _ _ _ (λ s h by.
    in_case _ _ (attach_outcome s c.args.seat (process_with_pid s.processes c.args.pid)) _ _
    (ap is_some (sym (c.thread.ensures s h.calls_stand)) ∙ sym c.is_some.ensures ∙ c.if-is_some.false)
    (in_case _ _ (λ (q : Option Process). attach_outcome s c.args.seat q false) _ _ (sym (c.process_with_pid.ensures s.steps s h) ∙ c.in_default.is)
    (is_refused _ s NoSuchPid h))))

pub returns-clause-step : goal.returns-clause-step
unfolding attach_step with_thread
returns-clause-step c = taken_step _ _ _ _ _ (
    meets _ _ _ _ _ (λ s h by.
    let free = ap is_some (sym (c.thread.ensures s h.calls_stand)) ∙ sym c.is_some.ensures ∙ c.if-is_some.false in
    in_case _ _ (attach_outcome s c.args.seat (process_with_pid s.processes c.args.pid)) _ _ free
    (in_case _ _ (λ (q : Option Process). attach_outcome s c.args.seat q false) _ _ (sym (c.process_with_pid.ensures s.steps s h) ∙ c.in-Some.is)
    (record {
      answered = refl;
      stands = c.add_thread.ensures.stands (s.steps + 1) s (within _ s (c.reserve.ensures.stands s h)) (is_none (thread_in s.threads c.args.seat) free);
    }))))
