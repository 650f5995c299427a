use Rattle.bd_step.proofs.{Words.{Some, Work, gathers_work, work_on}, Gathered.{on_err, any_here, any_later}, Gathering.{besides_next, more_work, grows_then}}
use Rattle.bd_step.proofs.tables.Tables.touch_list.Goals as goal

pub loop-work-preserved : goal.loop-work-preserved
loop-work-preserved c = record {
  has = λ s h.
      besides_next _ _ (work_on s.todo (Some c.args.list)) _ _ c.in-Some.work c.in-Some.ensures.steps (c.loop-work.invariant.has s h)
      (λ w k. more_work _ _ s w.kind (c.in_ok-touch_work.ensures.grows s h) k) (c.in_ok-touch_work.ensures.has s h);
  grows = λ s h. grows_then _ _ _ (c.loop-work.invariant.grows s h) (c.in_ok-touch_work.ensures.grows s h);
  gathers = λ s h any. c.loop-work.invariant.gathers s h (any_later (λ (w : Work). gathers_work s w.kind) _ _ c.in-Some.work c.in-Some.ensures.steps any);
}

pub returns-in_err-touch_work-clause-grown : goal.returns-in_err-touch_work-clause-grown
returns-in_err-touch_work-clause-grown c = on_err c.from_residual.result
    (λ s h. c.loop-work.invariant.gathers s h (any_here (λ (w : Work). gathers_work s w.kind) _ _ c.in-Some.work c.in-Some.ensures.steps (c.in_err-touch_work.ensures.grown s h)))
