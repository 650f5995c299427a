use Rattle.bd_step.proofs.{Words.{Some, sym, work_on, ◌∙◌}, TakingItems.{at_start, at_next}}
use Rattle.bd_step.proofs.tables.Tables.select.Goals as goal

pub loop-work-init : goal.loop-work-init
loop-work-init c = λ s h.
    at_start s c.args.limit (work_on s.todo (Some c.args.list)) _ _ _ (c.into_iter-work-iterator.ensures.into_iter_gives ∙ c.works_on-work-items.ensures s h.calls_stand)
    c.requires.none c.requires.begun

pub loop-work-preserved : goal.loop-work-preserved
loop-work-preserved c = λ s h.
    at_next s c.args.limit (work_on s.todo (Some c.args.list)) _ _ c.in-Some.work _ _ _ _ (c.loop-work.invariant s h) c.in-Some.ensures.steps
    (sym c.is_full.ensures ∙ c.if-is_full.false) (sym c.ends_read.ensures ∙ c.if-ends_read.false) c.in_ok-select_one.ensures.works (c.in_ok-select_one.ensures.stream s h)
