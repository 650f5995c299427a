use Rattle.bd_step.proofs.{Words.{Some, ap, list_to_read, none_due, sym, work_on, ◌∙◌}, TakingItems.{due_by, own_due}}
use Rattle.bd_step.proofs.tables.Tables.list_to_read.Goals as goal

pub returns-in-Some-OfThread-clause-some : goal.returns-in-Some-OfThread-clause-some
unfolding list_to_read
returns-in-Some-OfThread-clause-some c = λ s h. ap (work_on s.todo) (sym (c.reads.ensures s h.calls_stand) ∙ c.in-Some-OfThread.is ∙ ap Some c.in-Some-OfThread.field-0-is)

pub returns-in-Some-OfThread-clause-none : goal.returns-in-Some-OfThread-clause-none
returns-in-Some-OfThread-clause-none c = λ s h at. sym (own_due s c.args.thread.now _ (sym (c.reads.ensures s h.calls_stand) ∙ c.in-Some-OfThread.is ∙ ap Some c.in-Some-OfThread.field-0-is))

pub returns-in-Some-clause-some : goal.returns-in-Some-clause-some
unfolding list_to_read
returns-in-Some-clause-some c = λ s h. ap (work_on s.todo) (sym (c.reads.ensures s h.calls_stand) ∙ c.in-Some.is)

pub returns-in-Some-clause-none : goal.returns-in-Some-clause-none
returns-in-Some-clause-none c = λ s h at. sym (due_by s c.args.thread.now _ at (sym c.if-is_ready.true ∙ c.is_ready.ensures s h.calls_stand))

pub returns-in_default-clause-none : goal.returns-in_default-clause-none
returns-in_default-clause-none c = λ s h at. sym (due_by s c.args.thread.now _ at (sym c.if-is_ready.false ∙ c.is_ready.ensures s h.calls_stand))

pub returns-in_default-2-clause-none : goal.returns-in_default-2-clause-none
unfolding list_to_read
returns-in_default-2-clause-none c = λ s h at. sym (ap (λ o. none_due (work_on s.todo o)) (sym (c.reads.ensures s h.calls_stand) ∙ c.in_default.is))
