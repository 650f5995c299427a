use Rattle.bd_step.proofs.tables.Tables.call_cause.Goals as goal

pub returns-else-one_way : goal.returns-else-one_way
returns-else-one_way c = λ n s h k. rw c.if-one_way.false (c.caller_cause.ensures n s h k)
