use Rattle.bd_step.proofs.Words.{rules, tests}
use Rattle.bd_step.proofs.tables.Tables.open_fault.Goals as goal

pub returns-then-is_some-2-clause-fault : goal.returns-then-is_some-2-clause-fault
returns-then-is_some-2-clause-fault c = λ s h. search (rules, tests, c.thread.ensures s h.calls_stand, c.process_with_pid.ensures s.steps s h)

pub returns-clause-fault : goal.returns-clause-fault
returns-clause-fault c = λ s h. search (rules, tests, c.thread.ensures s h.calls_stand, c.process_with_pid.ensures s.steps s h)
