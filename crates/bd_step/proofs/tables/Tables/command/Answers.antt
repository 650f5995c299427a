use Rattle.bd_step.proofs.Words.{command_step}
use Rattle.bd_step.proofs.tables.Tables.command.Goals as goal

pub returns-in-IncrefsDone-clause-step : goal.returns-in-IncrefsDone-clause-step
unfolding command_step
returns-in-IncrefsDone-clause-step c = rw c.in-IncrefsDone.is c.acknowledge.ensures.step

pub returns-in-AcquireDone-clause-step : goal.returns-in-AcquireDone-clause-step
unfolding command_step
returns-in-AcquireDone-clause-step c = rw c.in-AcquireDone.is c.acknowledge-in-AcquireDone.ensures.step

pub returns-in-RequestDeathNotification-clause-step : goal.returns-in-RequestDeathNotification-clause-step
unfolding command_step
returns-in-RequestDeathNotification-clause-step c = rw c.in-RequestDeathNotification.is c.request_death.ensures.step
