use Rattle.bd_laws.proofs.WhomAStepReaches.Reached.{whom_reached}
use Rattle.bd_laws.proofs.laws.whom_a_step_reaches.Goals as goal

pub returns : goal.returns
returns c = whom_reached
