use Rattle.bd_laws.proofs.Idle.{no_step_needed}
use Rattle.bd_laws.proofs.laws.no_step_is_needed.Goals as goal

pub returns : goal.returns
returns c = no_step_needed
