use Rattle.bd_audit.proofs.TurnsTellOfCalls.TurnCalls.{turns_tell}
use Rattle.bd_audit.proofs.laws.turns_tell_of_calls.Goals as goal

pub returns : goal.returns
returns c = turns_tell
