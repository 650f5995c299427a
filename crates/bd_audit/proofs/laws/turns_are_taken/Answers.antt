use Rattle.bd_audit.proofs.TurnsTellOfCalls.TurnCalls.{turns_taken}
use Rattle.bd_audit.proofs.laws.turns_are_taken.Goals as goal

pub returns : goal.returns
returns c = turns_taken
