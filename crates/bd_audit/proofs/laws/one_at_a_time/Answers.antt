use Rattle.bd_space.specs.Histories.{space_after}
use Rattle.bd_laws.proofs.IsInTurn.InTurn.{one_out}
use Rattle.bd_laws.proofs.Always.{always_tidy}
use Rattle.bd_audit.proofs.laws.one_at_a_time.Goals as goal

pub returns : goal.returns
returns c = λ h lawful o. one_out o (space_after h) (always_tidy h).before.turns
