use Rattle.bd_audit.proofs.OwnersHearInOrder.Heard.{hears_in_order}
use Rattle.bd_audit.proofs.laws.owners_hear_in_order.Goals as goal

pub returns : goal.returns
returns c = λ h lawful o. hears_in_order h lawful o
