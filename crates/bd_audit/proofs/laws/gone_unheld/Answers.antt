use Rattle.bd_audit.proofs.GoneUnheld.Gone.{stays_gone}
use Rattle.bd_audit.proofs.laws.gone_unheld.Goals as goal

pub returns : goal.returns
returns c = λ h lawful i inside o here gone n later. stays_gone h i inside o here gone n later
