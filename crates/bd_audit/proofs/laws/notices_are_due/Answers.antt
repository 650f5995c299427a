use Rattle.bd_audit.proofs.NoticesAreDue.Due.{notices_due}
use Rattle.bd_audit.proofs.laws.notices_are_due.Goals as goal

pub returns : goal.returns
returns c = λ h lawful. notices_due h
