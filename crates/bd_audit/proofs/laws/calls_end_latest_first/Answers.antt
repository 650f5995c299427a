use Rattle.bd_audit.proofs.CallsEndLatestFirst.LatestFirst.{latest_first}
use Rattle.bd_audit.proofs.laws.calls_end_latest_first.Goals as goal

pub returns : goal.returns
returns c = λ h lawful i j m p. latest_first h.entries i j m p
