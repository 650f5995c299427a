use Rattle.bd_audit.proofs.OnlyOwnersHear.Owners.{only_owners}
use Rattle.bd_audit.proofs.laws.only_owners_hear.Goals as goal

pub returns : goal.returns
returns c = λ h lawful o front back e is. only_owners front o e
