use Rattle.bd_laws.proofs.Always.{always_tidy}
use Rattle.bd_laws.proofs.laws.spaces_are_tidy.Goals as goal

pub returns : goal.returns
returns c = always_tidy
