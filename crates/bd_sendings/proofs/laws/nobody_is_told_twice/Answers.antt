use Rattle.bd_sendings.proofs.Told.{not_twice}
use Rattle.bd_sendings.proofs.laws.nobody_is_told_twice.Goals as goal

pub returns : goal.returns
returns c = not_twice
