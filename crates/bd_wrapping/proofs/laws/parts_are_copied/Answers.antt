use Rattle.bd_wrapping.proofs.Copies.{copied}
use Rattle.bd_wrapping.proofs.laws.parts_are_copied.Goals as goal

pub returns : goal.returns
returns c = copied
