use Rattle.bd_layout.proofs.Drives.{takes_the_same}
use Rattle.bd_layout.proofs.laws.linux_takes_the_same.Goals as goal

pub returns : goal.returns
returns c = takes_the_same
