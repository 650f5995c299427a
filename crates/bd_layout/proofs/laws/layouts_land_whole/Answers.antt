use Rattle.bd_layout.proofs.Aparts.{lands_whole}
use Rattle.bd_layout.proofs.laws.layouts_land_whole.Goals as goal

pub returns : goal.returns
returns c = lands_whole
