use Rattle.bd_wrapping.proofs.Founds.{stand_behind}
use Rattle.bd_wrapping.proofs.laws.trailers_stand_behind_all_objects.Goals as goal

pub returns : goal.returns
returns c = stand_behind
